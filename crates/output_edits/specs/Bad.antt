-- Paths for which edits are refused.
use Rattle.std.specs.Prelude.{ℕ, ◌&&◌, ◌||◌, Bool, false, nat_lt, if◌then◌else◌, List, [], ◌∷◌, ◌++◌, length, filter, Option, Some, None, is_some}
use Rattle.std.specs.List.{list_any}
use Rattle.std.specs.Option.{option_map}
use Rattle.std.specs.Ordering.{is_lt, eq_by_cmp}
use Rattle.std.specs.FinMap.{keys}
use Rattle.res_path.specs.Paths.{Names, path_cmp, path_text}
use Rattle.ws_elem.specs.Trees.{Tree}
use Rattle.op_kind.specs.Members.{is_below}
use Rattle.op_kind.specs.Places.{is_root_path}
use Rattle.proj_desc.specs.FirstCause.{when}
use Rattle.builder_api.specs.Edits.{Edit, edit_paths}
use Rattle.output_edits.specs.declared.refusal.EditRefusal.{EditRefusal}
use Rattle.output_edits.specs.declared.refusal.EditRefusal.TheVariants.{BadEdits, TooDeep, TooLong, TreeFull, NumbersUsed}

-- the platform's number of a refusal
abbrev pub refusal_number : EditRefusal → ℕ
refusal_number TooDeep = 2
refusal_number TooLong = 3
refusal_number TreeFull = 17
refusal_number NumbersUsed = 18
refusal_number (BadEdits path) = 34

-- ---- the least of some paths

abbrev pub lesser : Option Names → Names → Option Names
lesser None p = Some p
lesser (Some q) p = if is_lt (path_cmp p q) then Some p else Some q

-- the least of these and of one that was found before
abbrev pub least_of : Option Names → List Names → Option Names
least_of found [] = found
least_of found (p ∷ ps) = least_of (lesser found p) ps

-- ---- what makes a path bad

-- the paths that were seen before, or come again
abbrev pub repeated : (Names → Bool) → List Names → List Names
repeated seen [] = []
repeated seen (p ∷ ps) = (if seen p then p ∷ [] else []) ++ repeated (λ q. eq_by_cmp path_cmp q p || seen q) ps

-- the paths of files that lie above the path of another
abbrev pub above_another : Tree → List Names
above_another files = filter (λ p. list_any (is_below p) (keys files)) (keys files)

-- the root, the paths that come again, and those of files that lie above another, as the files are after the edits
abbrev pub bad_paths : List Edit → Tree → List Names
bad_paths es files = filter is_root_path (edit_paths es) ++ repeated (λ _. false) (edit_paths es) ++ above_another files

abbrev pub bad_path : List Edit → Tree → Option Names
bad_path es files = least_of None (bad_paths es files)

-- ---- paths past the limits

-- a file is put below o at a path that would have more than 64 names
abbrev pub goes_too_deep : Names → List Edit → Bool
goes_too_deep o es = list_any (λ e. is_some e.1 && nat_lt 64 (length (o ++ e.0))) es

-- a file is put below o at a path whose text would have more than 4,096 bytes
abbrev pub gets_too_long : Names → List Edit → Bool
gets_too_long o es = list_any (λ e. is_some e.1 && nat_lt 4096 (length (path_text (o ++ e.0)))) es

-- why edits below o can't be made, whatever room and numbers there are; the files are those after them
abbrev pub edit_causes : Names → List Edit → Tree → List (Option EditRefusal)
edit_causes o es files =
    option_map BadEdits (bad_path es files)
    ∷ when (goes_too_deep o es) TooDeep
    ∷ when (gets_too_long o es) TooLong
    ∷ []
