-- How what is seen is walked: from entry to entry at or below the roots, which are the inputs and the output, and from one
-- that is at or below none on to the next root.
use Rattle.std.specs.Prelude.{◌≡◌, ◌<◌, ℕ, Bool, true, false, ◌&&◌, if◌then◌else◌, List, ◌∷◌, ◌++◌, filter, length, Option, None, Some, IfSome}
use Rattle.std.specs.List.{flat_map, list_any}
use Rattle.std.specs.Ordering.{is_lt}
use Rattle.res_path.specs.Paths.{Names, path_cmp}
use Rattle.ws_elem.specs.declared.element.Element.{Element}
use Rattle.ws_elem.specs.Trees.{Tree}
use Rattle.op_kind.specs.Entries.{Entries}
use Rattle.op_kind.specs.Members.{found_at}
use Rattle.op_plan.specs.Inside.Walks.{entries_after}
use Rattle.builder_api.specs.Files.{file_entry}
use Rattle.build_due.specs.Sights.{is_seen}

-- the files among the entries that are seen
abbrev pub seen_files : List Names → Names → Entries → List (Names × List ℕ)
seen_files inputs output es = flat_map file_entry (filter (λ e. is_seen inputs output e.0) es)

abbrev pub roots : List Names → Names → List Names
roots inputs output = output ∷ inputs

-- q stands before the place, if there is one
abbrev pub is_before : Option Names → Names → Bool
is_before None q = true
is_before (Some r) q = is_lt (path_cmp q r)

-- q stands above p, and before the place
abbrev pub is_between : Names → Option Names → Names → Bool
is_between p place q = is_lt (path_cmp p q) && is_before place q

-- the nearer one of a place above p and r, where r is above p
abbrev pub nearer : Names → Option Names → Names → Option Names
nearer p place r = if is_between p place r then Some r else place

-- the first of the roots above p, if there is one
pub record IsNextRoot (rs : List Names) (p : Names) (place : Option Names) : Type 0 where
  pub above : IfSome place (λ r. is_lt (path_cmp p r) ≡ true)
  pub first : list_any (is_between p place) rs ≡ false

-- from x on all is seen that is seen above p
pub record IsNext (inputs : List Names) (output : Names) (t : Tree) (p : Names) (x : Names × Option Element) : Type 0 where
  pub all : seen_files inputs output (entries_after t p) ≡ seen_files inputs output (found_at x.0 x.1 ++ entries_after t x.0)
  pub fewer : length (entries_after t x.0) < length (entries_after t p)
