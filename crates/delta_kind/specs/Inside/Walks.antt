-- Two lists of entries, walked side by side.
use Rattle.std.specs.Prelude.{List, [], ◌∷◌, map, filter, Option, Some, None}
use Rattle.std.specs.FinMap.{entries}
use Rattle.std.specs.List.{cons_option}
use Rattle.std.specs.Map.Iter.{deref_pair}
use Rattle.std.specs.Option.{option_map}
use Rattle.std.specs.Ordering.{match_ordering}
use denote.Ref.{Bor}
use Rattle.res_path.specs.Paths.{Names, path_cmp}
use Rattle.ws_elem.specs.declared.element.Element.{Element}
use Rattle.ws_elem.specs.Trees.{Tree}
use Rattle.delta_kind.specs.declared.walk.Walk.{Walk}
use Rattle.delta_kind.specs.Flags.{differs}
use Rattle.delta_kind.specs.Rows.{Rows, Sides}

abbrev pub only_before : Names × Element → Names × Sides
only_before e = (e.0, (Some e.1, None))

abbrev pub only_after : Names × Element → Names × Sides
only_after e = (e.0, (None, Some e.1))

-- the row of the lower of two first entries, or of both, and then the other rows
abbrev pub merged_from : Names × Element → (List (Names × Element) → Rows) → List (Names × Element) → Rows
merged_from x rest [] = only_before x ∷ rest []
merged_from x rest (y ∷ ys) =
    match_ordering (path_cmp x.0 y.0) (only_before x ∷ rest (y ∷ ys)) ((x.0, (Some x.1, Some y.1)) ∷ rest ys) (only_after y ∷ merged_from x rest ys)

-- a row for each path of either list, in path order
abbrev pub merged : List (Names × Element) → List (Names × Element) → Rows
merged [] ys = map only_after ys
merged (x ∷ xs) ys = merged_from x (merged xs) ys

-- the rows of the paths that differ
abbrev pub differing : Tree → Tree → Rows
differing a b = filter (λ row. differs row.1.0 row.1.1) (merged (entries a) (entries b))

-- an entry that was looked at, and those after it
abbrev pub pending : Option (Bor Names × Bor Element) → List (Names × Element) → List (Names × Element)
pending seen rest = cons_option (option_map deref_pair seen) rest

-- the rows that a walk has left
abbrev pub rows_left : Walk → Rows
rows_left w = merged (pending w.first w.before) (pending w.second w.after)
