-- Two lists of entries, walked side by side.
use Rattle.std.specs.Prelude.{List, [], ◌∷◌, map, Option, Some, None, if◌then◌else◌}
use Rattle.std.specs.List.{cons_option}
use Rattle.std.specs.Map.Iter.{deref_pair}
use Rattle.std.specs.Option.{option_copied, option_map}
use Rattle.std.specs.Ordering.{match_ordering}
use denote.Ref.{Bor}
use Rattle.res_path.specs.Paths.{Names, path_cmp}
use Rattle.ws_elem.specs.declared.element.Element.{Element}
use Rattle.tree_rows.specs.declared.pairs.Pair.{Pair}
use Rattle.tree_rows.specs.declared.pairs.Pairs.{Pairs}
use Rattle.tree_rows.specs.Rows.{Rows}
use Rattle.tree_rows.specs.Same.{same_entry}

abbrev pub Listed : Type 0
Listed = List (Names × Element)

-- a path with its entries in two trees
abbrev pub Sides : Type 0
Sides = Names × (Option Element × Option Element)

abbrev pub shown_pair : Pair → Sides
shown_pair p = (p.path.now, (option_copied p.before, option_copied p.after))

abbrev pub only_before : Names × Element → Sides
only_before e = (e.0, (Some e.1, None))

abbrev pub only_after : Names × Element → Sides
only_after e = (e.0, (None, Some e.1))

-- the pair of the lower of two first entries, or of both, and then the other pairs
abbrev pub merged_from : Names × Element → (Listed → List Sides) → Listed → List Sides
merged_from x rest [] = only_before x ∷ rest []
merged_from x rest (y ∷ ys) =
    match_ordering (path_cmp x.0 y.0) (only_before x ∷ rest (y ∷ ys)) ((x.0, (Some x.1, Some y.1)) ∷ rest ys) (only_after y ∷ merged_from x rest ys)

-- a pair for each path of either list, in path order
abbrev pub merged : Listed → Listed → List Sides
merged [] ys = map only_after ys
merged (x ∷ xs) ys = merged_from x (merged xs) ys

-- the rows of the pairs whose entries differ
abbrev pub rows_in : List Sides → Rows
rows_in [] = []
rows_in (p ∷ pairs) = if same_entry p.1.0 p.1.1 then rows_in pairs else (p.0, p.1.1) ∷ rows_in pairs

-- an entry that was looked at, and those after it
abbrev pub pending : Option (Bor Names × Bor Element) → Listed → Listed
pending seen rest = cons_option (option_map deref_pair seen) rest

-- the pairs that a walk has left
abbrev pub pairs_left : Pairs → List Sides
pairs_left w = merged (pending w.first w.before) (pending w.second w.after)
