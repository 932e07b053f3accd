-- One entry of an ordered map by path.
use Rattle.std.specs.Prelude.{◌≡◌, cond, List, Option}
use Rattle.std.specs.BTreeMap.{is_at}
use Rattle.std.specs.Map.{lookup}
use Rattle.res_path.specs.Paths.{Names, path_cmp}
use Rattle.elem_tree.specs.declared.slot.Slot.{Slot}

-- the path's slot, if it has one
abbrev pub found : List (Names × Slot) → Names → Option Slot
found es p = lookup (is_at (path_cmp p)) es

-- p has this slot or none, and the other paths theirs
abbrev pub SetsAt : List (Names × Slot) → List (Names × Slot) → Names → Option Slot → Type 0
SetsAt old new p slot = (q : Names) → found new q ≡ cond (is_at (path_cmp p) q) slot (found old q)
