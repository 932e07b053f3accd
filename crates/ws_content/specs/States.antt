-- What is there, and what is remembered beside it.
use Rattle.std.specs.Prelude.{List, map, Option, None}
use Rattle.std.specs.FinMap.{empty, from_entries}
use Rattle.std.specs.Option.{option_map}
use Rattle.ws_elem.specs.declared.elem_map.ElemMap.{ElemMap}
use Rattle.ws_elem.specs.Trees.{Tree}
use Rattle.op_kind.specs.Resources.{Resources}
use Rattle.ws_marks.specs.declared.record.Record.{Record}
use Rattle.ws_marks.specs.declared.state.State.{State}
use Rattle.ws_marks.specs.Places.{Records, States, place_of}

-- the trees that are remembered
pub record Remembered : Type 0 where
  -- the tree with which the workspace was opened
  pub start : Tree
  -- the tree as it was last told
  pub told : Tree
  -- what was built last, by project and by command, each with the tree after that
  pub built : Records Tree
  -- what participants keep, by their names, each with the tree of that time where it asked for what changes
  pub kept : States Tree
  -- while a save is under way, what they kept when it began
  pub before : Option (States Tree)

-- what is there, and what it was
pub record Contents : Type 0 where
  -- the tree, the members of closed projects, the counters and the partners
  pub resources : Resources
  pub remembered : Remembered

-- the tree alone, with which the workspace was opened
abbrev pub tree_alone : Tree → Remembered
tree_alone t = record { start = t; told = t; built = empty; kept = empty; before = None }

-- the tree is told
abbrev pub with_told : Remembered → Tree → Remembered
with_told r tree = record r { told = tree }

-- this is what was built last
abbrev pub with_built : Remembered → Records Tree → Remembered
with_built r built = record r { built = built }

-- the record with its tree, the room aside
abbrev pub shown_built : Record ElemMap → Record Tree
shown_built r = record { project = r.project; index = r.index; command = r.command; references = r.references; tree = r.tree.map }

-- the state with its tree, the room aside
abbrev pub shown_kept : State ElemMap → State Tree
shown_kept s = record { participant = s.participant; bytes = s.bytes; tree = option_map (λ t. t.map) s.tree }

-- states, each under its participant's name; of several of one name the first
abbrev pub at_names : List (State Tree) → States Tree
at_names ss = from_entries (map (λ s. (s.participant, s)) ss)

-- records, each at its place
abbrev pub at_places : List (Record Tree) → Records Tree
at_places rs = from_entries (map (λ r. (place_of r, r)) rs)
