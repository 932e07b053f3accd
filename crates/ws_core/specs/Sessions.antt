-- A workspace while it is open.
use Rattle.std.specs.Prelude.{◌≡◌, ℕ, true, List, Some}
use Rattle.std.specs.FinMap.{get}
use Rattle.ws_elem.specs.Stamps.{SameContents}
use Rattle.ws_elem.specs.Trees.{Tree, Whole}
use Rattle.sched_rules.specs.Atoms.{atom_contains, atom_conflicts}
use Rattle.rule_table.specs.Tables.{IsApart}
use Rattle.op_kind.specs.Sound as ops
use Rattle.op_kind.specs.Stamps.{IsKnown}
use Rattle.pass_table.specs.Passes.{is_quiet}
use Rattle.core_event.specs.declared.entry.Entry.{Entry}
use Rattle.ws_marks.specs.declared.record.Record.{Record}
use Rattle.ws_marks.specs.declared.state.State.{State}
use Rattle.ws_marks.specs.Places.{Place, States}
use Rattle.ws_content.specs.States.{Remembered}
use Rattle.ws_core.specs.States.{Moment}
use Rattle.ws_core.specs.Histories.{Legal, replay}

-- the state that a workspace was opened with, what was done since, and the state now
pub record Session : Type 0 where
  pub opened : Moment
  pub history : List Entry
  pub state : Moment

-- a tree that is remembered: as the workspace was opened, as it was told last, as a command was built last, or as a
-- participant keeps it or kept it when the save under way began
pub data IsPast (r : Remembered) (t : Tree) : Type 0 where
  AsStart : t ≡ r.start → IsPast r t
  AsTold : t ≡ r.told → IsPast r t
  AsBuilt : (place : Place) (built : Record Tree) → get r.built place ≡ Some built → t ≡ built.tree → IsPast r t
  AsKept : (name : List ℕ) (kept : State Tree) → get r.kept name ≡ Some kept → kept.tree ≡ Some t → IsPast r t
  AsBefore : (before : States Tree) (name : List ℕ) (kept : State Tree) → r.before ≡ Some before → get before name ≡ Some kept → kept.tree ≡ Some t → IsPast r t

-- what holds of a state at every moment
pub record IsConsistent (s : Moment) : Type 0 where
  -- its resources are sound
  pub resources : ops.IsConsistent s.resources
  -- the trees that are remembered are whole
  pub whole : (t : Tree) → IsPast s.remembered t → Whole t
  -- their numbers are below their counters, and equal stamps in them and in what is there mean equal contents
  pub known : (t : Tree) → IsPast s.remembered t → IsKnown s.resources t
  -- so do equal stamps in any two of them
  pub alike : (t u : Tree) → IsPast s.remembered t → IsPast s.remembered u → SameContents t u
  -- each rule is within each non-null one that its pass began before, and no rules of two passes conflict
  pub apart : IsApart atom_contains atom_conflicts s.manager.passes.rules
  -- where no batch is open, the tree is told
  pub quiet : is_quiet s.manager.passes ≡ true → s.remembered.told ≡ s.resources.tree

-- what holds of an open workspace at every moment
pub record IsSession (x : Session) : Type 0 where
  -- the opened state's tree was remembered and told, and is still remembered
  pub opened_start : x.opened.remembered.start ≡ x.opened.resources.tree
  pub opened_told : x.opened.remembered.told ≡ x.opened.resources.tree
  pub start : x.state.remembered.start ≡ x.opened.resources.tree
  pub opened_sound : IsConsistent x.opened
  pub legal : Legal x.opened x.history
  pub state : x.state ≡ replay x.opened x.history
  pub sound : IsConsistent x.state
