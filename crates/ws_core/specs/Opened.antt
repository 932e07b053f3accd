-- A workspace as it is opened from what was kept.
use Rattle.std.specs.Prelude.{List, map, None}
use Rattle.std.specs.List.{AllByRecursion}
use Rattle.ws_elem.specs.Stamps.{SameContents}
use Rattle.ws_elem.specs.Trees.{Tree, Whole}
use Rattle.proj_desc.specs.Canonical.{IsCommandText}
use Rattle.op_kind.specs.Resources.{Resources}
use Rattle.op_kind.specs.Sound as ops
use Rattle.op_kind.specs.Stamps.{IsKnown}
use Rattle.ws_durable.specs.Saved.{Saved, SavedBuilt, SavedKept, trees}
use Rattle.ws_marks.specs.declared.record.Record.{Record}
use Rattle.ws_marks.specs.declared.state.State.{State}
use Rattle.built_read.specs.Records.{command_in}
use Rattle.ws_content.specs.States.{at_names, at_places}
use Rattle.job_manager.specs.Managers.{first_manager}
use Rattle.res_path.specs.Paths.{Names}
use Rattle.service_desk.specs.Desks.{desk_of}
use Rattle.ws_core.specs.States.{Moment}

abbrev pub resources_of : Saved → Resources
resources_of d = record {
  tree = d.tree;
  shelf = d.shelf;
  next_node = d.next_node;
  next_stamp = d.next_stamp;
  next_marker = d.next_marker;
  partners = d.partners;
}

-- what was built last, with the command that its text is
abbrev pub built_of : SavedBuilt → Record Tree
built_of b = record { project = b.project; index = b.index; command = command_in b.command; references = b.references; tree = b.tree }

-- what a participant keeps
abbrev pub kept_of : SavedKept → State Tree
kept_of k = record { participant = k.participant; bytes = k.bytes; tree = k.tree }

-- the workspace opened from what was kept, with these builders: its tree is told, what was built last is remembered and what
-- participants keep, no save is under way, and pass 0 alone is there
abbrev pub opened_of : Saved → Names → Moment
opened_of d builders = record {
  resources = resources_of d;
  remembered = record { start = d.tree; told = d.tree; built = at_places (map built_of d.built); kept = at_names (map kept_of d.kept); before = None };
  manager = first_manager;
  desk = desk_of builders;
}

-- the trees that are remembered: the tree, those of what was built last, and those that participants keep
abbrev pub past_of : Saved → List Tree
past_of d = trees d

-- What must hold of what was kept, so that a workspace is opened from it.
pub record IsOpenable (d : Saved) : Type 0 where
  -- the resources are sound
  pub resources : ops.IsConsistent (resources_of d)
  -- the trees that are remembered are whole
  pub whole : AllByRecursion Whole (past_of d)
  -- their numbers are below their counters, and equal stamps in them and in what is there mean equal contents
  pub known : AllByRecursion (IsKnown (resources_of d)) (past_of d)
  -- so do equal stamps in any two of them
  pub alike : AllByRecursion (λ t. AllByRecursion (SameContents t) (past_of d)) (past_of d)
  -- each command's text is the canonical text of a command of its project
  pub commands : AllByRecursion (λ b. IsCommandText b.project b.command) d.built
