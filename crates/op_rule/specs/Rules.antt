-- The scheduling rules of operations.
use Rattle.std.specs.Prelude.{if◌then◌else◌, List, [], ◌∷◌}
use Rattle.res_path.specs.Paths.{Names, parent}
use Rattle.sched_rules.specs.Atoms.{atom_contains, atom_cmp}
use Rattle.sched_rules.specs.Rules.{combined}
use Rattle.sched_rules.specs.declared.ws_atom.WsAtom.{WsAtom}
use Rattle.sched_rules.specs.declared.ws_atom.WsAtom.TheVariants as atoms
use Rattle.op_kind.specs.Places.{is_project_path}
use Rattle.op_kind.specs.declared.op.Op.{Op}
use Rattle.op_kind.specs.declared.op.Op.TheVariants.{CreateFile, CreateFolder, CreateProject, Delete, Write, Touch, Derived, Move, Copy, Open, Close, Describe, Forget, Mark, Attr, Unmark, ClearMarks, Partner, Sync, Flush, Read}

-- what is above a path; a project and the root have nothing above them but themselves
abbrev pub up : Names → Names
up p = if is_project_path p then p else parent p

-- the rule of what is at a path and below it
abbrev pub at : Names → List WsAtom
at p = atoms.Path p ∷ []

-- the rule by which an operation is admitted
abbrev pub operation_rule : Op → List WsAtom
operation_rule (CreateFile p bytes) = at (up p)
operation_rule (CreateFolder p) = at (up p)
operation_rule (CreateProject p) = at (up p)
operation_rule (Delete p) = at (up p)
operation_rule (Write p bytes) = at p
operation_rule (Touch p) = at p
operation_rule (Derived p on) = at p
operation_rule (Move from to) = combined atom_cmp atom_contains (at (up from)) (at (up to))
operation_rule (Copy from to) = at (up to)
operation_rule (Open p) = at p
operation_rule (Close p) = at p
operation_rule (Describe p text) = at p
operation_rule (Forget p) = at p
operation_rule (Mark p mark_type attributes) = []
operation_rule (Attr p id name value) = []
operation_rule (Unmark p id) = []
operation_rule (ClearMarks p mark_type depth) = []
operation_rule (Partner name) = []
operation_rule (Sync p name bytes) = at p
operation_rule (Flush p name depth) = at p
operation_rule (Read p want) = []
