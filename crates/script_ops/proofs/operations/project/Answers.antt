use Rattle.std.proofs.Common.{refl}
use Rattle.script_ops.proofs.Verbs.{no_project}
use Rattle.script_ops.proofs.operations.project.Goals as goal

pub returns-in-None : goal.returns-in-None
returns-in-None c = no_project c.args.kind.now c.args.rest.now c.requires (rw c.in-None.is at c.path_alone.ensures)

pub returns-in-Some : goal.returns-in-Some
returns-in-Some c = ((refl, refl), (c.requires, rw c.in-Some.is at c.path_alone.ensures))
