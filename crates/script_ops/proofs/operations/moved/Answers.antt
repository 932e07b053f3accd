use Rattle.std.proofs.Common.{refl}
use Rattle.script_ops.proofs.Verbs.{no_moved}
use Rattle.script_ops.proofs.operations.moved.Goals as goal

pub returns-in-None : goal.returns-in-None
returns-in-None c = no_moved c.args.rest.now (rw c.in-None.is at c.two_paths.ensures)

pub returns-in-Some : goal.returns-in-Some
returns-in-Some c = ((refl, refl), rw c.in-Some.is at c.two_paths.ensures)
