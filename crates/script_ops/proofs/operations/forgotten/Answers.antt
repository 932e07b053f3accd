use Rattle.std.proofs.Common.{refl}
use Rattle.script_ops.proofs.Verbs.{no_forgotten}
use Rattle.script_ops.proofs.operations.forgotten.Goals as goal

pub returns-in-None : goal.returns-in-None
returns-in-None c = no_forgotten c.args.rest.now (rw c.in-None.is at c.path_alone.ensures)

pub returns-in-Some : goal.returns-in-Some
returns-in-Some c = ((refl, refl), rw c.in-Some.is at c.path_alone.ensures)
