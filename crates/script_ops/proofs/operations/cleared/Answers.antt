use Rattle.std.proofs.Common.{refl}
use Rattle.script_ops.proofs.Verbs.{no_cleared}
use Rattle.script_ops.proofs.operations.cleared.Goals as goal

pub returns-in-None : goal.returns-in-None
returns-in-None c = no_cleared c.args.rest.now (rw c.in-None.is at c.in_ok-path_kind_depth.ensures)

pub returns-in-Some : goal.returns-in-Some
returns-in-Some c = ((refl, refl), rw c.in-Some.is at c.in_ok-path_kind_depth.ensures)
