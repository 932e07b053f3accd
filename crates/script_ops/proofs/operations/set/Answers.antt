use Rattle.script_ops.proofs.Verbs.{no_set}
use Rattle.script_ops.proofs.operations.set.Goals as goal

pub returns-in-None : goal.returns-in-None
returns-in-None c = no_set c.args.rest.now (rw c.in-None.is at c.in_ok-path_id_change.ensures)
