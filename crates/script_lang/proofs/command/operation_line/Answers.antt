use Rattle.script_lang.proofs.Begun.{no_operation, op_found}
use Rattle.script_lang.proofs.command.operation_line.Goals as goal

pub returns-in-None : goal.returns-in-None
returns-in-None c = no_operation c.args.verb c.args.rest.now c.requires (rw c.in-None.is at c.in_ok-operation_with.ensures)

pub returns-in-Some : goal.returns-in-Some
returns-in-Some c = op_found c.args.verb c.args.rest.now c.in-Some.op c.doing.result c.doing.ensures (rw c.in-Some.is at c.in_ok-operation_with.ensures)
