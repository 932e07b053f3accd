use Rattle.script_lang.proofs.Begun.{save_found, no_save}
use Rattle.script_lang.proofs.command.save_line.Goals as goal

pub returns-in-None : goal.returns-in-None
returns-in-None c = no_save c.args.rest.now (rw c.in-None.is at c.saved_alone.ensures)

pub returns-in-Some : goal.returns-in-Some
returns-in-Some c = save_found c.args.rest.now c.in-Some.kind (rw c.in-Some.is at c.saved_alone.ensures)
