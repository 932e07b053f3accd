use Rattle.script_lang.proofs.Begun.{no_start}
use Rattle.script_lang.proofs.command.start_of.Goals as goal

pub returns-in-None : goal.returns-in-None
returns-in-None c = no_start c.args.tokens.now c.sleep_of-asleep.result.1.now c.sleep_of-asleep.result.0 c.sleep_of-asleep.ensures (rw c.in-None.is at c.in_ok-rule_of.ensures)
