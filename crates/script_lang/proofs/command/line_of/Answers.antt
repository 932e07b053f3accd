use Rattle.script_lang.proofs.Begun.{no_verb, no_words}
use Rattle.script_lang.proofs.command.line_of.Goals as goal

pub returns-in_default : goal.returns-in_default
returns-in_default c = no_words c.args.tokens.now c.in_default.len_below

pub returns-in-None : goal.returns-in-None
returns-in-None c = no_verb c.args.tokens.now c.result-item.result c.result-item.is c.in-len1-up.len_at_least (rw c.in-None.is at c.verb_of.ensures)
