use Rattle.std.proofs.Common.{subst}
use Rattle.script_words.specs.Inside.Tokens.{StartsWithNone}
use Rattle.script_words.proofs.words.take_quoted.Goals as goal

pub returns-in_default : goal.returns-in_default
returns-in_default c = subst StartsWithNone c.replace-whole.ensures.value (rw c.in_default.is at c.in_ok-token.ensures)
