use Rattle.std.proofs.Common.{length}
use Rattle.script_words.proofs.Tokens.{Ahead}
use Rattle.script_words.proofs.words.words_of.Given as goal

abbrev pub invariant-loop-rest : goal.invariant-loop-rest
invariant-loop-rest l = Ahead l.fn.line l.rest l.tokens.items

abbrev pub decreases-loop-rest : goal.decreases-loop-rest
decreases-loop-rest l = length l.rest
