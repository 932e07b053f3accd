use Rattle.std.proofs.Common.{◌≡◌, ◌++◌, length}
use Rattle.script_words.specs.Words.{Grows, quoted_text}
use Rattle.script_words.proofs.word_text.put_quoted.Given as goal

abbrev pub invariant-loop-invalid : goal.invariant-loop-invalid
invariant-loop-invalid l = record { text : l.out.items ++ quoted_text l.rest ≡ l.fn.out.items ++ quoted_text l.word; kept : Grows l.fn.out.items l.out.items }

abbrev pub decreases-loop-invalid : goal.decreases-loop-invalid
decreases-loop-invalid l = length l.rest
