use Rattle.std.proofs.Common.{length}
use Rattle.script_words.specs.Lines.{lines_of}
use Rattle.script_lang.proofs.Whole.{HasRead}
use Rattle.script_lang.proofs.grammar.parse_shared.Given as goal

abbrev pub invariant-loop-alloc : goal.invariant-loop-alloc
invariant-loop-alloc l = HasRead (lines_of l.fn.text) (lines_of l.reader.rest) l.reader.number l.progress

abbrev pub decreases-loop-alloc : goal.decreases-loop-alloc
decreases-loop-alloc l = length (lines_of l.reader.rest)
