use Rattle.std.proofs.Common.{◌≡◌, ◌<◌, ◌+◌, ◌^◌, length}
use Rattle.script_words.specs.Lines.{lines_of}
use Rattle.script_words.specs.Inside.Passing.{next_number, Skips}
use Rattle.script_words.specs.Inside.Counts.{Advances}
use Rattle.script_words.proofs.reader.Reader.skip.Given as goal

abbrev pub invariant-loop-self : goal.invariant-loop-self
invariant-loop-self l = record {
  fits : l.self.number + length l.self.rest < 2 ^ 63;
  rest : Skips l.fn.self.rest l.self.rest;
  count : Advances l.fn.self l.self;
  next : next_number l.self.number (lines_of l.self.rest) ≡ next_number l.fn.self.number (lines_of l.fn.self.rest);
}

abbrev pub decreases-loop-self : goal.decreases-loop-self
decreases-loop-self l = length l.self.rest
