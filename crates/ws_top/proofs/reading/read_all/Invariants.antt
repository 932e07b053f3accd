use Rattle.std.proofs.Common.{◌≡◌, ◌+◌, ◌≤◌, ◌-◌, length}
use Rattle.ws_outside.specs.Streams.{Takes}
use Rattle.ws_top.specs.Limits.{longest}
use Rattle.ws_top.proofs.Taken.{AtMost}
use Rattle.ws_top.proofs.reading.read_all.Given as goal

-- what was read is kept, no more than the longest script has
abbrev pub invariant-loop-piece : goal.invariant-loop-piece
invariant-loop-piece g l = record {
  taken : Takes (g.S.Source.left l.fn.source) l.bytes.items (g.S.Source.left l.source);
  short : length l.bytes.items ≤ longest;
  few : AtMost (g.S.Source.reads l.fn.source) (g.S.Source.reads l.source) (length l.bytes.items);
  calm : g.S.Source.faults l.source ≡ g.S.Source.faults l.fn.source;
}

abbrev pub decreases-loop-piece : goal.decreases-loop-piece
decreases-loop-piece g l = (longest + 1) - length l.bytes.items
