use Rattle.std.proofs.Common.{◌≡◌, ◌+◌, ◌^◌, ◌<◌, length}
use Rattle.save_elem.specs.Telling.{saved, lasting}
use Rattle.save_elem.proofs.writing.count_lasting.Given as goal

-- what was counted, and what is left to count
abbrev pub invariant-loop-of : goal.invariant-loop-of
invariant-loop-of l = (l.count + length (saved l.of-iterator) ≡ length (lasting l.marks)) × (l.count + length l.of-iterator < 2 ^ 64)
