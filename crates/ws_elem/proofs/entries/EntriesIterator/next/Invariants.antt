use Rattle.std.proofs.Common.{◌≡◌, length}
use Rattle.ws_elem.specs.Inside.Slots.{filled}
use Rattle.ws_elem.proofs.entries.EntriesIterator.next.Given as goal

abbrev pub invariant-loop-path : goal.invariant-loop-path
invariant-loop-path l = filled l.self-inside.slots ≡ l.fn.self

abbrev pub decreases-loop-path : goal.decreases-loop-path
decreases-loop-path l = length l.self-inside.slots
