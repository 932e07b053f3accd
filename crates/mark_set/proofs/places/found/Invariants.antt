use Rattle.std.proofs.Common.{◌≡◌, length}
use Rattle.std.specs.FinMap.{find}
use Rattle.mark_set.specs.Attributes.{text_cmp}
use Rattle.mark_set.proofs.places.found.Given as goal

abbrev pub invariant-loop-first : goal.invariant-loop-first
invariant-loop-first l = find text_cmp l.name l.rest ≡ find text_cmp l.name l.values

abbrev pub decreases-loop-first : goal.decreases-loop-first
decreases-loop-first l = length l.rest
