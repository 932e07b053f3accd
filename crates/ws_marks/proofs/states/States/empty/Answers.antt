use Rattle.std.proofs.Common.{sym, subst}
use Rattle.std.specs.FinMap.{from_entries}
use Rattle.ws_marks.specs.Places.{name_cmp}
use Rattle.ws_marks.specs.Inside.{AllNamed}
use Rattle.ws_marks.proofs.Kept.{named_none}
use Rattle.ws_marks.proofs.states.States.empty.Goals as goal

pub invariant_of-result : goal.invariant_of-result
invariant_of-result g c = subst (λ es. AllNamed (from_entries {R = name_cmp} es)) (sym c.new.ensures.empty) named_none
