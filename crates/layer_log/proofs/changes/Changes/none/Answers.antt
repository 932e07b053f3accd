use Rattle.std.proofs.Common.{sym, subst}
use Rattle.layer_log.specs.Records.{Settled}
use Rattle.layer_log.proofs.Composing.{empty_settled}
use Rattle.layer_log.proofs.changes.Changes.none.Goals as goal

pub invariant_of-result : goal.invariant_of-result
invariant_of-result c = λ t. subst Settled (sym c.empty.ensures) empty_settled
