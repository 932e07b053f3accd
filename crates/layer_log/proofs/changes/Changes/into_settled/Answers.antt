use Rattle.std.proofs.Common.{subst, ◌≤◌}
use Rattle.std.specs.FinMap as map
use Rattle.layer_log.specs.Inside.Compositions.{Composed}
use Rattle.layer_log.proofs.Settling.{already_settled}
use Rattle.layer_log.proofs.changes.Changes.into_settled.Goals as goal

pub returns-then-self-clause-composed : goal.returns-then-self-clause-composed
returns-then-self-clause-composed c = subst (λ m. Composed map.empty m c.self.inside.log) c.self.view_is (already_settled c.self.inside.log (c.self.invariant c.if-self.true))

pub returns-clause-composed : goal.returns-clause-composed
returns-clause-composed c = subst (λ m. Composed map.empty m c.settle.new.self) c.self.view_is c.settle.ensures.composed

pub returns-clause-most : goal.returns-clause-most
returns-clause-most c = subst (λ m. map.len c.settle.new.self ≤ map.len m) c.self.view_is c.settle.ensures.most
