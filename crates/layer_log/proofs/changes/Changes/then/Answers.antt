use Rattle.std.proofs.Common.{subst, arith, ◌≤◌, ◌+◌}
use Rattle.std.specs.FinMap as map
use Rattle.layer_log.specs.Inside.Compositions.{Composed}
use Rattle.layer_log.proofs.Composing.{composed_settled, composed_all_settled, settled_net}
use Rattle.layer_log.proofs.changes.Changes.then.Goals as goal

pub take_all-requires : goal.take_all-requires
take_all-requires g c = composed_settled c.args.self c.into_settled-log.result c.into_settled-log.ensures.composed

pub invariant_of-result : goal.invariant_of-result
invariant_of-result g c = λ _. composed_all_settled c.into_settled-log.result c.next.inside.log c.take_all.new.log c.in_ok-take_all.ensures.composed

pub returns-clause-net : goal.returns-clause-net
returns-clause-net g c = settled_net c.args.self c.into_settled-log.result c.args.next.now c.take_all.new.log c.requires c.into_settled-log.ensures.composed
    (subst (λ m. Composed c.into_settled-log.result m c.take_all.new.log) c.next.view_is c.in_ok-take_all.ensures.composed)

pub returns-clause-most : goal.returns-clause-most
returns-clause-most g c =
    let first = c.into_settled-log.ensures.most in
    let second = subst (λ m. map.len c.take_all.new.log ≤ map.len c.into_settled-log.result + map.len m) c.next.view_is c.in_ok-take_all.ensures.most in
    omega (arith, first, second)
