use Rattle.std.proofs.Common.{subst, arith, ◌≤◌, ◌+◌}
use Rattle.std.specs.FinMap as map
use Rattle.layer_log.specs.Inside.Compositions.{Composed}
use Rattle.layer_log.proofs.Composing.{composed_settled, composed_all_settled, settled_net}
use Rattle.layer_log.proofs.changes.Changes.compose.Goals as goal

pub add_all-requires : goal.add_all-requires
add_all-requires c = composed_settled c.first.inside.log c.in_ok-log.log c.in_ok-log.ensures.composed

pub invariant_of-result : goal.invariant_of-result
invariant_of-result c = λ _. composed_all_settled c.in_ok-log.log c.second.inside.log c.add_all.new.log c.in_ok-add_all.ensures.composed

pub returns-clause-net : goal.returns-clause-net
returns-clause-net c = settled_net c.args.first.now c.in_ok-log.log c.args.second.now c.add_all.new.log c.requires
    (subst (λ m. Composed map.empty m c.in_ok-log.log) c.first.view_is c.in_ok-log.ensures.composed)
    (subst (λ m. Composed c.in_ok-log.log m c.add_all.new.log) c.second.view_is c.in_ok-add_all.ensures.composed)

pub returns-clause-most : goal.returns-clause-most
returns-clause-most c =
    let first = subst (λ m. map.len c.in_ok-log.log ≤ map.len m) c.first.view_is c.in_ok-log.ensures.most in
    let second = subst (λ m. map.len c.add_all.new.log ≤ map.len c.in_ok-log.log + map.len m) c.second.view_is c.in_ok-add_all.ensures.most in
    omega (arith, first, second)
