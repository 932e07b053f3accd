use Rattle.std.proofs.Common.{ap, arith, length}
use Rattle.ws_core.specs.Inside.Rooms.{due_back}
use Rattle.ws_core.specs.States.{Moment}
use Rattle.ws_core.proofs.SessionsKept.{opens}
use Rattle.ws_core.proofs.session.Core.over.Goals as goal

pub invariant_of-result : goal.invariant_of-result
invariant_of-result g c =
    let none = ap (λ (s : Moment). length s.manager.passes.rules) c.in_ok-state.ensures in
    let home = ap (λ (s : Moment). due_back s.manager.passes.services) c.in_ok-state.ensures in
    (opens c.args.builders _ _ _ c.of-opened.ensures c.in_ok-state.ensures c.new.ensures.items, omega (arith, none, home, c.new.ensures.len))
