use Rattle.std.proofs.Common.{ap, arith, length}
use Rattle.ws_durable.specs.Saved.{saved}
use Rattle.ws_core.specs.Inside.Rooms.{due_back}
use Rattle.ws_core.specs.Opened.{opened_of}
use Rattle.ws_core.specs.States.{Moment}
use Rattle.ws_core.proofs.OpenedSound.{commands_there, opened_session}
use Rattle.ws_core.proofs.SessionsKept.{begins}
use Rattle.ws_core.proofs.session.Core+LayerTree.of.Goals as goal

pub opened-requires : goal.opened-requires
opened-requires c = commands_there c.args.durable.built c.requires.commands

pub invariant_of-result : goal.invariant_of-result
invariant_of-result c =
    let none = ap (λ (s : Moment). length s.manager.passes.rules) c.in_ok-state.ensures in
    let home = ap (λ (s : Moment). due_back s.manager.passes.services) c.in_ok-state.ensures in
    let session = opened_session (saved c.args.durable) c.args.builders c.requires in
    (begins (opened_of (saved c.args.durable) c.args.builders) _ _ _ session c.of-opened.ensures c.in_ok-state.ensures c.new.ensures.items, omega (arith, none, home, c.new.ensures.len))
