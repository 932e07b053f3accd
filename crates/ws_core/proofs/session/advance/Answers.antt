use Rattle.ws_core.proofs.Roomy.{room_after}
use Rattle.ws_core.proofs.session.advance.Goals as goal

pub returns-clause-fits : goal.returns-clause-fits
returns-clause-fits g c =
    let room = c.in_ok-make_room.ensures in
    room_after c.step-replied.result c.args.wants_copy c.args.state.now c.step-replied.new.self c.args.pass c.args.event _ _ _ _
    c.step-replied.ensures.ok c.step-replied.ensures.err room.room room.fits c.write.ensures.len c.write.ensures.same_len c.write.ensures.capacity
