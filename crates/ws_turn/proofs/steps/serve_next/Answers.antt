use Rattle.std.proofs.Common.{rules, ◌<◌, arith}
use Rattle.ws_turn.proofs.Queue.{hands_on}
use Rattle.ws_turn.proofs.steps.serve_next.Goals as goal

pub fetch_add-next-requires : goal.fetch_add-next-requires
fetch_add-next-requires g c =
    let h = c.requires.held in
    let some_slot : 0 < c.args.desk.now.table_id.slots = omega (arith, c.requires.here.2) in
    (search rules, search rules, hands_on g.S.Logged.list g.S.Logged.base g.S.Logged.by g.S.Logged.gives _ _ _ c.args.chair.now.me h.1.0 some_slot h.0 h.1.1 h.1.2)
