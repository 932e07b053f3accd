use Rattle.std.proofs.Common.{rules}
use Rattle.ws_turn.proofs.Queue.{draws}
use Rattle.ws_turn.proofs.steps.draw_ticket.Goals as goal

pub fetch_add-requires : goal.fetch_add-requires
fetch_add-requires g c = let n = c.requires.number in let i = c.requires.idle in
    (search rules, search rules, draws g.S.Logged.list g.S.Logged.base g.S.Logged.by g.S.Logged.gives _ _ _ c.args.chair.now.me n.0 c.requires.live i.0 i.1 n.1)
