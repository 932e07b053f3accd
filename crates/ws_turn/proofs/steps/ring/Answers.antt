use Rattle.std.proofs.Common.{rules}
use Rattle.ws_turn.proofs.Seats.{rings}
use Rattle.ws_turn.proofs.steps.ring.Goals as goal

pub fetch_add-requires : goal.fetch_add-requires
fetch_add-requires g c = (search rules, search rules, rings g.S.Logged.list g.S.Logged.base g.S.Logged.by g.S.Logged.gives _ _ _ c.args.chair.now.me c.bell_of-bell.result c.bell_of-bell.ensures.0)
