use Rattle.std.proofs.Common.{rules}
use Rattle.ws_turn.proofs.Seats.{learns}
use Rattle.ws_turn.proofs.steps.look_again.Goals as goal

pub load-requires : goal.load-requires
load-requires g c = (search rules, search rules, learns g.S.Logged.list g.S.Logged.base g.S.Logged.by g.S.Logged.gives _ _ _ c.args.chair.now.me c.requires.live)
