use Rattle.std.proofs.Common.{rules}
use Rattle.ws_turn.proofs.Queue.{looks}
use Rattle.ws_turn.proofs.steps.look_once.Goals as goal

pub load-requires : goal.load-requires
load-requires g c = let l = c.requires.live in let q = c.requires.queued in
    (search rules, search rules, looks g.S.Logged.list g.S.Logged.base g.S.Logged.by g.S.Logged.gives _ _ _ c.args.chair.now.me q.0 l.0 q.1 l.1)
