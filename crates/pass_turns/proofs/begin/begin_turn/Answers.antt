use Rattle.std.proofs.Common.{◌≡◌, subst}
use Rattle.ws_turn.specs.Lists.{of}
use Rattle.pass_turns.proofs.There.{there_found}
use Rattle.pass_turns.proofs.begin.begin_turn.Goals as goal

pub returns-clause-own : goal.returns-clause-own
returns-clause-own g c = let t = c.take-machine.ensures in subst (λ z. of g.S.Logged.by z.number z.seen ≡ z.mine) t.pass t.own.0

pub returns-clause-there : goal.returns-clause-there
returns-clause-there g c =
    let m = g.S.Machine in
    let l = g.S.Logged in
    let k = c.args.token.now in
    let t = c.take-machine.ensures in
    there_found l.by m.is_there g.met.S.Machine.stays _ k.number k.seat.me.0.seen (l.list c.take-machine.result) k.seat.me.0.mine c.requires.there t.begins k.own (subst (λ z. of l.by z.number z.seen ≡ z.mine) t.pass t.own.0)

pub returns-clause-legal : goal.returns-clause-legal
returns-clause-legal g c = subst (λ b. g.S.Machine.legal b (g.S.Logged.list c.take-machine.result)) c.take-machine.ensures.base c.settle.ensures
