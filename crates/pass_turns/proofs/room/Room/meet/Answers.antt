use Rattle.std.proofs.Common.{◌≡◌, true, sym, ap, ◌∙◌, subst}
use Rattle.ws_turn.specs.Lists.{of}
use Rattle.pass_turns.proofs.There.{there_found}
use Rattle.pass_turns.proofs.Turned.{same_in}
use Rattle.pass_turns.proofs.room.Room.meet.Goals as goal

pub invariant_of-pass : goal.invariant_of-pass
invariant_of-pass g c =
    let m = g.S.Machine in
    let l = g.S.Logged in
    let k = c.args.pass.now.token in
    let t = c.meet.ensures in
    let b = l.base c.args.self.now.lock.table.shared.key.value in
    let n = ap (λ z. z.number) t.pass in
    let own = subst (λ j. of l.by j c.meet.new.pass.seat.me.0.seen ≡ k.seat.me.0.mine) n (t.own.0 ∙ ap (λ z. z.mine) t.pass) in
    let found = there_found l.by m.is_there g.met.S.Machine.stays b k.number k.seat.me.0.seen c.meet.new.pass.seat.me.0.seen k.seat.me.0.mine (c.args.pass.now.there b c.requires.0.1) t.begins.0 k.own own in
    record {
      idle = ap (λ z. z.holds) t.pass ∙ c.args.pass.now.idle;
      there = λ x e. subst (λ z. m.is_there z c.meet.new.pass.seat.me.0.seen c.meet.new.pass.number ≡ true) (same_in _ b x t.of.0.1 e)
          (subst (λ j. m.is_there b c.meet.new.pass.seat.me.0.seen j ≡ true) (sym n) found);
    }
