use Rattle.std.proofs.Common.{◌≡◌, true, sym, ap, ◌∙◌, subst}
use Rattle.ws_turn.specs.Passes.{known}
use Rattle.pass_turns.proofs.There.{there_found}
use Rattle.pass_turns.proofs.Turned.{same_in}
use Rattle.pass_turns.proofs.Told.{came, saw}
use Rattle.pass_turns.proofs.meeting.tell.Goals as goal

pub returns-clause-pass : goal.returns-clause-pass
returns-clause-pass g c =
    came g.S.Logged.by (known c.args.pass.now.token) (known c.meet.new.other) (known c.meet-2.new.pass) (known c.args.token.now) (known c.meet.new.pass)
    (c.meet.ensures.holder c.requires.holds) c.meet.ensures.begins.1 c.meet.ensures.other c.meet-2.ensures.pass c.meet-2.ensures.own

pub invariant_of-pass : goal.invariant_of-pass
invariant_of-pass g c =
    let m = g.S.Machine in
    let l = g.S.Logged in
    let k = c.args.pass.now.token in
    let h = c.args.token.now.seat.me.0.seen in
    let b = l.base c.args.lock.now.table.shared.key.value in
    let is = saw l.by (known k) (known c.meet.new.other) (known c.meet-2.new.pass) (known c.args.token.now) (known c.meet.new.pass)
    (c.meet.ensures.holder c.requires.holds) c.meet.ensures.begins.1 c.meet.ensures.other c.meet-2.ensures.pass in
    let did = came l.by (known k) (known c.meet.new.other) (known c.meet-2.new.pass) (known c.args.token.now) (known c.meet.new.pass)
    (c.meet.ensures.holder c.requires.holds) c.meet.ensures.begins.1 c.meet.ensures.other c.meet-2.ensures.pass c.meet-2.ensures.own in
    let found = there_found l.by m.is_there g.met.S.Machine.stays b k.number k.seat.me.0.seen h k.seat.me.0.mine (c.args.pass.now.there b c.requires.of.1.1) did.begins k.own did.own in
    record {
      idle = ap (λ z. z.holds) is ∙ c.args.pass.now.idle;
      there = λ x e. subst (λ z. m.is_there z c.meet-2.new.pass.seat.me.0.seen c.meet-2.new.pass.number ≡ true) (same_in _ b x c.meet-2.ensures.of.0.1 e)
          (subst (λ j. m.is_there b c.meet-2.new.pass.seat.me.0.seen j ≡ true) (sym (ap (λ z. z.number) is)) (subst (λ s. m.is_there b s k.number ≡ true) (sym (ap (λ z. z.seen) is)) found));
    }
