use Rattle.std.proofs.Common.{◌≡◌, true, sym, ap, ◌∙◌, subst, ◌++◌}
use Rattle.pass_turns.specs.Tokens.{gave}
use Rattle.pass_turns.proofs.Turned.{same_in}
use Rattle.pass_turns.proofs.room.Room.turn.Goals as goal

pub make-answer-requires-clause-there : goal.make-answer-requires-clause-there
make-answer-requires-clause-there g c =
    let m = g.S.Machine in
    let t = c.begin_turn-machine.ensures in
    let h = g.S.Logged.list c.begin_turn-machine.result in
    let n = c.number-number.ensures ∙ ap (λ z. z.number) t.took in
    subst (λ j. m.is_there (g.S.Logged.base c.begin_turn-machine.result) h j ≡ true) (sym n) (subst (λ b. m.is_there b h c.args.pass.now.token.number ≡ true) (sym t.base) t.there)

pub invariant_of-pass : goal.invariant_of-pass
invariant_of-pass g c =
    let m = g.S.Machine in
    let l = g.S.Logged in
    let k = c.args.pass.now.token in
    let t = c.begin_turn-machine.ensures in
    let n = c.number-number.ensures ∙ ap (λ z. z.number) t.took in
    let b = l.base c.args.self.now.lock.table.shared.key.value in
    let d = c.make-answer.ensures.did in
    let left = c.give_back.ensures.with_more d.0 (d.1 ∙ ap (λ z. z.seen ++ d.0) (sym t.took)) ∙ ap (λ z. gave l.by l.gives z (l.list c.make-answer.new.machine) d.0) t.took in
    record {
      idle = c.give_back.ensures.idle;
      there = λ x e.
          let same = same_in _ b x c.give_back.ensures.of.1 e in
          let xs = l.list c.make-answer.new.machine in
          let after = subst (λ j. m.is_there b xs j ≡ true) n (subst (λ z. m.is_there z xs c.number-number.result ≡ true) (c.make-answer.ensures.base ∙ t.base) c.make-answer.ensures.still) in
          subst (λ z. m.is_there z c.give_back.new.pass.seat.me.0.seen c.give_back.new.pass.number ≡ true) same
          (subst (λ j. m.is_there b c.give_back.new.pass.seat.me.0.seen j ≡ true) (sym (ap (λ z. z.number) left))
          (subst (λ s. m.is_there b s k.number ≡ true) (sym (ap (λ z. z.seen) left)) after));
    }
