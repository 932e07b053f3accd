use Rattle.std.proofs.Common.{◌≡◌, [], ◌∷◌, ◌++◌, true, sym, ap, ◌∙◌, subst}
use Rattle.ws_turn.specs.Lists.{StartsWith}
use Rattle.ws_turn.specs.Passes.{known}
use Rattle.pass_turns.proofs.There.{there_found}
use Rattle.pass_turns.proofs.Entered.{not_own, own_then, took_in}
use Rattle.pass_turns.proofs.entering.take_in.Goals as goal

pub returns-in-Ok-clause-ok : goal.returns-in-Ok-clause-ok
returns-in-Ok-clause-ok g c =
    let m = g.S.Machine in
    let l = g.S.Logged in
    let t = c.begin_turn-machine.ensures in
    let h = l.list c.begin_turn-machine.result in
    let o = c.in-Ok.ensures.ok in
    let j = c.join.ensures in
    let is = j.holder (ap (λ z. z.holds) t.took) ∙ ap (λ z. z.seen) t.took in
    let by_it = o.2 ∙ (c.number.ensures ∙ ap (λ z. z.number) t.took) in
    let back = c.give_back.ensures.with_more (o.0 ∷ []) (o.1 ∙ ap (λ z. z ++ o.0 ∷ []) (sym is)) in
    took_in l.by l.gives m.legal m.left (l.base c.args.lock.now.table.shared.key.value) (known c.args.token.now) (known c.args.other) (known c.join.new.pass) (known c.begin_turn-machine.new.token) (known c.give_back.new.pass) h (l.list c.leave-left.new.self) o.0 t.took j.pass is j.begins.0 t.begins t.own o.1 by_it o.3 o.4 j.own.2 back c.give_back.ensures.own
    (subst (λ b. m.legal b (l.list c.leave-left.new.self)) (c.leave-left.ensures.base ∙ t.base) c.settle.ensures)

pub returns-in-Ok-clause-there : goal.returns-in-Ok-clause-there
returns-in-Ok-clause-there g c =
    let m = g.S.Machine in
    let l = g.S.Logged in
    let t = c.begin_turn-machine.ensures in
    let k = c.args.token.now in
    let h = l.list c.begin_turn-machine.result in
    let b = l.base c.args.lock.now.table.shared.key.value in
    let o = c.in-Ok.ensures.ok in
    let j = c.join.ensures in
    let is = j.holder (ap (λ z. z.holds) t.took) ∙ ap (λ z. z.seen) t.took in
    let by_it = o.2 ∙ (c.number.ensures ∙ ap (λ z. z.number) t.took) in
    let back = c.give_back.ensures.with_more (o.0 ∷ []) (o.1 ∙ ap (λ z. z ++ o.0 ∷ []) (sym is)) in
    let found = there_found l.by m.is_there g.met.S.Machine.stays b k.number k.seat.me.0.seen h k.seat.me.0.mine c.requires.there (subst (λ z. StartsWith z k.seat.me.0.seen) is j.begins.0) k.own
    (own_then l.by l.gives m.legal (known k) (known c.join.new.pass) h (known c.begin_turn-machine.new.token) j.pass is j.own.0) in
    let after = g.met.S.Machine.stays b h o.0 k.number found (not_own l.by l.gives m.legal (known k) (known c.args.other) (known c.join.new.pass) (known c.begin_turn-machine.new.token) h o.0 t.took j.pass j.own.2 by_it) in
    subst (λ n. m.is_there b c.give_back.new.pass.seat.me.0.seen n ≡ true) (sym (ap (λ z. z.number) back ∙ ap (λ z. z.number) j.pass))
    (subst (λ s. m.is_there b s k.number ≡ true) (sym (ap (λ z. z.seen) back ∙ o.1)) after)
