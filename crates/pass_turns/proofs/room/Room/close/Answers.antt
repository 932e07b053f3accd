use Rattle.std.proofs.Common.{◌≡◌, false, sym, ap, ◌∙◌, subst}
use Rattle.ws_turn.specs.Lists.{HasNoneOf}
use Rattle.pass_turns.specs.Turns.{knows, shown, CameTo}
use Rattle.pass_turns.proofs.Pairs.{pairs_wider}
use Rattle.pass_turns.proofs.room.Room.close.Goals as goal

pub returns-then-may_close-clause-ok : goal.returns-then-may_close-clause-ok
returns-then-may_close-clause-ok g c =
    let t = c.begin_turn-machine.ensures in
    record { legal_then = t.legal; begins = t.begins; own = t.own; silent = subst (λ z. HasNoneOf g.S.Logged.by z.lost z.seen) t.took c.begin_turn-machine.new.token.silent }

pub returns-then-may_close-clause-told : goal.returns-then-may_close-clause-told
returns-then-may_close-clause-told g c =
    let t = c.begin_turn-machine.ensures in
    let by = g.S.Logged.by in
    pairs_wider _ _ c.args.others.now.items c.tell_all.new.passes.items (λ p q r. subst (λ h. CameTo by h (knows p) (knows q)) (ap (λ z. z.seen) t.took) r.1) c.tell_all.ensures.passes

pub returns-clause-refused : goal.returns-clause-refused
returns-clause-refused g c =
    let m = g.S.Machine in
    let l = g.S.Logged in
    let t = c.begin_turn-machine.ensures in
    let h = l.list c.begin_turn-machine.result in
    let held = c.tell_all.ensures.token ∙ t.took in
    let back = c.give_back.ensures.as_taken (sym (ap (λ z. z.seen) held)) in (
      h,
      t.legal,
      subst (λ b. m.may_close b h ≡ false) t.base (sym c.may_close.ensures ∙ c.if-may_close.false),
      record {
        begins = t.begins;
        own = t.own;
        silent = subst (λ z. HasNoneOf l.by z.lost z.seen) t.took c.begin_turn-machine.new.token.silent;
        now = ap (λ z. shown z) back ∙ ap (λ z. shown z) held;
      },
      pairs_wider _ _ c.args.others.now.items c.tell_all.new.passes.items (λ p q r. (r.0, subst (λ s. CameTo l.by s (knows p) (knows q)) (ap (λ z. z.seen) t.took) r.1)) c.tell_all.ensures.passes,
    )
