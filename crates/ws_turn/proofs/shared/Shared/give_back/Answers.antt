use Rattle.std.proofs.Common.{rules, ◌≡◌, ℕ, List, [], ◌++◌, false, length, is_some, ap, ◌∙◌, sym, Some, append-nil}
use Rattle.ws_turn.specs.Inside.Steps.{in_hand, own}
use Rattle.ws_turn.specs.Passes.{Known}
use Rattle.ws_turn.proofs.Passes.{may_raise, hand_of, sight}
use Rattle.ws_turn.proofs.shared.Shared.give_back.Goals as goal

pub hand_back-requires-clause-held : goal.hand_back-requires-clause-held
hand_back-requires-clause-held g c = hand_of c.args.pass.now.seat.me.0 c.args.pass.now.seat.me.1 c.requires.holds (search rules)

pub hand_back-requires-clause-more : goal.hand_back-requires-clause-more
hand_back-requires-clause-more g c = may_raise g.S.Logged.list g.S.Logged.base g.S.Logged.by g.S.Logged.gives c.args.value c.args.pass.now.seat.me.0 c.args.pass.now.number
    (ap Some c.requires.base ∙ sym c.requires.of.1) c.requires.holds (search rules) c.requires.next

pub invariant_of-pass : goal.invariant_of-pass
invariant_of-pass g c =
    let m = may_raise g.S.Logged.list g.S.Logged.base g.S.Logged.by g.S.Logged.gives c.args.value c.args.pass.now.seat.me.0 c.args.pass.now.number
    (ap Some c.requires.base ∙ sym c.requires.of.1) c.requires.holds (search rules) c.requires.next in
    let on = c.hand_back.ensures.on m.0 m.1.list_is in
    let agrees = c.hand_back.ensures.agrees in
    let numbered = ap (λ z. z.0.number) on ∙ c.args.pass.now.numbered in record {
      live = ap (λ z. z.0.spent) on ∙ c.args.pass.now.live;
      numbered = numbered;
      counted = c.entries-pass.ensures ∙ ap length (sym (ap (λ z. z.0.seen) on));
      rests = (ap (λ z. z.0.told) on ∙ c.args.pass.now.rests.0, ap (λ z. z.0.pending) on);
      held = (ap (λ z. is_some z.0.ticket) on ∙ sym (ap (λ z. is_some z.0.held) on), ap (λ z. z.1) on ∙ sym (ap (λ z. in_hand z.0.held) on));
      own = (agrees.0 c.args.pass.now.number numbered).0;
      silent = agrees.1;
      apart = (agrees.0 c.args.pass.now.number numbered).1;
    }

pub returns-clause-of : goal.returns-clause-of
returns-clause-of g c =
    let m = may_raise g.S.Logged.list g.S.Logged.base g.S.Logged.by g.S.Logged.gives c.args.value c.args.pass.now.seat.me.0 c.args.pass.now.number
    (ap Some c.requires.base ∙ sym c.requires.of.1) c.requires.holds (search rules) c.requires.next in
    let on = c.hand_back.ensures.on m.0 m.1.list_is in
    (c.hand_back.ensures.same.0 ∙ c.requires.of.0, ap (λ z. z.0.base) on ∙ c.requires.of.1)

pub returns-clause-idle : goal.returns-clause-idle
returns-clause-idle g c =
    let m = may_raise g.S.Logged.list g.S.Logged.base g.S.Logged.by g.S.Logged.gives c.args.value c.args.pass.now.seat.me.0 c.args.pass.now.number
    (ap Some c.requires.base ∙ sym c.requires.of.1) c.requires.holds (search rules) c.requires.next in
    ap (λ z. is_some z.0.held) (c.hand_back.ensures.on m.0 m.1.list_is)

pub returns-clause-as_taken : goal.returns-clause-as_taken
returns-clause-as_taken g c = λ same.
    let list = g.S.Logged.list in
    let base = g.S.Logged.base in
    let by = g.S.Logged.by in
    let deals = g.S.Logged.gives in
    let seat = c.args.pass.now.seat.me.0 in
    let n = c.args.pass.now.number in
    let on = ap (λ z. sight list base by deals n z.0) (c.hand_back.ensures.on [] (same ∙ sym (append-nil seat.seen))) in
    let own_none : own list base by deals seat.number [] ≡ [] = ap (λ o. own list base by deals o []) c.args.pass.now.numbered in
    let sights : List g.row.S-Entry.Denot → List g.row.S-Entry.Denot → List ℕ → Known g.row.S-Entry.Denot = λ seen mine lost. record { number = n; seen = seen; mine = mine; lost = lost; joined = []; holds = false } in
    on ∙ (ap (λ l. sights (list c.args.value) (seat.mine ++ l) (seat.lost ++ [])) own_none ∙ (ap (λ l. sights (list c.args.value) l (seat.lost ++ [])) (append-nil seat.mine)
    ∙ (ap (λ l. sights (list c.args.value) seat.mine l) (append-nil seat.lost) ∙ ap (λ l. sights l seat.mine seat.lost) same)))
