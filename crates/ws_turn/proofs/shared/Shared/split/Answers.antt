use Rattle.std.proofs.Common.{rules, ◌≡◌, Bool, true, List, ◌∷◌, ◌++◌, [], ap, ◌∙◌, sym, Some}
use Rattle.std.proofs.lemmas.List.{append_cancel_left}
use Rattle.ws_turn.specs.Lists.{of, put_before}
use Rattle.ws_turn.proofs.Seats.{forks}
use Rattle.ws_turn.specs.Inside.Steps.{own, forked}
use Rattle.ws_turn.specs.Passes.{Known}
use Rattle.ws_turn.proofs.Passes.{may_raise, entered, one_of_one, sight}
use Rattle.ws_turn.proofs.shared.Shared.split.Goals as goal

pub raise_for-requires-clause-more : goal.raise_for-requires-clause-more
raise_for-requires-clause-more g c =
    let list = g.S.Logged.list in
    let base = g.S.Logged.base in
    let by = g.S.Logged.by in
    let deals = g.S.Logged.gives in
    may_raise list base by deals c.args.value.now c.args.pass.now.seat.me.0 c.args.pass.now.number
    (ap Some c.requires.base ∙ sym c.requires.of.1) c.requires.holds (search rules)
    (entered list base by deals c.args.value.now c.args.pass.now.seat.me.0 c.args.pass.now.number c.args.number c.requires.enters)

pub split_seat-seat-requires : goal.split_seat-seat-requires
split_seat-seat-requires g c =
    let e = c.requires.enters in
    let told = c.raise_for.ensures.raised (e.0 ∷ []) e.1 in (
      search rules,
      search rules,
      forks g.S.Logged.list g.S.Logged.base g.S.Logged.by g.S.Logged.gives _ _ c.raise_for.new.chair.me.0 c.args.number c.ranges.number.fits
          (ap (λ m. m.0.spent) told ∙ c.args.pass.now.live) (ap (λ m. m.0.pending) told ∙ ap (λ o. put_before o []) e.3),
    )

pub returns-clause-pass : goal.returns-clause-pass
returns-clause-pass g c = λ more q.
    let list = g.S.Logged.list in
    let base = g.S.Logged.base in
    let by = g.S.Logged.by in
    let deals = g.S.Logged.gives in
    let seat = c.args.pass.now.seat.me.0 in
    let n = c.args.pass.now.number in
    let e = c.requires.enters in
    let told = ap (λ z. z.0) (c.raise_for.ensures.raised more q) in
    let one : more ≡ e.0 ∷ [] = append_cancel_left seat.seen more (e.0 ∷ []) (sym q ∙ e.1) in
    let ours : own list base by deals seat.number more ≡ more = ap (λ o. own list base by deals o more) c.args.pass.now.numbered ∙ (ap (of by n) one ∙ (one_of_one list base by deals n e.0 e.2 ∙ sym one)) in
    let split = ap (λ z. z.0) c.split_seat-seat.ensures.2 in
    let sights : List g.row.S-Entry.Denot → Bool → Known g.row.S-Entry.Denot = λ l b. record { number = n; seen = list c.args.value.now; mine = seat.mine ++ l; lost = seat.lost; joined = seat.joined; holds = b } in
    ap (sight list base by deals n) split ∙ (ap (λ v. sight list base by deals n (forked v)) told ∙ (ap (λ l. sights l true) ours ∙ ap (sights more) (sym c.requires.holds)))
