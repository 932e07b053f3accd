use Rattle.std.proofs.Common.{rules, List, ap, ◌∙◌, sym, subst}
use Rattle.ws_turn.specs.Lists.{StartsWith}
use Rattle.ws_turn.proofs.Seats.{merges}
use Rattle.ws_turn.proofs.steps.merge_in.Goals as goal

pub join_seat-requires : goal.join_seat-requires
join_seat-requires g c =
    let told = c.learn_from.ensures in
    let kept = ap (λ z. z.me) c.replace-old.ensures.after in
    let old = ap (λ z. z.me) c.replace-old.ensures.value ∙ told.other.2 in
    let a = c.requires.numbers.0 in
    let b = c.requires.numbers.1 in
    let Begins : List g.row.S-Entry.Denot → List g.row.S-Entry.Denot → Type 0 = λ xs ys. StartsWith xs ys in (
      search rules,
      search rules,
      ap (λ m. m.1) old ∙ c.requires.idle.2,
      search rules,
      merges g.S.Logged.list g.S.Logged.base g.S.Logged.by g.S.Logged.gives _ _ c.replace-old.new.dest.me.0 b.0 _ c.replace-old.result.me.0 a.0
          (ap (λ m. m.0.spent) kept ∙ (ap (λ m. m.0.spent) told.seen ∙ c.requires.live.1))
          (ap (λ m. m.0.spent) old ∙ c.requires.live.0)
          (ap (λ m. m.0.number) kept ∙ (ap (λ m. m.0.number) told.seen ∙ b.1))
          (ap (λ m. m.0.number) old ∙ a.1)
          (ap (λ m. m.0.ticket) old ∙ c.requires.idle.0)
          (ap (λ m. m.0.held) old ∙ c.requires.idle.1)
          (subst (λ xs. Begins xs c.replace-old.result.me.0.seen) (sym (ap (λ m. m.0.seen) kept)) (subst (λ ys. Begins c.learn_from.new.chair.me.0.seen ys) (sym (ap (λ m. m.0.seen) old)) told.begins.1)),
    )
