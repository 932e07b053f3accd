use Rattle.std.proofs.Common.{rules, ◌≡◌, ◌++◌, ap, sym, subst, ◌∙◌}
use Rattle.std.specs.Prelude.{None}
use Rattle.std.specs.Option.{option_copied}
use Rattle.ws_marks.specs.Places.{Place}
use Rattle.ws_marks.specs.Inside.{NoneBelow}
use Rattle.ws_marks.proofs.Firsts.{above_end, above_here, above_second}
use Rattle.ws_marks.proofs.records.above.Goals as goal

pub returns-in_err-first : goal.returns-in_err-first
returns-in_err-first g c =
    let k : Place = (c.args.project.now, c.args.index) in
    let none : option_copied c.from_residual.result ≡ None = search (rules, c.from_residual.ensures) in
    none ∙ sym (above_end k c.args.records.now c.from.ensures.0 c.from.result.now c.from.ensures.1 c.from.ensures.2 c.in_err-first.ensures.cases)

pub returns-then-is_at : goal.returns-then-is_at
returns-then-is_at g c =
    let k : Place = (c.args.project.now, c.args.index) in
    let first = c.in_ok-first.ensures.cases.0 in
    c.first.ensures.value
    ∙ sym (above_second k c.args.records.now c.from.ensures.0 c.in_ok-first.others.now c.in_ok-first.first.now c.requires (c.from.ensures.1 ∙ ap (λ ys. c.from.ensures.0 ++ ys) first) c.from.ensures.2
    (sym c.is_at.ensures ∙ c.if-is_at.true))

pub returns-else-is_at : goal.returns-else-is_at
returns-else-is_at g c =
    let k : Place = (c.args.project.now, c.args.index) in
    let first = c.in_ok-first.ensures.cases.0 in
    sym (above_here k c.args.records.now c.from.ensures.0 c.in_ok-first.others.now c.in_ok-first.first.now (c.from.ensures.1 ∙ ap (λ ys. c.from.ensures.0 ++ ys) first) c.from.ensures.2
    (subst (NoneBelow k) first c.from.ensures.3).0 (sym c.is_at.ensures ∙ c.if-is_at.false))
