use Rattle.std.proofs.Common.{rules, ◌≡◌, ◌++◌, sym, ap, subst, ◌∙◌}
use Rattle.std.specs.Prelude.{None}
use Rattle.std.specs.Option.{option_copied}
use Rattle.std.specs.FinMap.Entries.{find}
use Rattle.ws_marks.specs.Places.{Place, place_cmp}
use Rattle.ws_marks.specs.Inside.{InOrder, NoneBelow, placed}
use Rattle.ws_marks.proofs.Sorted.{found_end, found_first, found_none}
use Rattle.ws_marks.proofs.records.get.Goals as goal

pub returns-in_err-first : goal.returns-in_err-first
returns-in_err-first g c =
    let k : Place = (c.args.project.now, c.args.index) in
    let none : option_copied c.from_residual.result ≡ None = search (rules, c.from_residual.ensures) in
    none ∙ sym (found_end k c.args.records.now c.from.ensures.0 c.from.result.now c.from.ensures.1 c.from.ensures.2 c.in_err-first.ensures.cases)

pub returns-then-is_at : goal.returns-then-is_at
returns-then-is_at g c =
    let k : Place = (c.args.project.now, c.args.index) in
    let first = c.in_ok-first.ensures.cases.0 in
    sym (ap (λ rs. find place_cmp k (placed rs)) (c.from.ensures.1 ∙ ap (λ ys. c.from.ensures.0 ++ ys) first)
    ∙ found_first k c.from.ensures.0 c.in_ok-first.field-0-1.now c.in_ok-first.first.now c.from.ensures.2 (sym c.is_at.ensures ∙ c.if-is_at.true))

pub returns-else-is_at : goal.returns-else-is_at
returns-else-is_at g c =
    let k : Place = (c.args.project.now, c.args.index) in
    let first = c.in_ok-first.ensures.cases.0 in
    let parts = c.from.ensures.1 ∙ ap (λ ys. c.from.ensures.0 ++ ys) first in
    sym (ap (λ rs. find place_cmp k (placed rs)) parts
    ∙ found_none k c.from.ensures.0 c.in_ok-first.field-0-1.now c.in_ok-first.first.now (subst InOrder parts c.requires) c.from.ensures.2 (subst (NoneBelow k) first c.from.ensures.3).0
    (sym c.is_at.ensures ∙ c.if-is_at.false))
