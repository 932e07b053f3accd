use Rattle.std.proofs.Common.{ap, sym, subst, ◌∙◌}
use Rattle.std.specs.Prelude.{Some, drop, take}
use Rattle.ws_marks.specs.Places.{place_of}
use Rattle.ws_marks.specs.Inside.{AllBelow, NoneBelow, placed, starts_at}
use Rattle.ws_marks.proofs.Sorted.{new_none, over_found, put_new, put_over}
use Rattle.ws_marks.proofs.records.put.Goals as goal

pub returns-then-is_at-clause-before : goal.returns-then-is_at-clause-before
returns-then-is_at-clause-before g c =
    let n = c.count_below-count.result in
    ap Some c.replace.ensures.value
    ∙ over_found c.args.records.now.items n c.args.new (subst (λ rs. AllBelow (place_of c.args.new) (take n rs)) c.as_slice.ensures.value c.count_below-count.ensures.before)
    (ap (λ rs. starts_at (place_of c.args.new) (drop n rs)) (sym c.as_slice-2.ensures.value) ∙ sym c.is_at.ensures ∙ c.if-is_at.true)

pub returns-then-is_at-clause-ok : goal.returns-then-is_at-clause-ok
returns-then-is_at-clause-ok g c =
    let n = c.count_below-count.result in
    ap placed c.replace.ensures.items
    ∙ put_over c.args.records.now.items n c.args.new (subst (λ rs. AllBelow (place_of c.args.new) (take n rs)) c.as_slice.ensures.value c.count_below-count.ensures.before)
    (ap (λ rs. starts_at (place_of c.args.new) (drop n rs)) (sym c.as_slice-2.ensures.value) ∙ sym c.is_at.ensures ∙ c.if-is_at.true)

pub returns-clause-before : goal.returns-clause-before
returns-clause-before g c =
    let n = c.count_below-count.result in
    sym (new_none c.args.records.now.items n (place_of c.args.new) c.requires
    (subst (λ rs. AllBelow (place_of c.args.new) (take n rs)) c.as_slice.ensures.value c.count_below-count.ensures.before)
    (subst (λ rs. NoneBelow (place_of c.args.new) (drop n rs)) c.as_slice.ensures.value c.count_below-count.ensures.from)
    (ap (λ rs. starts_at (place_of c.args.new) (drop n rs)) (sym c.as_slice-2.ensures.value) ∙ sym c.is_at.ensures ∙ c.if-is_at.false))

pub returns-clause-ok : goal.returns-clause-ok
returns-clause-ok g c =
    let n = c.count_below-count.result in
    ap placed c.in_ok-insert.ensures.items
    ∙ put_new c.args.records.now.items n c.args.new
    (subst (λ rs. AllBelow (place_of c.args.new) (take n rs)) c.as_slice.ensures.value c.count_below-count.ensures.before)
    (subst (λ rs. NoneBelow (place_of c.args.new) (drop n rs)) c.as_slice.ensures.value c.count_below-count.ensures.from)
    (ap (λ rs. starts_at (place_of c.args.new) (drop n rs)) (sym c.as_slice-2.ensures.value) ∙ sym c.is_at.ensures ∙ c.if-is_at.false)
