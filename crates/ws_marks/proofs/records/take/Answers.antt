use Rattle.std.proofs.Common.{ap, sym, subst, ◌∙◌}
use Rattle.std.specs.Prelude.{Some, drop, take}
use Rattle.std.specs.Option.{option_map}
use Rattle.ws_marks.specs.Inside.{AllBelow, InOrder, NoneBelow, starts_in}
use Rattle.ws_marks.proofs.Firsts.{first_found, first_none, in_length}
use Rattle.ws_marks.proofs.Sorted.{removed_order}
use Rattle.ws_marks.proofs.Tables.{removed_is}
use Rattle.ws_marks.proofs.records.take.Goals as goal

pub returns-then-not-is_of-clause-first : goal.returns-then-not-is_of-clause-first
returns-then-not-is_of-clause-first g c =
    let n = c.count_below-count.result in
    sym (ap (option_map (λ e. e.1)) (first_none c.args.project.now c.args.from c.args.records.now.items n c.requires
    (subst (λ rs. AllBelow (c.args.project.now, c.args.from) (take n rs)) c.as_slice.ensures.value c.count_below-count.ensures.before)
    (subst (λ rs. NoneBelow (c.args.project.now, c.args.from) (drop n rs)) c.as_slice.ensures.value c.count_below-count.ensures.from)
    (ap (λ rs. starts_in c.args.project.now (drop n rs)) (sym c.as_slice-2.ensures.value) ∙ sym c.is_of.ensures ∙ c.if-not-is_of.true)))

pub returns-clause-first : goal.returns-clause-first
returns-clause-first g c =
    let n = c.count_below-count.result in
    ap Some c.remove.ensures.value
    ∙ sym (first_found c.args.project.now c.args.from c.args.records.now.items n c.remove.result
    (subst (λ rs. AllBelow (c.args.project.now, c.args.from) (take n rs)) c.as_slice.ensures.value c.count_below-count.ensures.before)
    (subst (λ rs. NoneBelow (c.args.project.now, c.args.from) (drop n rs)) c.as_slice.ensures.value c.count_below-count.ensures.from)
    (ap (λ rs. starts_in c.args.project.now (drop n rs)) (sym c.as_slice-2.ensures.value) ∙ sym c.is_of.ensures ∙ c.if-not-is_of.false))

pub returns-clause-order : goal.returns-clause-order
returns-clause-order g c = subst InOrder (sym c.remove.ensures.items) (removed_order c.args.records.now.items c.count_below-count.result c.requires)

pub returns-clause-rest : goal.returns-clause-rest
returns-clause-rest g c =
    let n = c.count_below-count.result in
    removed_is c.args.records.now.items c.remove.new.self.items n c.remove.result c.requires
    (in_length c.args.project.now c.args.from c.args.records.now.items n
    (ap (λ rs. starts_in c.args.project.now (drop n rs)) (sym c.as_slice-2.ensures.value) ∙ sym c.is_of.ensures ∙ c.if-not-is_of.false))
    c.remove.ensures.items c.remove.ensures.value
