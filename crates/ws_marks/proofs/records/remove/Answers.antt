use Rattle.std.proofs.Common.{ap, sym, subst, ◌∙◌}
use Rattle.std.specs.Prelude.{Some, drop, take}
use Rattle.std.specs.FinMap as map
use Rattle.std.specs.FinMap.{get-from_sorted}
use Rattle.ws_marks.specs.Places.{Place, place_cmp, place_of}
use Rattle.ws_marks.specs.Inside.{AllBelow, InOrder, NoneBelow, placed, starts_at}
use Rattle.ws_marks.proofs.Sorted.{new_none, over_found_at, over_place, over_there, removed_order}
use Rattle.ws_marks.proofs.Tables.{none_removed, removed_is}
use Rattle.ws_marks.proofs.records.remove.Goals as goal

pub returns-then-not-is_at-clause-found : goal.returns-then-not-is_at-clause-found
returns-then-not-is_at-clause-found g c =
    let n = c.count_below-count.result in
    let k : Place = (c.args.project.now, c.args.index) in
    sym (new_none c.args.records.now.items n k c.requires
    (subst (λ rs. AllBelow k (take n rs)) c.as_slice.ensures.value c.count_below-count.ensures.before)
    (subst (λ rs. NoneBelow k (drop n rs)) c.as_slice.ensures.value c.count_below-count.ensures.from)
    (ap (λ rs. starts_at k (drop n rs)) (sym c.as_slice-2.ensures.value) ∙ sym c.is_at.ensures ∙ c.if-not-is_at.true))

pub returns-then-not-is_at-clause-rest : goal.returns-then-not-is_at-clause-rest
returns-then-not-is_at-clause-rest g c =
    let k : Place = (c.args.project.now, c.args.index) in
    none_removed (map.from_sorted (placed c.args.records.now.items)) k
    (get-from_sorted place_cmp (placed c.args.records.now.items) k c.requires ∙ sym (returns-then-not-is_at-clause-found g c))

pub returns-clause-found : goal.returns-clause-found
returns-clause-found g c =
    let n = c.count_below-count.result in
    let k : Place = (c.args.project.now, c.args.index) in
    ap Some c.remove.ensures.value
    ∙ over_found_at k c.args.records.now.items n c.remove.result
    (subst (λ rs. AllBelow k (take n rs)) c.as_slice.ensures.value c.count_below-count.ensures.before)
    (ap (λ rs. starts_at k (drop n rs)) (sym c.as_slice-2.ensures.value) ∙ sym c.is_at.ensures ∙ c.if-not-is_at.false)

pub returns-clause-order : goal.returns-clause-order
returns-clause-order g c = subst InOrder (sym c.remove.ensures.items) (removed_order c.args.records.now.items c.count_below-count.result c.requires)

pub returns-clause-rest : goal.returns-clause-rest
returns-clause-rest g c =
    let n = c.count_below-count.result in
    let k : Place = (c.args.project.now, c.args.index) in
    let here = ap (λ rs. starts_at k (drop n rs)) (sym c.as_slice-2.ensures.value) ∙ sym c.is_at.ensures ∙ c.if-not-is_at.false in
    removed_is c.args.records.now.items c.remove.new.self.items n c.remove.result c.requires (over_there k c.args.records.now.items n here) c.remove.ensures.items c.remove.ensures.value
    ∙ ap (map.remove (map.from_sorted (placed c.args.records.now.items)))
    (ap place_of c.remove.ensures.value ∙ over_place k c.args.records.now.items n c.remove.result here)
