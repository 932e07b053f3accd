use Rattle.std.proofs.Common.{ap, ◌∙◌, filter}
use Rattle.std.specs.FinMap.{get}
use Rattle.std.proofs.lemmas.List.{take_all}
use Rattle.mark_set.specs.Markers.{has_type, ids_of_type}
use Rattle.mark_set.proofs.marks.MarkSet.by_type.Goals as goal

pub returns : goal.returns
unfolding ids_of_type
returns c =
    let all = take_all c.loop-id.id-index c.deref-id-items.result.now c.loop-id-test.false in
    c.loop-id.invariant ∙ ap (λ l. filter (λ id. has_type c.args.mark_type.now (get c.args.self.now id)) l) (all ∙ c.deref-id-items.ensures.value ∙ c.in_ok-ids.ensures)
