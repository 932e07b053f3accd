use Rattle.std.proofs.Common.{ap, ◌∙◌, filter}
use Rattle.std.specs.FinMap.{get}
use Rattle.std.proofs.lemmas.List.{take_all}
use Rattle.output_commit.specs.Told.{is_problem_of}
use Rattle.output_commit.proofs.telling.problem_ids.Goals as goal

pub returns : goal.returns
returns c =
    let all = take_all c.loop-id.id-index c.deref-id-items.result.now c.loop-id-test.false in
    c.loop-id.invariant ∙ ap (λ l. filter (λ id. is_problem_of c.args.index (get c.args.marks.now id)) l) (all ∙ c.deref-id-items.ensures.value ∙ c.in_ok-ids.ensures)
