use Rattle.std.proofs.Common.{◌++◌, sym, ap, subst, ◌∙◌}
use Rattle.std.specs.Prelude.{take}
use Rattle.ws_marks.specs.Inside.{NoneBelow}
use Rattle.ws_marks.proofs.Sorted.{cut_parts}
use Rattle.ws_marks.proofs.records.from.Goals as goal

pub returns : goal.returns
returns g c =
    let n = c.count_below-count.result in (
      take n c.args.records.now,
      cut_parts n c.args.records.now ∙ ap (λ xs. take n c.args.records.now ++ xs) (sym c.split_at.ensures.back),
      c.count_below-count.ensures.before,
      subst (NoneBelow (c.args.project.now, c.args.index)) (sym c.split_at.ensures.back) c.count_below-count.ensures.from,
    )
