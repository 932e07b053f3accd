use Rattle.std.proofs.Common.{◌++◌, sym, ap, subst, ◌∙◌}
use Rattle.std.specs.Prelude.{take}
use Rattle.elem_tree.specs.Inside.Shown.{NoneBelow}
use Rattle.elem_tree.proofs.Marks.{cut_parts}
use Rattle.elem_tree.proofs.layer.layers_from.Goals as goal

pub returns : goal.returns
returns c =
    let n = c.count_before-count.result in (
      take n c.args.layers.now,
      cut_parts n c.args.layers.now ∙ ap (λ xs. take n c.args.layers.now ++ xs) (sym c.split_at.ensures.back),
      c.count_before-count.ensures.before,
      subst (NoneBelow c.args.mark) (sym c.split_at.ensures.back) c.count_before-count.ensures.from,
    )
