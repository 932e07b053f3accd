use Rattle.std.proofs.Common.{sym, subst}
use Rattle.elem_tree.specs.Inside.Forgets.{AreSpared}
use Rattle.elem_tree.specs.Inside.Shown.{with_current}
use Rattle.elem_tree.proofs.Forgets.{all_same}
use Rattle.elem_tree.proofs.Since.{on_err}
use Rattle.elem_tree.proofs.forgetting.forget_layer.Goals as goal

pub returns-in_err-push_current-clause-err : goal.returns-in_err-push_current-clause-err
returns-in_err-push_current-clause-err c = on_err c.from_residual.result
    (subst (AreSpared (with_current c.args.layers.now.items c.args.current.now))
    (sym (λ i. with_current (c.in_err-push_current.ensures.err i) (c.in_err-push_current.ensures.same i))) (all_same (with_current c.args.layers.now.items c.args.current.now)))
