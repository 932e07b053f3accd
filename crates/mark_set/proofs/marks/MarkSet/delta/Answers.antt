use Rattle.std.proofs.Common.{sym, ◌∙◌}
use Rattle.std.proofs.lemmas.Result.{IfOk-weaker}
use Rattle.mark_set.proofs.Changes.{no_deltas}
use Rattle.mark_set.proofs.marks.MarkSet.delta.Goals as goal

pub returns-clause-none : goal.returns-clause-none
returns-clause-none c =
    let laws = no_deltas c.args.old.now c.args.new.now in
    IfOk-weaker c.differences_of.result _ _ (λ v e. (λ h. laws.0 (sym e ∙ h), λ h. e ∙ laws.1 h)) (rw (c.markers.ensures, c.markers-2.ensures) at c.differences_of.ensures)
