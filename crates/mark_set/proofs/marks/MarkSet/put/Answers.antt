use Rattle.std.proofs.Common.{◌≢◌, sym, ◌∙◌}
use Rattle.std.specs.Cmp.{nat_cmp_total}
use Rattle.std.specs.FinMap.{empty, nat_cmp-IsAntisymmetric}
use Rattle.mark_set.proofs.Ids.{still_put}
use Rattle.mark_set.proofs.Maps.{put_not_empty}
use Rattle.mark_set.proofs.marks.MarkSet.put.Goals as goal

pub invariant_of-self : goal.invariant_of-self
invariant_of-self c =
    let kept : c.deref_mut.result.now ≢ empty = rw c.deref_mut.ensures.value (rw c.in-Some.is at c.self.invariant) in
    still_put c.put.result _ _ _ _ c.put.ensures.ok c.put.ensures.err kept

pub invariant_of-self-in-None : goal.invariant_of-self-in-None
invariant_of-self-in-None c = λ e. put_not_empty nat_cmp_total nat_cmp-IsAntisymmetric _ c.args.marker.id c.args.marker (sym c.in_ok-put-in-None.ensures.ok ∙ sym c.in_ok-new-in-None.ensures.ok ∙ e)
