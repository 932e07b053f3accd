use Rattle.std.proofs.Common.{◌≢◌, nat_cmp}
use Rattle.std.specs.FinMap.{empty, get-empty}
use Rattle.mark_set.specs.Markers.{with_attribute}
use Rattle.mark_set.specs.declared.marker.Marker.{Marker}
use Rattle.mark_set.proofs.Ids.{still_changed}
use Rattle.mark_set.proofs.marks.MarkSet.write.Goals as goal

pub unreachable-requires : goal.unreachable-requires
unreachable-requires c = let known = rw (← c.self.view_is, c.in-None.is, get-empty nat_cmp c.args.id) at c.requires.known in cc

pub invariant_of-self : goal.invariant_of-self
invariant_of-self c =
    let kept : c.deref_mut.result.now ≢ empty = rw c.deref_mut.ensures.value (rw c.in-Some.is at c.self.invariant) in
    still_changed c.set.result _ _ c.args.id (λ (m : Marker). with_attribute m c.args.name.now c.args.value) c.set.ensures.ok c.set.ensures.err kept
