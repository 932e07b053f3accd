use Rattle.std.specs.FinMap.{from_entries}
use Rattle.std.proofs.Common.{sym, ◌∙◌, nat_cmp}
use Rattle.mark_set.proofs.Ids.{get_is}
use Rattle.mark_set.proofs.Orders.{next_is, none_next}
use Rattle.mark_set.proofs.mark_iter.Walk.next.Goals.{in-None, in-Some}
use Rattle.mark_set.proofs.mark_iter.Walk.next.Goals as goal

pub returns : goal.returns
returns c = elim c.match-next.branch [
  | in-None w ↦ rw (← c.self.view_is, w.result-is) (none_next (from_entries {R = nat_cmp} c.self.inside.markers.now.entries) c.self.inside.ids c.next.new.self w.in-None.ensures.steps.0 w.in-None.ensures.steps.1)
  | in-Some w ↦ rw (← c.self.view_is, w.result-is)
      (next_is (from_entries {R = nat_cmp} c.self.inside.markers.now.entries) c.self.inside.ids c.next.new.self w.in-Some.id.now w.in-Some.field-0-1.now w.get.result w.in-Some.ensures.steps
      (w.get.ensures.value ∙ sym (get_is c.self.inside.markers.now.entries w.in-Some.id.now)) c.self.invariant).0
]
