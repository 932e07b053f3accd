use Rattle.std.proofs.Common.{◌≡◌, ℕ, [], ap, sym, ◌∙◌, nat_cmp, take}
use Rattle.std.specs.Prelude.{Option, Some, None, if◌then◌else◌}
use Rattle.std.specs.Map.{keys_of}
use Rattle.std.specs.FinMap.{get, from_entries, get-empty}
use Rattle.mark_set.specs.Markers.{durable_marks, is_durable, get-durable_marks}
use Rattle.mark_set.specs.declared.marker.Marker.{Marker}
use Rattle.mark_set.proofs.Builds.{covers_step, covers_all, walked, walked_all, none_there}
use Rattle.mark_set.proofs.Ids.{get_is, same_gets}
use Rattle.mark_set.proofs.walks.durable_of.Goals as goal

pub loop-i-init : goal.loop-i-init
loop-i-init c = λ q. rw c.new-kept.ensures.empty (get-empty nat_cmp q)

pub loop-i-preserved : goal.loop-i-preserved
loop-i-preserved c =
    let es = c.args.markers.now.entries in
    let k = c.in-Some.id.now in
    let marks = from_entries {R = nat_cmp} es in
    let pick : ℕ → Option Marker = get (durable_marks marks) in
    let kept : Option Marker = if is_durable (Some c.in-Some.marker.now) then Some c.in-Some.marker.now else None in
    let is : pick k ≡ kept = get-durable_marks marks k ∙ ap (λ (x : Option Marker). if is_durable x then x else None) (get_is es k ∙ c.in-Some.ensures.value) in
    walked pick [] es c.loop-i.i k c.in-Some.marker.now _ _ (sym c.in-Some.ensures.entry) c.in_ok-keep.ensures
    (covers_step pick (from_entries {R = nat_cmp} c.loop-i.kept.entries) (keys_of (take c.loop-i.i es)) k kept c.loop-i.invariant is)

pub returns : goal.returns
returns c =
    let es = c.args.markers.now.entries in
    let marks = from_entries {R = nat_cmp} es in
    let pick : ℕ → Option Marker = get (durable_marks marks) in
    same_gets _ _ (covers_all pick (from_entries {R = nat_cmp} c.loop-i.kept.entries) (keys_of es)
    (walked_all pick [] es c.loop-i.i _ (rw c.len-i-end.ensures.len at c.loop-i-test.false) c.loop-i.invariant)
    (λ q h. get-durable_marks marks q ∙ ap (λ (x : Option Marker). if is_durable x then x else None) (none_there es q h)))
