use Rattle.std.proofs.Common.{◌≡◌, ap, sym, ◌∙◌, nat_cmp, take, append-nil}
use Rattle.std.specs.Prelude.{Some, option_copied}
use Rattle.std.specs.Map.{keys_of}
use Rattle.std.specs.FinMap.{get, from_entries}
use Rattle.std.proofs.Common.{◌++◌}
use Rattle.mark_set.specs.Inside.Builds.{with_some}
use Rattle.mark_set.specs.Deltas.{difference, difference_at}
use Rattle.mark_set.proofs.Builds.{covers_came, walked, walked_all, told_in_front}
use Rattle.mark_set.proofs.Ids.{get_is}
use Rattle.mark_set.proofs.walks.note_new.Goals as goal

pub loop-i-init : goal.loop-i-init
loop-i-init c = rw append-nil c.requires

pub loop-i-preserved : goal.loop-i-preserved
loop-i-preserved c =
    let os = c.args.old.now.entries in
    let ns = c.args.new.now.entries in
    let k = c.in-Some.id.now in
    let pick = difference_at os ns in
    let before = option_copied c.get.result in
    let is : pick k ≡ difference before (Some c.in-Some.after.now) =
    ap (λ x. difference x (get (from_entries {R = nat_cmp} ns) k)) (get_is os k ∙ sym c.get.ensures.value)
    ∙ ap (λ x. difference before x) (get_is ns k ∙ c.in-Some.ensures.value) in
    walked pick (keys_of os) ns c.loop-i.i k c.in-Some.after.now _ _ (sym c.in-Some.ensures.entry)
    (c.in_ok-note.ensures ∙ ap (λ o. with_some (from_entries {R = nat_cmp} c.loop-i.found.entries) k o) c.in_ok-came.ensures)
    (covers_came pick (from_entries {R = nat_cmp} c.loop-i.found.entries) (keys_of os ++ keys_of (take c.loop-i.i ns)) k before c.in-Some.after.now c.loop-i.invariant is
    (λ t. told_in_front os (keys_of (take c.loop-i.i ns)) k (rw (← c.get.ensures.value) t)))

pub returns : goal.returns
returns c = walked_all (difference_at c.args.old.now.entries c.args.new.now.entries) (keys_of c.args.old.now.entries) c.args.new.now.entries c.loop-i.i _ (rw c.len-i-end.ensures.len at c.loop-i-test.false) c.loop-i.invariant
