use Rattle.std.proofs.Common.{◌≡◌, [], ap, sym, ◌∙◌, nat_cmp, take}
use Rattle.std.specs.Prelude.{Some}
use Rattle.std.specs.Map.{keys_of}
use Rattle.std.specs.FinMap.{get, from_entries, get-empty}
use Rattle.mark_set.specs.Deltas.{difference, difference_at}
use Rattle.mark_set.proofs.Builds.{covers_step, walked, walked_all}
use Rattle.mark_set.proofs.Ids.{get_is}
use Rattle.mark_set.proofs.walks.note_old.Goals as goal

pub loop-i-init : goal.loop-i-init
loop-i-init c = λ q. rw c.requires (get-empty nat_cmp q)

pub loop-i-preserved : goal.loop-i-preserved
loop-i-preserved c =
    let os = c.args.old.now.entries in
    let ns = c.args.new.now.entries in
    let k = c.in-Some.id.now in
    let pick = difference_at os ns in
    let is : pick k ≡ c.in_ok-difference_of.field-0 =
    ap (λ x. difference x (get (from_entries {R = nat_cmp} ns) k)) (get_is os k ∙ c.in-Some.ensures.value)
    ∙ ap (λ x. difference (Some c.in-Some.before.now) x) (get_is ns k ∙ sym c.get.ensures.value) ∙ sym c.in_ok-difference_of.ensures in
    walked pick [] os c.loop-i.i k c.in-Some.before.now _ _ (sym c.in-Some.ensures.entry) c.in_ok-note.ensures
    (covers_step pick (from_entries {R = nat_cmp} c.loop-i.found.entries) (keys_of (take c.loop-i.i os)) k c.in_ok-difference_of.field-0 c.loop-i.invariant is)

pub returns : goal.returns
returns c = walked_all (difference_at c.args.old.now.entries c.args.new.now.entries) [] c.args.old.now.entries c.loop-i.i _ (rw c.len-i-end.ensures.len at c.loop-i-test.false) c.loop-i.invariant
