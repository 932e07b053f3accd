use Rattle.std.proofs.Common.{◌≡◌, ℕ, [], ap, sym, ◌∙◌, nat_cmp, take}
use Rattle.std.specs.Prelude.{Option, Some, option_map}
use Rattle.std.specs.Map.{keys_of}
use Rattle.std.specs.Cmp.{nat_cmp_total}
use Rattle.std.specs.FinMap.{get, from_entries, get-empty, nat_cmp-IsAntisymmetric}
use Rattle.mark_set.proofs.Builds.{covers_step, covers_all, walked, walked_all, none_there}
use Rattle.mark_set.proofs.Ids.{get_is}
use Rattle.mark_set.proofs.Maps.{one_put}
use Rattle.mark_set.proofs.walks.found_ids.Goals as goal

pub loop-i-init : goal.loop-i-init
loop-i-init c = λ q. rw c.new-found.ensures.empty (get-empty nat_cmp q)

pub loop-i-preserved : goal.loop-i-preserved
loop-i-preserved c =
    let es = c.args.markers.now.entries in
    let k = c.in-Some.id.now in
    let pick : ℕ → Option (Unit {0}) = λ id. option_map (λ _. tt) (get (from_entries {R = nat_cmp} es) id) in
    let built = from_entries {R = nat_cmp} c.loop-i.found.entries in
    let is : pick k ≡ Some tt = ap (option_map (λ _. tt)) (get_is es k ∙ c.in-Some.ensures.value) in
    walked pick [] es c.loop-i.i k _ _ _ (sym c.in-Some.ensures.entry)
    (one_put nat_cmp_total nat_cmp-IsAntisymmetric c.loop-i.found.entries c.insert.new.self.entries k tt c.in_ok-insert.ensures.updates.0)
    (covers_step pick built (keys_of (take c.loop-i.i es)) k (Some tt) c.loop-i.invariant is)

pub returns : goal.returns
returns c =
    let es = c.args.markers.now.entries in
    let pick : ℕ → Option (Unit {0}) = λ id. option_map (λ _. tt) (get (from_entries {R = nat_cmp} es) id) in
    covers_all pick (from_entries {R = nat_cmp} c.loop-i.found.entries) (keys_of es)
    (walked_all pick [] es c.loop-i.i _ (rw c.len-i-end.ensures.len at c.loop-i-test.false) c.loop-i.invariant)
    (λ q h. ap (option_map (λ _. tt)) (none_there es q h))
