use Rattle.std.proofs.Common.{◌≡◌, ℕ, nat_cmp}
use Rattle.std.proofs.lemmas.Map.Entries.{entries_from_clone}
use Rattle.std.specs.FinMap as map
use Rattle.mark_set.proofs.Builds.{same_keys}
use Rattle.mark_set.proofs.table.Table.ids.Goals as goal

pub returns : goal.returns
returns c =
    let marks = map.from_entries {R = nat_cmp} c.self.inside.markers.entries in
    let ids = map.from_entries {R = nat_cmp} c.self.inside.ids.entries in
    let same : c.in_ok-clone.field-0.entries ≡ c.self.inside.ids.entries = entries_from_clone (λ (x y : ℕ). y ≡ x) (λ (x y : Unit {0}). y ≡ x) (λ x y e. e) (λ x y e. e) c.self.inside.ids.entries c.in_ok-clone.field-0.entries c.in_ok-clone.ensures.cases in
    rw (← c.self.view_is, ← same_keys ids marks c.self.invariant.1, ← same) c.collect_ids.ensures
