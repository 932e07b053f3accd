-- Equal sets have no marker delta, and others have one.
use Rattle.std.proofs.Common.{◌≡◌, ◌↔◌, ℕ, Bool, true, false, cond, List, [], ◌∷◌, length, nat_cmp, refl, sym, ap, ◌∙◌}
use Rattle.std.specs.Prelude.{Option, Some, None, map}
use Rattle.std.specs.Cmp.{nat_cmp_total}
use Rattle.std.specs.FinMap.{FinMap, get, empty, entries, values, len-entries, empty_of_len, get-empty, nat_cmp-IsAntisymmetric}
use Rattle.mark_set.specs.Deltas.{changed, difference, differences, marker_deltas}
use Rattle.mark_set.specs.Markers.{Marks, same_marker, same_marker-Decides}
use Rattle.mark_set.specs.declared.delta.MarkerDelta.{MarkerDelta}
use Rattle.mark_set.specs.declared.marker.Marker.{Marker}
use Rattle.mark_set.proofs.Builds.{get_differences}
use Rattle.mark_set.proofs.Ids.{same_gets}
use Rattle.mark_set.proofs.Maps.{entries-empty}

difference_none : (x y : Option Marker) → difference x y ≡ None → x ≡ y
difference_none None None e = refl
difference_none None (Some b) e = absurd cc
difference_none (Some a) None e = absurd cc
difference_none (Some a) (Some b) e = go (same_marker a b) refl e where
  go : (t : Bool) → same_marker a b ≡ t → cond t None (Some (changed a)) ≡ None → Some a ≡ Some b
  go true is e = ap Some ((same_marker-Decides a b).0 is)
  go false is e = absurd cc

difference_same : (x : Option Marker) → difference x x ≡ None
difference_same None = refl
difference_same (Some a) = rw ((same_marker-Decides a a).1 refl) refl

nothing_mapped : {A B : Type 0} (f : A → B) (xs : List A) → map f xs ≡ [] → length xs ≡ 0
nothing_mapped f [] e = refl
nothing_mapped f (x ∷ xs) e = absurd cc

pub no_deltas : (a b : Marks) → (marker_deltas a b ≡ []) ↔ (a ≡ b)
unfolding marker_deltas
no_deltas a b = (
  λ e. let none : differences a b ≡ empty = empty_of_len (differences a b) (len-entries (differences a b) ∙ nothing_mapped (λ (x : ℕ × MarkerDelta). x.1) (entries (differences a b)) e) in
      same_gets a b (λ q. difference_none (get a q) (get b q) (sym (get_differences a b q) ∙ ap (λ (m : FinMap nat_cmp MarkerDelta). get m q) none ∙ get-empty nat_cmp q)),
  λ e. let none : differences a b ≡ empty = same_gets _ _ (λ q. get_differences a b q ∙ ap (λ (m : Marks). difference (get a q) (get m q)) (sym e) ∙ difference_same (get a q) ∙ sym (get-empty nat_cmp q)) in
      ap (λ (m : FinMap nat_cmp MarkerDelta). values m) none ∙ ap (λ (l : List (ℕ × MarkerDelta)). map (λ x. x.1) l) (entries-empty nat_cmp_total nat_cmp-IsAntisymmetric),
)
