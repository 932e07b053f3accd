-- A marker that was just added.
use Rattle.std.proofs.Common.{◌≡◌, ℕ, cond, List, refl, ap, ◌∙◌, eq-eqb}
use Rattle.std.specs.Prelude.{Some}
use Rattle.std.specs.FinMap.{get}
use Rattle.mark_set.proofs.Ids.{get_insert}
use Rattle.mark_set.specs.declared.marker.Marker.{Marker}
use Rattle.mark_set.specs.declared.value.RawValue.{RawValue}
use Rattle.mark_set.specs.Markers.{Marks, new_marker}
use Rattle.op_kind.specs.Marking.{with_marker}
use Rattle.output_commit.specs.Told.{problem_type}

one : (a b : Marker) → Some a ≡ Some b → a ≡ b
one a b h = cc

pub alone_is : (marks now : Marks) (id : ℕ) (a : List (List ℕ × RawValue)) (x : Marker) → now ≡ with_marker marks id problem_type a → Some x ≡ get now id → x ≡ new_marker id problem_type a
alone_is marks now id a x added found = one x (new_marker id problem_type a)
    (found ∙ ap (λ m. get m id) added ∙ get_insert marks id (new_marker id problem_type a) id ∙ ap (λ b. cond b (Some (new_marker id problem_type a)) (get marks id)) (eq-eqb id id refl))
