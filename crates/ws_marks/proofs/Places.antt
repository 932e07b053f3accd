-- The orders of names and of places.
use Rattle.std.proofs.Common.{◌≡◌, refl}
use Rattle.std.specs.declared.cmp.Ordering.{Ordering}
use Rattle.std.specs.declared.cmp.Ordering.TheVariants.{Less, Equal, Greater}
use Rattle.std.specs.Ordering.{ordering_then}
use Rattle.std.specs.Cmp.{IsTotalOrder}
use Rattle.std.specs.Cmp.Lexicographic.{nat_list_cmp_total}
use Rattle.std.specs.FinMap.{IsAntisymmetric, nat_cmp-IsAntisymmetric, slice_cmp-IsAntisymmetric}
use Rattle.std.proofs.lemmas.Cmp.{nat_cmp_total, on_total, then_total}
use Rattle.ws_marks.specs.Places.{Place, name_cmp, place_cmp}

pub name_cmp_total : IsTotalOrder name_cmp
name_cmp_total = nat_list_cmp_total

pub name_cmp_exact : IsAntisymmetric name_cmp
name_cmp_exact = slice_cmp-IsAntisymmetric nat_cmp-IsAntisymmetric

pub place_cmp_total : IsTotalOrder place_cmp
place_cmp_total = then_total (on_total (λ (p : Place). p.0) name_cmp_total) (on_total (λ (p : Place). p.1) nat_cmp_total)

both_equal : (a b : Ordering) → ordering_then a b ≡ Equal → (a ≡ Equal) × (b ≡ Equal)
both_equal Less b h = cc
both_equal Equal b h = (refl, h)
both_equal Greater b h = cc

-- no two places are alike
pub place_cmp_exact : IsAntisymmetric place_cmp
place_cmp_exact a b h =
    let parts = both_equal (name_cmp a.0 b.0) _ h in
    let name = name_cmp_exact a.0 b.0 parts.0 in
    let index = nat_cmp-IsAntisymmetric a.1 b.1 parts.1 in
    λ i. (name i, index i)
