-- Which of two jobs that wait is first.
use Rattle.std.proofs.Common.{◌≡◌, refl}
use Rattle.std.specs.declared.cmp.Ordering.{Ordering}
use Rattle.std.specs.declared.cmp.Ordering.TheVariants.{Less, Equal, Greater}
use Rattle.std.specs.Ordering.{nat_cmp, ordering_then}
use Rattle.std.specs.Cmp.{IsTotalOrder}
use Rattle.std.specs.FinMap.{IsAntisymmetric, nat_cmp-IsAntisymmetric}
use Rattle.std.proofs.lemmas.Cmp.{nat_cmp_total, on_total, then_total}
use Rattle.job_queue.specs.declared.job.Turn.{Turn}

-- that of the lesser priority, and of one priority that of the lesser number
abbrev pub turn_cmp : Turn → Turn → Ordering
turn_cmp a b = ordering_then (nat_cmp a.priority b.priority) (nat_cmp a.number b.number)

pub turn_cmp_total : IsTotalOrder turn_cmp
turn_cmp_total = then_total (on_total (λ (t : Turn). t.priority) nat_cmp_total) (on_total (λ (t : Turn). t.number) nat_cmp_total)

both_equal : (a b : Ordering) → ordering_then a b ≡ Equal → (a ≡ Equal) × (b ≡ Equal)
both_equal Less b h = cc
both_equal Equal b h = (refl, h)
both_equal Greater b h = cc

-- no two turns are alike
pub turn_cmp_exact : IsAntisymmetric turn_cmp
turn_cmp_exact a b h =
    let parts = both_equal (nat_cmp a.priority b.priority) (nat_cmp a.number b.number) h in
    let priority = nat_cmp-IsAntisymmetric a.priority b.priority parts.0 in
    let number = nat_cmp-IsAntisymmetric a.number b.number parts.1 in
    λ i. record { priority = priority i; number = number i }
