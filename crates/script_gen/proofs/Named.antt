-- The jobs of different numbers have different names.
use Rattle.std.proofs.Common.{◌≡◌, ◌≢◌, ◌<◌, ◌≤◌, ◌^◌, ℕ, zero, suc, ◌+◌, map, drop, refl, sym, ◌∙◌, ◌*◌, ap, arith}
use Rattle.std.proofs.lemmas.Fmt.{decimal_injective}
use Rattle.std.specs.List.{AllByRecursion, range_with_len}
use Rattle.std.specs.Prelude.{codes}
use Rattle.script_lang.specs.declared.script.Job.{Job}
use Rattle.script_lang.specs.Names.{HaveOwnNames}
use Rattle.script_gen.specs.Draws.{behind}
use Rattle.script_gen.specs.Generated.{numbered, edit_job, edit_jobs}

abbrev HasName : (ℕ → Job) → Type 0
HasName f = (p : ℕ) → (f p).name ≡ numbered (codes "e") p

apart : (p q : ℕ) → p < q → q < 2 ^ 64 → numbered (codes "e") p ≢ numbered (codes "e") q
apart p q below small same =
    let is : p ≡ q = decimal_injective p q (omega (arith, below, small)) small (ap (drop 1) same) in absurd (omega (arith, is, below))

others : (f : ℕ → Job) → HasName f → (p a n : ℕ) → p < a → a + n ≤ 2 ^ 63 → AllByRecursion (λ other. (f p).name ≢ other.name) (map f (range_with_len a n))
others f named p a zero below small = tt
others f named p a (suc n) below small = (
  (λ same. apart p a below (omega (arith, small)) (sym (named p) ∙ same ∙ named a)),
  others f named p (a + 1) n (omega (arith, below)) (omega (arith, small)),
)

own : (f : ℕ → Job) → HasName f → (a n : ℕ) → a + n ≤ 2 ^ 63 → HaveOwnNames (map f (range_with_len a n))
own f named a zero small = tt
own f named a (suc n) small = (
  others f named a (a + 1) n (omega arith) (omega (arith, small)),
  own f named (a + 1) n (omega (arith, small)),
)

pub edits_own : (state : ℕ) → HaveOwnNames (edit_jobs state)
unfolding edit_jobs
edits_own state = own (λ p. edit_job (behind state (100 * p)) p) (λ p. refl) 0 16 (omega arith)
