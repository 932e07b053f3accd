-- A phase by its stages: pass 0 schedules, all meet, the workers work, all meet, pass 0 looks and cancels, all meet.
use Rattle.std.proofs.Common.{◌≡◌, ◌∙◌, inl, inr, ◌<◌, ◌+◌, ℕ, suc, List, [], ◌∷◌, length, refl, sym, subst, arith}
use Rattle.core_event.specs.declared.entry.Entry.{Entry}
use Rattle.job_queue.specs.Queues.{live}
use Rattle.ws_core.specs.States.{Moment}
use Rattle.ws_core.specs.Histories.{replay, Legal}
use Rattle.run_order.specs.Lists.{own, Begins, Grew}
use Rattle.run_order.specs.Fronts.{Front, Met}
use Rattle.run_order.proofs.Lists.{begins_on}
use Rattle.phase_pool.specs.Passes.{Known, Makes, Finds}
use Rattle.phase_pool.specs.Workers.{Hand, nobody, worker_at, Together}
use Rattle.phase_pool.specs.Inside.Meeting.{Gathers, HasSeen, IsOfOne}
use Rattle.phase_pool.proofs.Pairs.{pairs_at, pairs_len}
use Rattle.phase_pool.proofs.Passes.{begins_both, grew_at, looks_makes, makes_looks, same_at}

-- what pass 0 and the workers were behind each stage, and what they made in it
pub record Stages (s : Moment) (P : List Entry → Type 0) (Its : ℕ → List Entry → Type 0) (Q : Moment → List Entry → Type 0) (k0 k5 : Known) (w0 w4 : List Hand) : Type 0 where
  pub k1 : Known
  pub k2 : Known
  pub k3 : Known
  pub k4 : Known
  pub w1 : List Hand
  pub w2 : List Hand
  pub w3 : List Hand
  pub begun : Together s k0 w0
  pub first : Makes P k0 k1
  pub met_1 : Gathers k1 k2 w0 w1
  pub same : length w2 ≡ length w1
  pub worked : (i : ℕ) → i < length w1 → Makes (Its (worker_at w1 i).known.number) (worker_at w1 i).known (worker_at w2 i).known
  pub met_2 : Gathers k2 k3 w2 w3
  pub last : Finds s Q k3 k4
  pub met_3 : Gathers k4 k5 w3 w4
  pub legal_2 : Legal s k2.seen
  pub legal_3 : Legal s k3.seen
  pub legal_5 : Legal s k5.seen

-- what holds of what each worker has seen holds of what one of them has
one_at : (Q : List Entry → Type 0) (h : List Entry) (hands : List Hand) → IsOfOne h hands → ((i : ℕ) → i < length hands → Q (worker_at hands i).known.seen) → Q h
one_at Q h [] o f = absurd o
one_at Q h (w ∷ ws) o f = elim o [
  | inl e ↦ subst Q (sym e) (f 0 (omega arith))
  | inr p ↦ one_at Q h ws p (λ i lt. f (suc i) (omega (arith, lt)))
]

module _ {s : Moment} {P : List Entry → Type 0} {Its : ℕ → List Entry → Type 0} {Q : Moment → List Entry → Type 0} {k0 k5 : Known} {w0 w4 : List Hand} (x : Stages s P Its Q k0 k5 w0 w4) where
  -- ---- as many workers as before

  pub len_1 : length x.w1 ≡ length w0
  len_1 = pairs_len (HasSeen x.k2.seen) w0 x.w1 x.met_1.workers

  len_2 : length x.w2 ≡ length w0
  len_2 = x.same ∙ len_1

  len_3 : length x.w3 ≡ length w0
  len_3 = pairs_len (HasSeen x.k3.seen) x.w2 x.w3 x.met_2.workers ∙ len_2

  pub len_4 : length w4 ≡ length w0
  len_4 = pairs_len (HasSeen k5.seen) x.w3 w4 x.met_3.workers ∙ len_3

  -- ---- each worker, stage by stage

  at_1 : (i : ℕ) → i < length w0 → HasSeen x.k2.seen (worker_at w0 i) (worker_at x.w1 i)
  at_1 i lt = pairs_at (HasSeen x.k2.seen) w0 x.w1 i nobody lt x.met_1.workers

  at_2 : (i : ℕ) → i < length w0 → Makes (Its (worker_at x.w1 i).known.number) (worker_at x.w1 i).known (worker_at x.w2 i).known
  at_2 i lt = x.worked i (subst (λ n. i < n) (sym len_1) lt)

  at_3 : (i : ℕ) → i < length w0 → HasSeen x.k3.seen (worker_at x.w2 i) (worker_at x.w3 i)
  at_3 i lt = pairs_at (HasSeen x.k3.seen) x.w2 x.w3 i nobody (subst (λ n. i < n) (sym len_2) lt) x.met_2.workers

  at_4 : (i : ℕ) → i < length w0 → HasSeen k5.seen (worker_at x.w3 i) (worker_at w4 i)
  at_4 i lt = pairs_at (HasSeen k5.seen) x.w3 w4 i nobody (subst (λ n. i < n) (sym len_3) lt) x.met_3.workers

  number_1 : (i : ℕ) → i < length w0 → (worker_at x.w1 i).known.number ≡ i + 1
  number_1 i lt = (at_1 i lt).looks.number ∙ x.begun.numbers i lt

  number_3 : (i : ℕ) → i < length w0 → (worker_at x.w3 i).known.number ≡ i + 1
  number_3 i lt = (at_3 i lt).looks.number ∙ ((at_2 i lt).number ∙ number_1 i lt)

  -- ---- pass 0, stage by stage

  zeroth_2 : x.k2.number ≡ 0
  zeroth_2 = x.met_1.looks.number ∙ (x.first.number ∙ x.begun.zeroth)

  zeroth_3 : x.k3.number ≡ 0
  zeroth_3 = x.met_2.looks.number ∙ zeroth_2

  zeroth_5 : k5.number ≡ 0
  zeroth_5 = x.met_3.looks.number ∙ (x.last.made.number ∙ (x.last.looked.number ∙ zeroth_3))

  -- ---- the meetings, and what was made between them

  pub met : Met (length w0) s k0.seen x.k2.seen x.k3.seen x.last.found.seen k5.seen
  met = record {
    front = x.begun.front;
    to_jobs = begins_on k0.seen x.k1.seen x.k2.seen x.first.begins x.met_1.looks.begins;
    to_parts = x.met_2.looks.begins;
    to_looked = x.last.looked.begins;
    to_last = begins_on x.last.found.seen x.k4.seen k5.seen x.last.made.begins x.met_3.looks.begins;
    legal_jobs = x.legal_2;
    legal_parts = x.legal_3;
    legal_last = x.legal_5;
    rest_first = λ i lt. same_at (i + 1) k0.seen x.k2.seen (worker_at w0 i).known (worker_at x.w1 i).known (x.begun.numbers i lt) (x.begun.seen i lt) (at_1 i lt).seen (at_1 i lt).looks;
    rest_zeroth = same_at 0 x.k2.seen x.k3.seen x.k2 x.k3 zeroth_2 refl refl x.met_2.looks;
    rest_last = λ i lt. same_at (i + 1) x.k3.seen k5.seen (worker_at x.w3 i).known (worker_at w4 i).known (number_3 i lt) (at_3 i lt).seen (at_4 i lt).seen (at_4 i lt).looks;
    rest_looked = same_at 0 x.k3.seen x.last.found.seen x.k3 x.last.found zeroth_3 refl refl x.last.looked;
  }

  pub grew_first : Grew P (own 0 k0.seen) (own 0 x.k2.seen)
  grew_first = grew_at P 0 k0.seen x.k2.seen k0 x.k2 x.begun.zeroth refl refl (makes_looks P k0 x.k1 x.k2 x.first x.met_1.looks)

  pub grew_each : (i : ℕ) → i < length w0 → Grew (Its (i + 1)) (own (i + 1) x.k2.seen) (own (i + 1) x.k3.seen)
  grew_each i lt = grew_at (Its (i + 1)) (i + 1) x.k2.seen x.k3.seen (worker_at x.w1 i).known (worker_at x.w3 i).known (number_1 i lt) (at_1 i lt).seen (at_3 i lt).seen
      (makes_looks (Its (i + 1)) (worker_at x.w1 i).known (worker_at x.w2 i).known (worker_at x.w3 i).known (subst (λ n. Makes (Its n) (worker_at x.w1 i).known (worker_at x.w2 i).known) (number_1 i lt) (at_2 i lt)) (at_3 i lt).looks)

  pub grew_last : Grew (Q (replay s x.last.found.seen)) (own 0 x.k3.seen) (own 0 k5.seen)
  grew_last =
      let q = Q (replay s x.last.found.seen) in
      grew_at q 0 x.k3.seen k5.seen x.k3 k5 zeroth_3 refl refl (looks_makes q x.k3 x.last.found k5 x.last.looked (makes_looks q x.last.found x.k4 k5 x.last.made x.met_3.looks))

  -- ---- where all have met again

  pub together : Front (length w0) s k5.seen → Together s k5 w4
  together f = record {
    front = subst (λ n. Front n s k5.seen) (sym len_4) f;
    zeroth = zeroth_5;
    numbers = λ i lt. let there = subst (λ n. i < n) len_4 lt in (at_4 i there).looks.number ∙ number_3 i there;
    seen = λ i lt. (at_4 i (subst (λ n. i < n) len_4 lt)).seen;
  }

  -- where each worker found no job that waits or is run, there is none once all have met
  pub settled : 0 < length w0 → ((i : ℕ) → i < length x.w2 → live (replay s (worker_at x.w2 i).known.seen).manager.jobs ≡ 0) → live (replay s x.k3.seen).manager.jobs ≡ 0
  settled some over = elim x.met_2.one [
    | inl e ↦ (let from = subst (λ h. Begins h (worker_at x.w2 0).known.seen) ((at_1 0 some).seen ∙ sym e) (at_2 0 some).begins in
        let to = subst (Begins (worker_at x.w2 0).known.seen) (at_3 0 some).seen (at_3 0 some).looks.begins in
        subst (λ h. live (replay s h).manager.jobs ≡ 0) (sym (begins_both (worker_at x.w2 0).known.seen x.k3.seen to from)) (over 0 (subst (λ n. 0 < n) (sym len_2) some)))
    | inr o ↦ one_at (λ h. live (replay s h).manager.jobs ≡ 0) x.k3.seen x.w2 o over
  ]
