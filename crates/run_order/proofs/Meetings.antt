-- N workers: from one meeting of all passes to the next, by what each pass made.
use Rattle.std.proofs.Common.{◌≡◌, ◌≢◌, ◌<◌, ◌≤◌, ◌⊎◌, inl, inr, ◌+◌, ℕ, zero, suc, List, [], ◌∷◌, ◌++◌, length, map, refl, ap, sym, ◌∙◌, subst, arith, append_assoc, append-nil}
use Rattle.job_queue.specs.Queues.{live}
use Rattle.pass_table.specs.Passes.{Passes}
use Rattle.core_event.specs.declared.entry.Entry.{Entry}
use Rattle.ws_core.specs.States.{Moment}
use Rattle.ws_core.specs.Histories.{replay, Legal}
use Rattle.ws_core.proofs.Grown.{replay_append}
use Rattle.run_order.specs.Lists.{own, acts, Cut, Grew, Begins}
use Rattle.run_order.specs.Plans.{Phase}
use Rattle.run_order.specs.Parts.{Making, Middle, Parts}
use Rattle.run_order.specs.Orders.{scheduled, cancelled, sleepers, IsPhase, IsCutPhase}
use Rattle.run_order.specs.Fronts.{enters, Front, Met}
use Rattle.run_order.proofs.Lists.{own_yes, own_no, own_append, own_more, begins_on}
use Rattle.run_order.proofs.Numbers.{Below, first_below, enters_append, enters_cut, within}
use Rattle.run_order.proofs.Quiet.{LetsNobodyIn, parts_quiet, cut_parts_quiet, scheduled_quiet, cancelled_quiet}

front_nil : (a b : List Entry) → a ++ b ≡ [] → a ≡ []
front_nil [] b e = refl
front_nil (x ∷ a) b e = let z = ap length e in absurd (omega (arith, z))

back_nil : (a b : List Entry) → a ++ b ≡ [] → b ≡ []
back_nil [] b e = e
back_nil (x ∷ a) b e = let z = ap length e in absurd (omega (arith, z))

within_or_above : (n k : ℕ) → (k ≤ n) ⊎ (n < k)
within_or_above n k = grind arith

-- the numbers from 1 on
from_one : (n : ℕ) (Q : ℕ → Type 0) → ((i : ℕ) → i < n → Q (i + 1)) → (k : ℕ) → 0 < k → k ≤ n → Q k
from_one n Q f zero a b = absurd (omega (arith, a))
from_one n Q f (suc i) a b = let e : i + 1 ≡ suc i = omega arith in subst Q e (f i (omega (arith, b)))

-- ---- who has an entry

-- where pass 0 alone has entries
pub only_own : (m : List Entry) → ((k : ℕ) → k ≢ 0 → own k m ≡ []) → m ≡ own 0 m
only_own [] f = refl
only_own (x ∷ m) f = by x.pass refl (only_own m)
  where
    by : (p : ℕ) → x.pass ≡ p → (((k : ℕ) → k ≢ 0 → own k m ≡ []) → m ≡ own 0 m) → x ∷ m ≡ own 0 (x ∷ m)
    by zero e on = ap (λ l. x ∷ l) (on (λ k ne. sym (own_no k x m (λ q. ne (sym q ∙ e))) ∙ f k ne)) ∙ sym (own_yes 0 x m e)
    by (suc p) e on = let a = ap length (sym (own_yes x.pass x m refl) ∙ f x.pass (λ q. absurd (omega (arith, q, e)))) in absurd (omega (arith, a))

-- no pass above n has an entry
pub above : (n : ℕ) (s : Moment) (h : List Entry) → Front n s h → (k : ℕ) → n < k → own k h ≡ []
above n s h f =
    let next = ap (λ (p : Passes _). p.next) f.opened in
    let zeroth = f.zeroth in
    within n s h (subst (λ (p : Passes _). Below p.there p.next) (sym f.opened) first_below) f.legal.entered (omega (arith, zeroth, next)) (from_one n (λ k. enters (own k h) ≡ 0) f.workers)

-- ---- one stage

-- the middle of a phase, by what each pass made
pub middle_of : (n : ℕ) (Its : ℕ → List Entry → Type 0) (h m : List Entry)
    → ((k : ℕ) → 0 < k → k ≤ n → Grew (Its k) (own k h) (own k (h ++ m)))
    → own 0 (h ++ m) ≡ own 0 h
    → ((k : ℕ) → n < k → own k (h ++ m) ≡ [])
    → Middle n Its m
middle_of n Its h m each zeroth none = record {
  workers = λ k p q. let g = each k p q in subst (Its k) (sym (own_more k h m g.0 g.1)) g.2;
  others = λ k w. elim w [
    | inl z ↦ subst (λ j. own j m ≡ []) (sym z) (own_more 0 h m [] (zeroth ∙ sym (append-nil (own 0 h))))
    | inr lt ↦ back_nil (own k h) (own k m) (sym (own_append k h m) ∙ none k lt)
  ];
}

-- pass 0 alone went on
pub stage_zero : (n : ℕ) (s : Moment) (P : List Entry → Type 0) (h h' : List Entry) → ((l : List Entry) → P l → enters l ≡ 0) → Front n s h → Legal s h' → Begins h h'
    → Grew P (own 0 h) (own 0 h') → ((i : ℕ) → i < n → own (i + 1) h' ≡ own (i + 1) h) → Front n s h' × Grew P h h'
stage_zero n s P h h' quiet f legal b g same =
    let front : Front n s h' = record {
      opened = f.opened;
      legal = legal;
      zeroth = (let a = ap enters g.1 ∙ enters_append (own 0 h) g.0 in let z = quiet g.0 g.2 in let w = f.zeroth in omega (arith, a, z, w));
      workers = λ i lt. ap enters (same i lt) ∙ f.workers i lt;
    } in
    let is : own 0 b.0 ≡ g.0 = own_more 0 h b.0 g.0 (ap (own 0) (sym b.1) ∙ g.1) in
    let rest : (k : ℕ) → k ≢ 0 → own k b.0 ≡ [] = λ k ne. others front k ne in
    (front, (g.0, b.1 ∙ ap (λ l. h ++ l) (only_own b.0 rest ∙ is), g.2))
  where
    others : Front n s h' → (k : ℕ) → k ≢ 0 → own k b.0 ≡ []
    others front k ne = elim (within_or_above n k) [
      | inl le ↦ from_one n (λ j. own j b.0 ≡ []) (λ i lt. own_more (i + 1) h b.0 [] (ap (own (i + 1)) (sym b.1) ∙ (same i lt ∙ sym (append-nil (own (i + 1) h))))) k (omega (arith, ne)) le
      | inr gt ↦ back_nil (own k h) (own k b.0) (sym (own_append k h b.0) ∙ (ap (own k) (sym b.1) ∙ above n s h' front k gt))
    ]

-- the workers alone went on
pub stage_workers : (n : ℕ) (s : Moment) (Its : ℕ → List Entry → Type 0) (h h' : List Entry) → ((k : ℕ) (l : List Entry) → Its k l → enters l ≡ 0) → Front n s h → Legal s h' → Begins h h'
    → own 0 h' ≡ own 0 h → ((i : ℕ) → i < n → Grew (Its (i + 1)) (own (i + 1) h) (own (i + 1) h')) → Front n s h' × Grew (Middle n Its) h h'
stage_workers n s Its h h' quiet f legal b zeroth each =
    let front : Front n s h' = record {
      opened = f.opened;
      legal = legal;
      zeroth = ap enters zeroth ∙ f.zeroth;
      workers = λ i lt. let g = each i lt in let a = ap enters g.1 ∙ enters_append (own (i + 1) h) g.0 in let z = quiet (i + 1) g.0 g.2 in let w = f.workers i lt in omega (arith, a, z, w);
    } in
    let all : (k : ℕ) → 0 < k → k ≤ n → Grew (Its k) (own k h) (own k (h ++ b.0)) = subst (λ z. (k : ℕ) → 0 < k → k ≤ n → Grew (Its k) (own k h) (own k z)) b.1 (from_one n (λ k. Grew (Its k) (own k h) (own k h')) each) in
    (front, (b.0, b.1, middle_of n Its h b.0 all (ap (own 0) (sym b.1) ∙ zeroth) (λ k gt. ap (own k) (sym b.1) ∙ above n s h' front k gt)))

-- where pass 0 looked between two meetings, having made nothing, and the workers rest, it looked at the first of the two
pub looked : (n : ℕ) (s : Moment) (h hl h' : List Entry) → Front n s h' → Begins h hl → Begins hl h' → own 0 hl ≡ own 0 h → ((i : ℕ) → i < n → own (i + 1) h' ≡ own (i + 1) h) → hl ≡ h
looked n s h hl h' f b c zeroth same =
    b.1 ∙ (ap (λ l. h ++ l) (only_own b.0 none ∙ own_more 0 h b.0 [] (ap (own 0) (sym b.1) ∙ (zeroth ∙ sym (append-nil (own 0 h))))) ∙ append-nil h)
  where
    whole : h' ≡ h ++ (b.0 ++ c.0)
    whole = c.1 ∙ (ap (λ l. l ++ c.0) b.1 ∙ append_assoc h b.0 c.0)

    first : (k : ℕ) → own k (b.0 ++ c.0) ≡ [] → own k b.0 ≡ []
    first k e = front_nil (own k b.0) (own k c.0) (sym (own_append k b.0 c.0) ∙ e)

    none : (k : ℕ) → k ≢ 0 → own k b.0 ≡ []
    none k ne = elim (within_or_above n k) [
      | inl le ↦ from_one n (λ j. own j b.0 ≡ []) (λ i lt. first (i + 1) (own_more (i + 1) h (b.0 ++ c.0) [] (ap (own (i + 1)) (sym whole) ∙ (same i lt ∙ sym (append-nil (own (i + 1) h)))))) k (omega (arith, ne)) le
      | inr gt ↦ first k (back_nil (own k h) (own k (b.0 ++ c.0)) (sym (own_append k h (b.0 ++ c.0)) ∙ (ap (own k) (sym whole) ∙ above n s h' f k gt)))
    ]

-- ---- a phase

-- the three stages of a phase
stages : (n : ℕ) (s : Moment) (P : List Entry → Type 0) (Its : ℕ → List Entry → Type 0) (Q : Moment → List Entry → Type 0) (h h1 h2 hl h3 : List Entry) → Met n s h h1 h2 hl h3
    → ((l : List Entry) → P l → enters l ≡ 0) → ((k : ℕ) (l : List Entry) → Its k l → enters l ≡ 0) → ((l : List Entry) → Q (replay s hl) l → enters l ≡ 0)
    → Grew P (own 0 h) (own 0 h1) → ((i : ℕ) → i < n → Grew (Its (i + 1)) (own (i + 1) h1) (own (i + 1) h2)) → Grew (Q (replay s hl)) (own 0 h2) (own 0 h3)
    → Front n s h3 × (hl ≡ h2)
    × (a : List Entry) × (m : List Entry) × (c : List Entry) × (h2 ≡ h ++ (a ++ m)) × (h3 ≡ h ++ ((a ++ m) ++ c)) × P a × Middle n Its m × Q (replay (replay s h) (a ++ m)) c
stages n s P Its Q h h1 h2 hl h3 met p_quiet its_quiet q_quiet first each last =
    let a = stage_zero n s P h h1 p_quiet met.front met.legal_jobs met.to_jobs first met.rest_first in
    let m = stage_workers n s Its h1 h2 its_quiet a.0 met.legal_parts met.to_parts met.rest_zeroth each in
    let c = stage_zero n s (Q (replay s hl)) h2 h3 q_quiet m.0 met.legal_last (begins_on h2 hl h3 met.to_looked met.to_last) last met.rest_last in
    let is : hl ≡ h2 = looked n s h2 hl h3 c.0 met.to_looked met.to_last met.rest_looked met.rest_last in
    let whole : h2 ≡ h ++ (a.1.0 ++ m.1.0) = m.1.1 ∙ (ap (λ l. l ++ m.1.0) a.1.1 ∙ append_assoc h a.1.0 m.1.0) in
    let at : replay s hl ≡ replay (replay s h) (a.1.0 ++ m.1.0) = ap (replay s) (is ∙ whole) ∙ replay_append s h (a.1.0 ++ m.1.0) in
    (c.0, is, a.1.0, m.1.0, c.1.0, whole, c.1.1 ∙ (ap (λ l. l ++ c.1.0) whole ∙ append_assoc h (a.1.0 ++ m.1.0) c.1.0), a.1.2, m.1.2, subst (λ t. Q t c.1.0) at c.1.2)

module _ {C : Type 0} (Made : Making C) (quiet : LetsNobodyIn Made) where
  -- a whole phase, where pass 0 found no job that waits or is run
  pub phase_at : (n : ℕ) (jobs : Phase C) (s : Moment) (h h1 h2 hl h3 : List Entry) → Met n s h h1 h2 hl h3
      → Grew (λ l. acts l ≡ map scheduled jobs) (own 0 h) (own 0 h1)
      → ((i : ℕ) → i < n → Grew (Parts Made jobs (i + 1)) (own (i + 1) h1) (own (i + 1) h2))
      → live (replay s hl).manager.jobs ≡ 0
      → Grew (λ l. acts l ≡ map cancelled (sleepers (replay s hl) jobs)) (own 0 h2) (own 0 h3)
      → Front n s h3 × Grew (IsPhase Made n jobs (replay s h)) h h3
  phase_at n jobs s h h1 h2 hl h3 met first each over last =
      let w = stages n s (λ l. acts l ≡ map scheduled jobs) (Parts Made jobs) (λ t l. acts l ≡ map cancelled (sleepers t jobs)) h h1 h2 hl h3 met
      (scheduled_quiet jobs) (parts_quiet Made quiet jobs) (cancelled_quiet (sleepers (replay s hl) jobs)) first each last in
      let at : replay s hl ≡ replay (replay s h) (w.2 ++ w.3) = ap (replay s) (w.1 ∙ w.5) ∙ replay_append s h (w.2 ++ w.3) in (
        w.0,
        (
          (w.2 ++ w.3) ++ w.4,
          w.6,
          record {
            schedules = w.2;
            middle = w.3;
            cancels = w.4;
            are = refl;
            schedule = w.7;
            run = w.8;
            over = subst (λ t. live t.manager.jobs ≡ 0) at over;
            cancel = w.9;
          },
        ),
      )

  -- a phase that was cut: of each part what was made
  pub cut_phase_at : (n : ℕ) (jobs : Phase C) (s : Moment) (h h1 h2 hl h3 : List Entry) → Met n s h h1 h2 hl h3
      → Grew (Cut (λ l. acts l ≡ map scheduled jobs)) (own 0 h) (own 0 h1)
      → ((i : ℕ) → i < n → Grew (Cut (Parts Made jobs (i + 1))) (own (i + 1) h1) (own (i + 1) h2))
      → Grew (Cut (λ l. acts l ≡ map cancelled (sleepers (replay s hl) jobs))) (own 0 h2) (own 0 h3)
      → Front n s h3 × Grew (IsCutPhase Made n jobs (replay s h)) h h3
  cut_phase_at n jobs s h h1 h2 hl h3 met first each last =
      let w = stages n s (Cut (λ l. acts l ≡ map scheduled jobs)) (λ k. Cut (Parts Made jobs k)) (λ t. Cut (λ l. acts l ≡ map cancelled (sleepers t jobs))) h h1 h2 hl h3 met
      (enters_cut (λ l. acts l ≡ map scheduled jobs) (scheduled_quiet jobs)) (cut_parts_quiet Made quiet jobs)
      (enters_cut (λ l. acts l ≡ map cancelled (sleepers (replay s hl) jobs)) (cancelled_quiet (sleepers (replay s hl) jobs))) first each last in
      (w.0, ((w.2 ++ w.3) ++ w.4, w.6, record { schedules = w.2; middle = w.3; cancels = w.4; are = refl; schedule = w.7; run = w.8; cancel = w.9 }))
