-- Jobs that sleep are cancelled one by one: each still sleeps when it is its turn.
use Rattle.std.proofs.Common.{◌≡◌, ◌≢◌, ◌<◌, ◌≤◌, ◌+◌, ℕ, zero, suc, Bool, true, false, if◌then◌else◌, List, [], ◌∷◌, ◌++◌, length, take, drop, get_or, map, refl, ap, sym, ◌∙◌, subst, arith}
use Rattle.std.specs.Prelude.{Option, Some, None}
use Rattle.std.specs.List.{AllByRecursion}
use Rattle.std.proofs.lemmas.List.{take_more, take-append-drop}
use Rattle.job_queue.specs.Queues.{state_of}
use Rattle.job_queue.specs.Queues as queue
use Rattle.job_queue.specs.declared.job.Job.{Job}
use Rattle.job_queue.proofs.Named.{name_cmp_exact}
use Rattle.job_queue.proofs.Found.{same_key}
use Rattle.sched_rules.specs.declared.ws_atom.WsAtom.{WsAtom}
use Rattle.std.specs.FinMap.{get}
use Rattle.std.specs.Option.{option_map}
use Rattle.core_event.specs.declared.entry.Entry.{Entry}
use Rattle.core_event.specs.declared.event.Event.{Event}
use Rattle.core_event.specs.declared.event.Event.TheVariants.{Cancel}
use Rattle.core_event.specs.declared.reply.Refusal.{Refusal}
use Rattle.job_manager.specs.declared.manager.JobManager.{JobManager}
use Rattle.job_manager.specs.Refusals.{refusal}
use Rattle.job_manager.specs.Effects.{decided}
use Rattle.ws_core.specs.States.{Moment}
use Rattle.ws_core.specs.Steps.{step}
use Rattle.ws_core.specs.Histories.{after, replay}
use Rattle.run_order.specs.Lists.{acts, Cut}
use Rattle.run_order.specs.Plans.{JobPlan, Phase, HaveOwnNames, is_name}
use Rattle.run_order.specs.Orders.{cancelled, is_asleep, sleeps, sleepers}
use Rattle.run_order.specs.Counts.{one_if, named}
use Rattle.run_order.proofs.Lists.{acts_append, acts_cut}
use Rattle.ws_core.proofs.Roomy.{step_manager}
use Rattle.run_order.proofs.Taken.{put_other}

-- a job of another name is cancelled
pub cancel_other : (s : Moment) (k : ℕ) (n name : List ℕ) → is_name name n ≡ false → state_of (step s k (Cancel n)).0.manager.jobs name ≡ state_of s.manager.jobs name
cancel_other s k n name other = ap (λ (m : JobManager). state_of m.jobs name) (step_manager s k (Cancel n) refl) ∙ by (refusal s.manager k (Cancel n))
  where
    by : (r : Option Refusal) → state_of (decided r s.manager k (Cancel n)).0.jobs name ≡ state_of s.manager.jobs name
    by None = ap (λ o. option_map (λ (job : Job WsAtom). job.state) o) (put_other s.manager.jobs.jobs n name (option_map queue.over (get s.manager.jobs.jobs n)) other)
    by (Some r) = refl

not_one : (b : Bool) (n : ℕ) → one_if b + n ≡ 0 → (b ≡ false) × (n ≡ 0)
not_one true n h = absurd (omega (arith, h))
not_one false n h = (refl, omega (arith, h))

abbrev head_of : ℕ × Event → List (ℕ × Event) → ℕ × Event
head_of d [] = d
head_of d (x ∷ xs) = x

abbrev tail_of : List (ℕ × Event) → List (ℕ × Event)
tail_of [] = []
tail_of (x ∷ xs) = xs

other_name : (a b : List ℕ) → b ≢ a → is_name a b ≡ false
other_name a b ne = by (is_name a b) refl
  where
    by : (c : Bool) → is_name a b ≡ c → c ≡ false
    by true e = absurd (ne (sym (same_key name_cmp_exact a b e)))
    by false e = refl

module _ {C : Type 0} where
  -- where jobs of other names are cancelled, what becomes of a job stays
  pub cancels_keep : (js : Phase C) (name : List ℕ) (s : Moment) (l : List Entry) → acts l ≡ map cancelled js → named name js ≡ 0 → state_of (replay s l).manager.jobs name ≡ state_of s.manager.jobs name
  cancels_keep [] name s [] e none = refl
  cancels_keep [] name s (x ∷ l) e none = let z = ap length e in absurd (omega (arith, z))
  cancels_keep (j ∷ js) name s [] e none = let z = ap length e in absurd (omega (arith, z))
  cancels_keep (j ∷ js) name s (x ∷ l) e none =
      let parts = not_one (is_name name j.name) (named name js) none in
      let is : x.event ≡ Cancel j.name = ap (λ xs. (head_of (x.pass, x.event) xs).1) e in
      cancels_keep js name (after s x) l (ap tail_of e) parts.1
      ∙ (ap (λ v. state_of (step s x.pass v).0.manager.jobs name) is ∙ cancel_other s x.pass j.name name parts.0)

  -- ---- names that differ

  at_index : (P : JobPlan C → Type 0) (js : Phase C) (i : ℕ) (d : JobPlan C) → i < length js → AllByRecursion P js → P (get_or js i d)
  at_index P [] i d lt all = absurd (omega (arith, lt))
  at_index P (j ∷ js) zero d lt all = all.0
  at_index P (j ∷ js) (suc i) d lt all = at_index P js i d (omega (arith, lt)) all.1

  named_before : (js : Phase C) (i : ℕ) (d : JobPlan C) → i < length js → HaveOwnNames js → named (get_or js i d).name (take i js) ≡ 0
  named_before [] i d lt own = absurd (omega (arith, lt))
  named_before (j ∷ js) zero d lt own = refl
  named_before (j ∷ js) (suc i) d lt own =
      let first = ap one_if (other_name (get_or js i d).name j.name (at_index (λ (other : JobPlan C). j.name ≢ other.name) js i d (omega (arith, lt)) own.0)) in
      let rest = named_before js i d (omega (arith, lt)) own.1 in
      omega (arith, first, rest)

  -- ---- those that sleep

  named_asleep : (s : Moment) (name : List ℕ) (js : Phase C) → named name (sleepers s js) ≤ named name js
  named_asleep s name [] = omega arith
  named_asleep s name (j ∷ js) =
      let rest = named_asleep s name js in
      elim (sleeps s j.name) as (λ (b : Bool). named name (if b then j ∷ sleepers s js else sleepers s js) ≤ named name (j ∷ js)) [ true ↦ omega (arith, rest) | false ↦ omega (arith, rest) ]

  sleepers_append : (s : Moment) (xs ys : Phase C) → sleepers s (xs ++ ys) ≡ sleepers s xs ++ sleepers s ys
  sleepers_append s [] ys = refl
  sleepers_append s (j ∷ xs) ys = elim (sleeps s j.name) as (λ b. (if b then j ∷ sleepers s (xs ++ ys) else sleepers s (xs ++ ys)) ≡ (if b then j ∷ sleepers s xs else sleepers s xs) ++ sleepers s ys) [
    | true ↦ ap (λ l. j ∷ l) (sleepers_append s xs ys)
    | false ↦ sleepers_append s xs ys
  ]

  cancelled_append : (xs ys : Phase C) → map cancelled (xs ++ ys) ≡ map cancelled xs ++ map cancelled ys
  cancelled_append [] ys = refl
  cancelled_append (j ∷ xs) ys = ap (λ l. cancelled j ∷ l) (cancelled_append xs ys)

  -- once those that slept before it are cancelled, a job sleeps where it did
  pub sleeps_still : (js : Phase C) (i : ℕ) (d : JobPlan C) (s : Moment) (a : List Entry) → i < length js → HaveOwnNames js → acts a ≡ map cancelled (sleepers s (take i js))
      → sleeps (replay s a) (get_or js i d).name ≡ sleeps s (get_or js i d).name
  sleeps_still js i d s a lt own e =
      let none = named_before js i d lt own in
      let le = named_asleep s (get_or js i d).name (take i js) in
      ap is_asleep (cancels_keep (sleepers s (take i js)) (get_or js i d).name s a e (omega (arith, none, le)))

  next_is : (js : Phase C) (i : ℕ) (d : JobPlan C) (s : Moment) → i < length js
      → map cancelled (sleepers s (take (i + 1) js)) ≡ map cancelled (sleepers s (take i js)) ++ map cancelled (sleepers s (get_or js i d ∷ []))
  next_is js i d s lt = ap (λ l. map cancelled (sleepers s l)) (take_more js i d lt) ∙ (ap (map cancelled) (sleepers_append s (take i js) (get_or js i d ∷ [])) ∙ cancelled_append (sleepers s (take i js)) (sleepers s (get_or js i d ∷ [])))

  -- the next job is cancelled where it sleeps now
  pub cancels_one : (js : Phase C) (i : ℕ) (d : JobPlan C) (s : Moment) (a l : List Entry) → i < length js → HaveOwnNames js → acts a ≡ map cancelled (sleepers s (take i js))
      → acts l ≡ map cancelled (sleepers (replay s a) (get_or js i d ∷ [])) → acts (a ++ l) ≡ map cancelled (sleepers s (take (i + 1) js))
  cancels_one js i d s a l lt own e f =
      let same : map cancelled (sleepers (replay s a) (get_or js i d ∷ [])) ≡ map cancelled (sleepers s (get_or js i d ∷ [])) = ap (λ b. map cancelled (if b then get_or js i d ∷ [] else [])) (sleeps_still js i d s a lt own e) in
      acts_append a l ∙ (ap (λ z. z ++ acts l) e ∙ (ap (λ z. map cancelled (sleepers s (take i js)) ++ z) (f ∙ same) ∙ sym (next_is js i d s lt)))

  -- so far some were cancelled, and the others are still to be
  pub cancels_begun : (js : Phase C) (i : ℕ) (s : Moment) (a : List Entry) → acts a ≡ map cancelled (sleepers s (take i js)) → Cut (λ l. acts l ≡ map cancelled (sleepers s js)) a
  cancels_begun js i s a e =
      subst (λ z. Cut (λ l. acts l ≡ z) a) (sym (cancelled_append (sleepers s (take i js)) (sleepers s (drop i js))) ∙ (ap (map cancelled) (sym (sleepers_append s (take i js) (drop i js))) ∙ ap (λ l. map cancelled (sleepers s l)) (take-append-drop i js)))
      (acts_cut (map cancelled (sleepers s (take i js))) (map cancelled (sleepers s (drop i js))) a e)
