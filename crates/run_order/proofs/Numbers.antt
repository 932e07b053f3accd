-- No pass but those that were let in has an entry.
use Rattle.std.proofs.Common.{◌≡◌, ◌≢◌, ◌<◌, ◌≤◌, ◌+◌, ℕ, zero, suc, Bool, true, false, cond, ◌&&◌, if◌then◌else◌, List, [], ◌∷◌, ◌++◌, nat_eq, refl, ap, sym, ◌∙◌, subst, arith}
use Rattle.std.specs.Prelude.{Option, Some, None, is_some}
use Rattle.std.specs.Ordering.{nat_cmp, eq_by_cmp}
use Rattle.std.specs.Option.{option_map}
use Rattle.std.specs.FinMap.{nat_cmp-IsAntisymmetric, get, insert, remove, empty, contains_key, get-insert, get-remove, get-empty}
use Rattle.std.proofs.lemmas.Cmp.{nat_cmp_total}
use Rattle.job_queue.specs.Changed.{put_if, changed}
use Rattle.job_queue.proofs.Found.{same_key}
use Rattle.pass_table.specs.declared.pass.Pass.{Pass}
use Rattle.pass_table.specs.Passes.{Table, idle}
use Rattle.core_event.specs.declared.entry.Entry.{Entry}
use Rattle.core_event.specs.declared.event.Event.{Event}
use Rattle.core_event.specs.declared.event.Event.TheVariants.{Enter, Leave, Schedule, Sleep, Wake, Cancel, Take, Finish, Begin, TryBegin, End, Transfer, Batch, EndBatch, Checkpoint, Operation, Service}
use Rattle.core_event.specs.declared.reply.Refusal.{Refusal}
use Rattle.job_manager.specs.declared.manager.JobManager.{JobManager}
use Rattle.job_manager.specs.Refusals.{refusal}
use Rattle.job_manager.specs.Effects.{effect, taken, next_job, decided}
use Rattle.ws_core.specs.States.{Moment}
use Rattle.ws_core.specs.Steps.{step}
use Rattle.ws_core.specs.Histories.{after, has_entered, entered}
use Rattle.run_order.proofs.Managed.{step_serving}
use Rattle.run_order.specs.Lists.{own, Cut, InTurn}
use Rattle.run_order.specs.Fronts.{lets_in, enters}
use Rattle.run_order.proofs.Lists.{own_yes, own_no}

-- ---- the numbers of the passes that are there

-- every pass that is there has a number below the next one
abbrev pub Below : Table → ℕ → Type 0
Below t next = (k : ℕ) → contains_key t k ≡ true → k < next

put_below : (t : Table) (n next : ℕ) (v : Pass) → n < next → Below t next → Below (insert t n v) next
put_below t n next v lt below k has = by (eq_by_cmp nat_cmp k n) refl (sym (ap is_some (get-insert nat_cmp_total t n v k)) ∙ has)
  where
    by : (b : Bool) → eq_by_cmp nat_cmp k n ≡ b → is_some (cond b (Some v) (get t k)) ≡ true → k < next
    by true e g = subst (λ x. x < next) (sym (same_key nat_cmp-IsAntisymmetric k n e)) lt
    by false e g = below k g

cut_below : (t : Table) (n next : ℕ) → Below t next → Below (remove t n) next
cut_below t n next below k has = by (eq_by_cmp nat_cmp k n) (sym (ap is_some (get-remove nat_cmp_total t n k)) ∙ has)
  where
    by : (b : Bool) → is_some (cond b None (get t k)) ≡ true → k < next
    by true g = cc
    by false g = below k g

changed_below : (t : Table) (n next : ℕ) (change : Pass → Pass) → Below t next → Below (changed change n t) next
changed_below t n next change below = by (get t n) refl
  where
    by : (v : Option Pass) → get t n ≡ v → Below (put_if t n (option_map change v)) next
    by None e = below
    by (Some v) e = put_below t n next (change v) (below n (ap is_some e)) below

pub first_below : Below (insert empty 0 idle) 1
first_below = put_below empty 0 1 idle (omega arith) (λ k has. none k (sym (ap is_some (get-empty nat_cmp k)) ∙ has))
  where
    none : (k : ℕ) → false ≡ true → k < 1
    none k h = cc

-- ---- what an event does to them

abbrev pub IsBelow : JobManager → Type 0
IsBelow m = Below m.passes.there m.passes.next

effect_below : (m : JobManager) (k : ℕ) (e : Event) → IsBelow m → IsBelow (effect m k e).0
effect_below m k Enter b = put_below m.passes.there m.passes.next (m.passes.next + 1) idle (omega arith) (λ j has. let lt = b j has in omega (arith, lt))
effect_below m k Leave b = cut_below m.passes.there k m.passes.next b
effect_below m k (Schedule n p r a) b = b
effect_below m k (Sleep n) b = b
effect_below m k (Wake n) b = b
effect_below m k (Cancel n) b = b
effect_below m k Take b = by (next_job m)
  where
    by : (n : Option (List ℕ)) → IsBelow (taken m k n).0
    by None = b
    by (Some n) = changed_below m.passes.there k m.passes.next _ b
effect_below m k Finish b = changed_below m.passes.there k m.passes.next (λ _. idle) b
effect_below m k (Begin r) b = b
effect_below m k (TryBegin r) b = b
effect_below m k (End r) b = b
effect_below m k (Transfer to) b = b
effect_below m k Batch b = changed_below m.passes.there k m.passes.next _ b
effect_below m k EndBatch b = changed_below m.passes.there k m.passes.next _ b
effect_below m k Checkpoint b = b
effect_below m k (Operation op) b = b
effect_below m k (Service x) b = b

effect_next : (m : JobManager) (k : ℕ) (e : Event) → (effect m k e).0.passes.next ≡ m.passes.next + lets_in e
effect_next m k Enter = refl
effect_next m k Leave = omega arith
effect_next m k (Schedule n p r a) = omega arith
effect_next m k (Sleep n) = omega arith
effect_next m k (Wake n) = omega arith
effect_next m k (Cancel n) = omega arith
effect_next m k Take = by (next_job m)
  where
    by : (n : Option (List ℕ)) → (taken m k n).0.passes.next ≡ m.passes.next + 0
    by None = omega arith
    by (Some n) = omega arith
effect_next m k Finish = omega arith
effect_next m k (Begin r) = omega arith
effect_next m k (TryBegin r) = omega arith
effect_next m k (End r) = omega arith
effect_next m k (Transfer to) = omega arith
effect_next m k Batch = omega arith
effect_next m k EndBatch = omega arith
effect_next m k Checkpoint = omega arith
effect_next m k (Operation op) = omega arith
effect_next m k (Service x) = omega arith

refused_none : (m : JobManager) (k : ℕ) (e : Event) (r : Refusal) → refusal m k e ≡ Some r → lets_in e ≡ 0
refused_none m k Enter r h = cc
refused_none m k Leave r h = refl
refused_none m k (Schedule n p u a) r h = refl
refused_none m k (Sleep n) r h = refl
refused_none m k (Wake n) r h = refl
refused_none m k (Cancel n) r h = refl
refused_none m k Take r h = refl
refused_none m k Finish r h = refl
refused_none m k (Begin u) r h = refl
refused_none m k (TryBegin u) r h = refl
refused_none m k (End u) r h = refl
refused_none m k (Transfer to) r h = refl
refused_none m k Batch r h = refl
refused_none m k EndBatch r h = refl
refused_none m k Checkpoint r h = refl
refused_none m k (Operation op) r h = refl
refused_none m k (Service x) r h = refl

step_below : (s : Moment) (k : ℕ) (e : Event) → IsBelow s.manager → IsBelow (step s k e).0.manager
step_below s k e b = subst IsBelow (sym (step_serving s k e).1) (by (refusal s.manager k e))
  where
    by : (r : Option Refusal) → IsBelow (decided r s.manager k e).0
    by None = effect_below s.manager k e b
    by (Some r) = b

step_next : (s : Moment) (k : ℕ) (e : Event) → (step s k e).0.manager.passes.next ≡ s.manager.passes.next + lets_in e
step_next s k e = ap (λ (m : JobManager). m.passes.next) (step_serving s k e).1 ∙ by (refusal s.manager k e) refl
  where
    by : (r : Option Refusal) → refusal s.manager k e ≡ r → (decided r s.manager k e).0.passes.next ≡ s.manager.passes.next + lets_in e
    by None h = effect_next s.manager k e
    by (Some r) h = let none = refused_none s.manager k e r h in omega (arith, none)

-- ---- who has an entry

pub enters_append : (a b : List Entry) → enters (a ++ b) ≡ enters a + enters b
enters_append [] b = omega arith
enters_append (x ∷ a) b = let e = enters_append a b in omega (arith, e)

less : (j : ℕ) (x : Entry) (h : List Entry) → enters (own j h) ≤ enters (own j (x ∷ h))
less j x h = elim (nat_eq x.pass j) as (λ (b : Bool). enters (own j h) ≤ enters (if b then x ∷ own j h else own j h)) [ true ↦ omega arith | false ↦ omega arith ]

both : (a b : Bool) → (a && b) ≡ true → (a ≡ true) × (b ≡ true)
both true b e = (refl, e)
both false b e = cc

-- where the passes from 1 to n let nobody in, and pass 0 at most n, no pass above n has an entry
pub within : (n : ℕ) (s : Moment) (h : List Entry) → IsBelow s.manager → entered s h ≡ true → s.manager.passes.next + enters (own 0 h) ≤ n + 1
    → ((k : ℕ) → 0 < k → k ≤ n → enters (own k h) ≡ 0) → (k : ℕ) → n < k → own k h ≡ []
within n s [] below e z w k lt = refl
within n s (x ∷ h) below e z w k lt =
    let t = both (has_entered x.pass s) (entered (after s x) h) e in
    let small : x.pass < s.manager.passes.next = below x.pass t.0 in
    let other : x.pass ≢ k = omega (arith, small, z, lt) in
    own_no k x h other ∙ within n (after s x) h (step_below s x.pass x.event below) t.1 (rest small) (λ j p q. let a = w j p q in let b = less j x h in omega (arith, a, b)) k lt
  where
    rest : x.pass < s.manager.passes.next → (after s x).manager.passes.next + enters (own 0 h) ≤ n + 1
    rest small = by x.pass refl small
      where
        by : (p : ℕ) → x.pass ≡ p → x.pass < s.manager.passes.next → (after s x).manager.passes.next + enters (own 0 h) ≤ n + 1
        by zero is m = let a = step_next s x.pass x.event in let b = ap enters (own_yes 0 x h is) in omega (arith, a, b, z)
        by (suc p) is m =
            let a = step_next s x.pass x.event in
            let b = ap enters (own_yes x.pass x h refl) in
            let c = w x.pass (omega (arith, is)) (omega (arith, z, m)) in
            let d = less 0 x h in
            omega (arith, a, b, c, d, z)

-- ---- lists that let nobody in

pub enters_turn : {A : Type 0} (P : A → List Entry → Type 0) → ((x : A) (a : List Entry) → P x a → enters a ≡ 0) → (xs : List A) (h : List Entry) → InTurn P xs h → enters h ≡ 0
enters_turn P f [] h p = ap enters p
enters_turn P f (x ∷ xs) h p = let a = f x p.0 p.3 in let b = enters_turn P f xs p.1 p.4 in let c = ap enters p.2 ∙ enters_append p.0 p.1 in omega (arith, a, b, c)

pub enters_cut : (P : List Entry → Type 0) → ((l : List Entry) → P l → enters l ≡ 0) → (l : List Entry) → Cut P l → enters l ≡ 0
enters_cut P f l p = let a = f (l ++ p.0) p.1 in let b = enters_append l p.0 in omega (arith, a, b)
