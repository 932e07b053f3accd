-- A pass that has left stays away: its number isn't given again, and it has no other entry.
use Rattle.std.proofs.Common.{◌≡◌, ◌≢◌, ◌<◌, ◌≤◌, ◌+◌, ℕ, Bool, true, false, cond, ◌&&◌, true≢false, if◌then◌else◌, List, [], ◌∷◌, nat_eq, refl, ap, sym, ◌∙◌, arith}
use Rattle.std.specs.Prelude.{Option, Some, None, is_some}
use Rattle.std.specs.Option.{option_map}
use Rattle.std.specs.Ordering.{nat_cmp, eq_by_cmp}
use Rattle.std.specs.FinMap.{nat_cmp-IsAntisymmetric, get, insert, remove, get-insert, get-remove, contains_key}
use Rattle.std.proofs.lemmas.Cmp.{nat_cmp_total}
use Rattle.job_queue.specs.Changed.{put_if, changed}
use Rattle.job_queue.proofs.Found.{same_key}
use Rattle.pass_table.specs.declared.pass.Pass.{Pass}
use Rattle.pass_table.specs.Passes.{Passes, Table, first_pass, has_pass, idle}
use Rattle.core_event.specs.declared.entry.Entry.{Entry}
use Rattle.core_event.specs.declared.event.Event.{Event}
use Rattle.core_event.specs.declared.event.Event.TheVariants.{Enter, Leave, Take, Finish, Batch, EndBatch}
use Rattle.core_event.specs.declared.reply.Refusal.{Refusal}
use Rattle.job_manager.specs.declared.manager.JobManager.{JobManager}
use Rattle.job_manager.specs.Refusals.{refusal}
use Rattle.job_manager.specs.Effects.{effect, taken, next_job, decided}
use Rattle.ws_core.specs.States.{Moment}
use Rattle.ws_core.specs.Steps.{step}
use Rattle.ws_core.specs.Histories.{after, replay, has_entered, entered}
use Rattle.run_order.specs.Lists.{own}
use Rattle.run_order.specs.Fronts.{lets_in, enters, Front}
use Rattle.run_order.proofs.Lists.{own_no}
use Rattle.run_order.proofs.Managed.{step_serving}
use Rattle.run_order.proofs.Numbers.{first_below}

-- the pass isn't there, and its number was given
abbrev pub IsGone : ℕ → JobManager → Type 0
IsGone j m = (has_pass m.passes j ≡ false) × (j < m.passes.next)

-- ---- what an event does to those that are there

put_gone : (t : Table) (n j : ℕ) (pass : Pass) → n ≢ j → contains_key t j ≡ false → contains_key (insert t n pass) j ≡ false
put_gone t n j pass other gone = ap is_some (get-insert nat_cmp_total t n pass j) ∙ by (eq_by_cmp nat_cmp j n) refl
  where
    by : (b : Bool) → eq_by_cmp nat_cmp j n ≡ b → is_some (cond b (Some pass) (get t j)) ≡ false
    by true e = absurd (other (sym (same_key nat_cmp-IsAntisymmetric j n e)))
    by false e = gone

cut_gone : (t : Table) (n j : ℕ) → contains_key t j ≡ false → contains_key (remove t n) j ≡ false
cut_gone t n j gone = ap is_some (get-remove nat_cmp_total t n j) ∙ by (eq_by_cmp nat_cmp j n)
  where
    by : (b : Bool) → is_some (cond b None (get t j)) ≡ false
    by true = refl
    by false = gone

changed_gone : (t : Table) (n j : ℕ) (change : Pass → Pass) → contains_key t j ≡ false → contains_key (changed change n t) j ≡ false
changed_gone t n j change gone = by (get t n) refl
  where
    by : (o : Option Pass) → get t n ≡ o → contains_key (put_if t n (option_map change o)) j ≡ false
    by None e = gone
    by (Some pass) e = put_gone t n j (change pass) (λ same. absurd (true≢false (sym (ap is_some e) ∙ (ap (contains_key t) same ∙ gone)))) gone

effect_gone : (m : JobManager) (k : ℕ) (e : Event) (j : ℕ) → IsGone j m → has_pass (effect m k e).0.passes j ≡ false
effect_gone m k Enter j gone = put_gone m.passes.there m.passes.next j idle (λ same. let lt = gone.1 in absurd (omega (arith, lt, same))) gone.0
effect_gone m k Leave j gone = cut_gone m.passes.there k j gone.0
effect_gone m k Take j gone = by (next_job m)
  where
    by : (o : Option (List ℕ)) → has_pass (taken m k o).0.passes j ≡ false
    by None = gone.0
    by (Some n) = changed_gone m.passes.there k j _ gone.0
effect_gone m k Finish j gone = changed_gone m.passes.there k j (λ _. idle) gone.0
effect_gone m k Batch j gone = changed_gone m.passes.there k j _ gone.0
effect_gone m k EndBatch j gone = changed_gone m.passes.there k j _ gone.0
effect_gone m k e j gone = gone.0

-- the number that comes next, where none is let in
quiet : (m : JobManager) (k : ℕ) (e : Event) (r : Option Refusal) → (effect m k e).0.passes.next ≡ m.passes.next → (decided r m k e).0.passes.next ≡ m.passes.next
quiet m k e None same = same
quiet m k e (Some r) same = refl

taken_next : (m : JobManager) (k : ℕ) (o : Option (List ℕ)) → (taken m k o).0.passes.next ≡ m.passes.next
taken_next m k None = refl
taken_next m k (Some n) = refl

decided_next : (m : JobManager) (k : ℕ) (e : Event) → (decided (refusal m k e) m k e).0.passes.next ≡ m.passes.next + lets_in e
decided_next m k Enter = refl
decided_next m k Take = let same = quiet m k Take (refusal m k Take) (taken_next m k (next_job m)) in omega (arith, same)
decided_next m k e = let same = quiet m k e (refusal m k e) refl in omega (arith, same)

-- ---- what a step does

step_next : (s : Moment) (k : ℕ) (e : Event) → (step s k e).0.manager.passes.next ≡ s.manager.passes.next + lets_in e
step_next s k e = ap (λ (m : JobManager). m.passes.next) (step_serving s k e).1 ∙ decided_next s.manager k e

step_gone : (s : Moment) (k : ℕ) (e : Event) (j : ℕ) → IsGone j s.manager → IsGone j (step s k e).0.manager
step_gone s k e j gone = (
  ap (λ (m : JobManager). has_pass m.passes j) (step_serving s k e).1 ∙ by (refusal s.manager k e),
  let next = step_next s k e in let lt = gone.1 in omega (arith, next, lt),
)
  where
    by : (r : Option Refusal) → has_pass (decided r s.manager k e).0.passes j ≡ false
    by None = effect_gone s.manager k e j gone
    by (Some r) = gone.0

-- ---- over a history

pub after_gone : (j : ℕ) (s : Moment) (h : List Entry) → IsGone j s.manager → IsGone j (replay s h).manager
after_gone j s [] gone = gone
after_gone j s (x ∷ h) gone = after_gone j (after s x) h (step_gone s x.pass x.event j gone)

pub both : (a b : Bool) → (a && b) ≡ true → (a ≡ true) × (b ≡ true)
both true b e = (refl, e)
both false b e = cc

-- it has no entry
pub silent : (j : ℕ) (s : Moment) (h : List Entry) → IsGone j s.manager → entered s h ≡ true → own j h ≡ []
silent j s [] gone e = refl
silent j s (x ∷ h) gone e =
    let t = both (has_entered x.pass s) (entered (after s x) h) e in
    own_no j x h (λ same. absurd (true≢false (sym t.0 ∙ (ap (λ k. has_entered k s) same ∙ gone.0))))
    ∙ silent j (after s x) h (step_gone s x.pass x.event j gone) t.1

-- the number that comes next counts those that were let in
pub next_of : (s : Moment) (h : List Entry) → (replay s h).manager.passes.next ≡ s.manager.passes.next + enters h
next_of s [] = omega arith
next_of s (x ∷ h) = let rest = next_of (after s x) h in let one = step_next s x.pass x.event in omega (arith, rest, one)

own_enters : (k : ℕ) (h : List Entry) → enters (own k h) ≤ enters h
own_enters k [] = omega arith
own_enters k (x ∷ h) =
    let rest = own_enters k h in
    elim (nat_eq x.pass k) as (λ (b : Bool). enters (if b then x ∷ own k h else own k h) ≤ lets_in x.event + enters h) [
      | true ↦ omega (arith, rest)
      | false ↦ omega (arith, rest)
    ]

-- where pass 0 let n passes in, the numbers up to n were given
pub was_given : (n : ℕ) (s : Moment) (h : List Entry) → Front n s h → (j : ℕ) → j ≤ n → j < (replay s h).manager.passes.next
was_given n s h f j le =
    let first = ap (λ (p : Passes _). p.next) f.opened in
    let next = next_of s h in
    let own_in = own_enters 0 h in
    let zeroth = f.zeroth in
    omega (arith, first, next, own_in, zeroth, le)

-- where a workspace was opened pass 0 alone is there
pub nobody_yet : (s : Moment) → s.manager.passes ≡ first_pass → (k : ℕ) → 0 < k → has_entered k s ≡ false
nobody_yet s first k some = by (has_entered k s) refl
  where
    by : (b : Bool) → has_entered k s ≡ b → has_entered k s ≡ false
    by true e = let below = first_below k (sym (ap (λ (p : Passes _). has_pass p k) first) ∙ e) in absurd (omega (arith, below, some))
    by false e = e
