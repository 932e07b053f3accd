-- Passes stay until they leave.
use Rattle.std.proofs.Common.{◌≡◌, ◌≢◌, ℕ, Bool, true, false, cond, List, refl, ap, sym, ◌∙◌}
use Rattle.std.specs.Prelude.{Option, Some, None, is_some}
use Rattle.std.specs.Option.{option_map}
use Rattle.std.specs.Ordering.{nat_cmp, eq_by_cmp}
use Rattle.std.specs.FinMap.{nat_cmp-IsAntisymmetric, get, insert, remove, get-insert, get-remove, contains_key}
use Rattle.std.proofs.lemmas.Cmp.{nat_cmp_total}
use Rattle.job_queue.specs.Changed.{put_if, changed}
use Rattle.job_queue.proofs.Found.{same_key}
use Rattle.pass_table.specs.declared.pass.Pass.{Pass}
use Rattle.pass_table.specs.Passes.{Table, has_pass, idle}
use Rattle.core_event.specs.declared.event.Event.{Event}
use Rattle.core_event.specs.declared.event.Event.TheVariants.{Enter, Leave, Schedule, Sleep, Wake, Cancel, Take, Finish, Begin, TryBegin, End, Transfer, Batch, EndBatch, Checkpoint, Operation, Service}
use Rattle.core_event.specs.declared.reply.Refusal.{Refusal}
use Rattle.job_manager.specs.declared.manager.JobManager.{JobManager}
use Rattle.job_manager.specs.Refusals.{refusal}
use Rattle.job_manager.specs.Effects.{effect, taken, next_job, decided}
use Rattle.ws_core.specs.States.{Moment}
use Rattle.ws_core.specs.Steps.{step}
use Rattle.ws_core.specs.Histories.{has_entered}
use Rattle.run_order.proofs.Managed.{step_serving}

put_stays : (t : Table) (n j : ℕ) (pass : Pass) → contains_key t j ≡ true → contains_key (insert t n pass) j ≡ true
put_stays t n j pass there = ap is_some (get-insert nat_cmp_total t n pass j) ∙ by (eq_by_cmp nat_cmp j n)
  where
    by : (b : Bool) → is_some (cond b (Some pass) (get t j)) ≡ true
    by true = refl
    by false = there

changed_stays : (t : Table) (n j : ℕ) (change : Pass → Pass) → contains_key t j ≡ true → contains_key (changed change n t) j ≡ true
changed_stays t n j change there = by (get t n)
  where
    by : (o : Option Pass) → contains_key (put_if t n (option_map change o)) j ≡ true
    by None = there
    by (Some pass) = put_stays t n j (change pass) there

cut_stays : (t : Table) (n j : ℕ) → n ≢ j → contains_key t j ≡ true → contains_key (remove t n) j ≡ true
cut_stays t n j other there = ap is_some (get-remove nat_cmp_total t n j) ∙ by (eq_by_cmp nat_cmp j n) refl
  where
    by : (b : Bool) → eq_by_cmp nat_cmp j n ≡ b → is_some (cond b None (get t j)) ≡ true
    by true e = absurd (other (sym (same_key nat_cmp-IsAntisymmetric j n e)))
    by false e = there

effect_stays : (m : JobManager) (k : ℕ) (e : Event) (j : ℕ) → (e ≡ Leave → k ≢ j) → has_pass m.passes j ≡ true → has_pass (effect m k e).0.passes j ≡ true
effect_stays m k Enter j other there = put_stays m.passes.there m.passes.next j idle there
effect_stays m k Leave j other there = cut_stays m.passes.there k j (other refl) there
effect_stays m k (Schedule n p u a) j other there = there
effect_stays m k (Sleep n) j other there = there
effect_stays m k (Wake n) j other there = there
effect_stays m k (Cancel n) j other there = there
effect_stays m k Take j other there = by (next_job m)
  where
    by : (o : Option (List ℕ)) → has_pass (taken m k o).0.passes j ≡ true
    by None = there
    by (Some n) = changed_stays m.passes.there k j _ there
effect_stays m k Finish j other there = changed_stays m.passes.there k j (λ _. idle) there
effect_stays m k (Begin u) j other there = there
effect_stays m k (TryBegin u) j other there = there
effect_stays m k (End u) j other there = there
effect_stays m k (Transfer to) j other there = there
effect_stays m k Batch j other there = changed_stays m.passes.there k j _ there
effect_stays m k EndBatch j other there = changed_stays m.passes.there k j _ there
effect_stays m k Checkpoint j other there = there
effect_stays m k (Operation op) j other there = there
effect_stays m k (Service x) j other there = there

-- a pass that has entered is there still after any event, but for its own Leave
pub step_stays : (s : Moment) (k : ℕ) (e : Event) (j : ℕ) → (e ≡ Leave → k ≢ j) → has_entered j s ≡ true → has_entered j (step s k e).0 ≡ true
step_stays s k e j other there = ap (λ (m : JobManager). has_pass m.passes j) (step_serving s k e).1 ∙ by (refusal s.manager k e)
  where
    by : (r : Option Refusal) → has_pass (decided r s.manager k e).0.passes j ≡ true
    by None = effect_stays s.manager k e j other there
    by (Some r) = there
