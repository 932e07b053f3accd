-- A pass that is there has a number below the one that is given next.
use Rattle.std.proofs.Common.{◌≡◌, ◌<◌, ◌+◌, ℕ, Bool, true, false, cond, List, [], ◌∷◌, refl, ap, sym, ◌∙◌, subst, arith}
use Rattle.std.specs.Prelude.{Option, Some, None, is_some}
use Rattle.std.specs.Option.{option_map}
use Rattle.std.specs.Ordering.{nat_cmp, eq_by_cmp}
use Rattle.std.specs.FinMap.{nat_cmp-IsAntisymmetric, get, insert, remove, get-insert, get-remove}
use Rattle.std.proofs.lemmas.Cmp.{nat_cmp_total}
use Rattle.job_queue.specs.Changed.{changed, put_if}
use Rattle.job_queue.proofs.Found.{same_key}
use Rattle.pass_table.specs.declared.pass.Pass.{Pass}
use Rattle.pass_table.specs.Passes.{Table, idle}
use Rattle.core_event.specs.declared.entry.Entry.{Entry}
use Rattle.core_event.specs.declared.event.Event.{Event}
use Rattle.core_event.specs.declared.event.Event.TheVariants.{Enter, Leave, Schedule, Sleep, Wake, Cancel, Take, Finish, Begin, TryBegin, End, Transfer, Batch, EndBatch, Checkpoint, Operation, Service}
use Rattle.core_event.specs.declared.reply.Refusal.{Refusal}
use Rattle.job_manager.specs.declared.manager.JobManager.{JobManager}
use Rattle.job_manager.specs.Managers.{first_manager}
use Rattle.job_manager.specs.Refusals.{refusal}
use Rattle.job_manager.specs.Effects.{decided, effect, next_job, taken}
use Rattle.ws_core.specs.States.{Moment}
use Rattle.ws_core.specs.Steps.{step}
use Rattle.ws_core.specs.Histories.{after, replay}
use Rattle.run_order.proofs.Managed.{step_serving}
use Rattle.run_order.proofs.Numbers.{Below, IsBelow, first_below}

put_below : (t : Table) (n next : ℕ) (v : Pass) → n < next → Below t next → Below (insert t n v) next
put_below t n next v lt below k has = by (eq_by_cmp nat_cmp k n) refl (sym (ap is_some (get-insert nat_cmp_total t n v k)) ∙ has)
  where
    by : (b : Bool) → eq_by_cmp nat_cmp k n ≡ b → is_some (cond b (Some v) (get t k)) ≡ true → k < next
    by true e g = subst (λ x. x < next) (sym (same_key nat_cmp-IsAntisymmetric k n e)) lt
    by false e g = below k g

cut_below : (t : Table) (n next : ℕ) → Below t next → Below (remove t n) next
cut_below t n next below k has = by (eq_by_cmp nat_cmp k n) (sym (ap is_some (get-remove nat_cmp_total t n k)) ∙ has)
  where
    by : (b : Bool) → is_some (cond b None (get t k)) ≡ true → k < next
    by true g = cc
    by false g = below k g

changed_below : (t : Table) (n next : ℕ) (change : Pass → Pass) → Below t next → Below (changed change n t) next
changed_below t n next change below = by (get t n) refl
  where
    by : (v : Option Pass) → get t n ≡ v → Below (put_if t n (option_map change v)) next
    by None e = below
    by (Some v) e = put_below t n next (change v) (below n (ap is_some e)) below

effect_below : (m : JobManager) (k : ℕ) (e : Event) → IsBelow m → IsBelow (effect m k e).0
effect_below m k Enter b = put_below m.passes.there m.passes.next (m.passes.next + 1) idle (omega arith) (λ j has. let lt = b j has in omega (arith, lt))
effect_below m k Leave b = cut_below m.passes.there k m.passes.next b
effect_below m k (Schedule n p r a) b = b
effect_below m k (Sleep n) b = b
effect_below m k (Wake n) b = b
effect_below m k (Cancel n) b = b
effect_below m k Take b = by (next_job m)
  where
    by : (n : Option (List ℕ)) → IsBelow (taken m k n).0
    by None = b
    by (Some n) = changed_below m.passes.there k m.passes.next _ b
effect_below m k Finish b = changed_below m.passes.there k m.passes.next (λ _. idle) b
effect_below m k (Begin r) b = b
effect_below m k (TryBegin r) b = b
effect_below m k (End r) b = b
effect_below m k (Transfer to) b = b
effect_below m k Batch b = changed_below m.passes.there k m.passes.next _ b
effect_below m k EndBatch b = changed_below m.passes.there k m.passes.next _ b
effect_below m k Checkpoint b = b
effect_below m k (Operation op) b = b
effect_below m k (Service x) b = b

step_below : (s : Moment) (k : ℕ) (e : Event) → IsBelow s.manager → IsBelow (step s k e).0.manager
step_below s k e b = subst IsBelow (sym (step_serving s k e).1) (by (refusal s.manager k e))
  where
    by : (r : Option Refusal) → IsBelow (decided r s.manager k e).0
    by None = effect_below s.manager k e b
    by (Some r) = b

replay_below : (s : Moment) (h : List Entry) → IsBelow s.manager → IsBelow (replay s h).manager
replay_below s [] b = b
replay_below s (x ∷ h) b = replay_below (after s x) h (step_below s x.pass x.event b)

-- so it is in each history of a workspace that was opened with pass 0 alone
pub all_below : (s : Moment) (h : List Entry) → s.manager ≡ first_manager → IsBelow (replay s h).manager
all_below s h first = replay_below s h (subst IsBelow (sym first) first_below)
