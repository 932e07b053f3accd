-- What others leave of a pass's own row: its batches stay open.
use Rattle.std.proofs.Common.{◌≡◌, ◌≢◌, ◌<◌, ℕ, Bool, true, false, cond, List, [], ◌∷◌, refl, ap, sym, ◌∙◌, arith}
use Rattle.std.specs.Prelude.{Option, Some, None}
use Rattle.std.specs.Ordering.{nat_cmp, eq_by_cmp}
use Rattle.std.specs.FinMap.{nat_cmp-IsAntisymmetric, get, insert, remove, get-insert, get-remove}
use Rattle.std.proofs.lemmas.Cmp.{nat_cmp_total}
use Rattle.job_queue.specs.Changed.{put_if}
use Rattle.job_queue.proofs.Found.{same_key}
use Rattle.pass_table.specs.declared.pass.Pass.{Pass}
use Rattle.pass_table.specs.Passes.{Table, batches_in, batches_of, idle}
use Rattle.core_event.specs.declared.entry.Entry.{Entry}
use Rattle.core_event.specs.declared.event.Event.{Event}
use Rattle.core_event.specs.declared.event.Event.TheVariants.{Enter, Leave, Schedule, Sleep, Wake, Cancel, Take, Finish, Begin, TryBegin, End, Transfer, Batch, EndBatch, Checkpoint, Operation, Service}
use Rattle.core_event.specs.declared.reply.Refusal.{Refusal}
use Rattle.job_manager.specs.declared.manager.JobManager.{JobManager}
use Rattle.job_manager.specs.Refusals.{refusal}
use Rattle.job_manager.specs.Effects.{decided, effect, next_job, taken}
use Rattle.ws_core.specs.States.{Moment}
use Rattle.ws_core.specs.Steps.{step}
use Rattle.ws_core.specs.Histories.{after, replay}
use Rattle.run_order.proofs.Managed.{step_serving}
use Rattle.ws_turn.specs.Lists.{of}
use Rattle.pass_turns.proofs.There.{others}
use Rattle.pass_history.proofs.Given.{replay_next}
use Rattle.build_beside.specs.Turns.{pass_of}

differs : (n k : ℕ) → k ≢ n → eq_by_cmp nat_cmp n k ≡ false
differs n k other = by (eq_by_cmp nat_cmp n k) refl
  where
    by : (b : Bool) → eq_by_cmp nat_cmp n k ≡ b → b ≡ false
    by true e = absurd (other (sym (same_key nat_cmp-IsAntisymmetric n k e)))
    by false e = refl

put_other : (t : Table) (k n : ℕ) (v : Pass) → k ≢ n → get (insert t k v) n ≡ get t n
put_other t k n v other = get-insert nat_cmp_total t k v n ∙ ap (λ b. cond b (Some v) (get t n)) (differs n k other)

cut_other : (t : Table) (k n : ℕ) → k ≢ n → get (remove t k) n ≡ get t n
cut_other t k n other = get-remove nat_cmp_total t k n ∙ ap (λ b. cond b None (get t n)) (differs n k other)

changed_other : (t : Table) (k n : ℕ) (o : Option Pass) → k ≢ n → get (put_if t k o) n ≡ get t n
changed_other t k n None other = refl
changed_other t k n (Some v) other = put_other t k n v other

effect_row : (m : JobManager) (k n : ℕ) (e : Event) → k ≢ n → n < m.passes.next → get (effect m k e).0.passes.there n ≡ get m.passes.there n
effect_row m k n Enter other lt = put_other m.passes.there m.passes.next n idle (λ same. omega (arith, same, lt))
effect_row m k n Leave other lt = cut_other m.passes.there k n other
effect_row m k n (Schedule name p r a) other lt = refl
effect_row m k n (Sleep name) other lt = refl
effect_row m k n (Wake name) other lt = refl
effect_row m k n (Cancel name) other lt = refl
effect_row m k n Take other lt = by (next_job m)
  where
    by : (o : Option (List ℕ)) → get (taken m k o).0.passes.there n ≡ get m.passes.there n
    by None = refl
    by (Some name) = changed_other m.passes.there k n _ other
effect_row m k n Finish other lt = changed_other m.passes.there k n _ other
effect_row m k n (Begin r) other lt = refl
effect_row m k n (TryBegin r) other lt = refl
effect_row m k n (End r) other lt = refl
effect_row m k n (Transfer to) other lt = refl
effect_row m k n Batch other lt = changed_other m.passes.there k n _ other
effect_row m k n EndBatch other lt = changed_other m.passes.there k n _ other
effect_row m k n Checkpoint other lt = refl
effect_row m k n (Operation op) other lt = refl
effect_row m k n (Service x) other lt = refl

step_row : (s : Moment) (k n : ℕ) (e : Event) → k ≢ n → n < s.manager.passes.next → get (step s k e).0.manager.passes.there n ≡ get s.manager.passes.there n
step_row s k n e other lt = ap (λ (m : JobManager). get m.passes.there n) (step_serving s k e).1 ∙ by (refusal s.manager k e)
  where
    by : (r : Option Refusal) → get (decided r s.manager k e).0.passes.there n ≡ get s.manager.passes.there n
    by None = effect_row s.manager k n e other lt
    by (Some r) = refl

-- the row of a pass is as it was after entries of others
others_row : (s : Moment) (n : ℕ) (h : List Entry) → of pass_of n h ≡ [] → n < s.manager.passes.next → get (replay s h).manager.passes.there n ≡ get s.manager.passes.there n
others_row s n [] none lt = refl
others_row s n (x ∷ h) none lt =
    let o = others pass_of n x h none in
    let up = replay_next s (x ∷ []) in
    others_row (after s x) n h o.1 (omega (arith, up, lt)) ∙ step_row s x.pass n x.event o.0 lt

pub others_batches : (s : Moment) (n : ℕ) (h : List Entry) → of pass_of n h ≡ [] → n < s.manager.passes.next → batches_of (replay s h).manager.passes n ≡ batches_of s.manager.passes n
others_batches s n h none lt = ap batches_in (others_row s n h none lt)
