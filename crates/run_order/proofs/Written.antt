-- What one event adds to the history, as the core writes it.
use Rattle.std.proofs.Common.{◌≡◌, ℕ, Bool, true, false, List, [], ◌∷◌, ◌++◌, refl, ap, ◌∙◌, if◌then◌else◌}
use Rattle.std.specs.Prelude.{Option, Some, None, is_none}
use Rattle.job_queue.specs.declared.state.JobState.TheVariants as states
use Rattle.job_queue.specs.Queues as queue
use Rattle.job_queue.specs.States.{may_be_cancelled}
use Rattle.pass_table.specs.Passes.{is_busy, job_of}
use Rattle.sched_rules.specs.declared.ws_atom.WsAtom.{WsAtom}
use Rattle.core_event.specs.declared.entry.Entry.{Entry}
use Rattle.core_event.specs.declared.event.Event.{Event}
use Rattle.core_event.specs.declared.event.Event.TheVariants.{Enter, Leave, Schedule, Cancel, Take, Finish}
use Rattle.core_event.specs.declared.reply.Answer.TheVariants as answers
use Rattle.core_event.specs.declared.reply.Refusal.{Refusal}
use Rattle.core_event.specs.declared.reply.Refusal.TheVariants as refusals
use Rattle.core_event.specs.Events.{operation_of, service_of}
use Rattle.core_event.specs.Replies.{is_attempt, is_conflict}
use Rattle.job_manager.specs.Refusals.{refusal}
use Rattle.job_manager.specs.Effects.{effect, decided}
use Rattle.ws_core.specs.States.{Moment}
use Rattle.ws_core.specs.Steps.{step}
use Rattle.ws_core.specs.Histories.{entry_of, only_tried, written}
use Rattle.run_order.specs.Lists.{acts, Grew}
use Rattle.run_order.specs.Parts.{OneEvent}
use Rattle.run_order.specs.Alone.{IsSingle, IsCommand}
use Rattle.run_order.proofs.Managed.{step_answer}
use Rattle.run_order.proofs.Waiting.{job_refusal, when_refusal, both_false, never_tried}

-- an event that is no attempt is written
pub written_more : (h : List Entry) (x : Entry) → only_tried x ≡ false → written h x ≡ h ++ x ∷ []
written_more h x tried = ap (λ (b : Bool). if b then h else h ++ x ∷ []) tried

-- an attempt isn't
pub written_none : (h : List Entry) (x : Entry) → only_tried x ≡ true → written h x ≡ h
written_none h x tried = ap (λ (b : Bool). if b then h else h ++ x ∷ []) tried

-- ---- events that no rule of another pass may be in the way of

never : (s : Moment) (k : ℕ) (e : Event) → operation_of e ≡ None → service_of e ≡ None → ((r : Refusal) → refusal s.manager k e ≡ Some r → is_conflict r ≡ false) → is_attempt e (effect s.manager k e).1 ≡ false → only_tried (entry_of s k e) ≡ false
never s k e none plain refused done = ap (is_attempt e) (step_answer s k e none plain) ∙ by (refusal s.manager k e) refl
  where
    by : (r : Option Refusal) → refusal s.manager k e ≡ r → is_attempt e (decided r s.manager k e).1 ≡ false
    by None is = done
    by (Some r) is = both_false (is_conflict r) _ (refused r is)

pub enter_tried : (s : Moment) (k : ℕ) → only_tried (entry_of s k Enter) ≡ false
enter_tried s k = never s k Enter refl refl (λ r is. none r is) refl
  where
    none : (r : Refusal) → None ≡ Some r → is_conflict r ≡ false
    none r h = cc

pub leave_tried : (s : Moment) (k : ℕ) → only_tried (entry_of s k Leave) ≡ false
leave_tried s k = never s k Leave refl refl (λ r is. when_refusal (is_busy s.manager.passes k) refusals.PassBusy r refl is) refl

pub schedule_tried : (s : Moment) (k : ℕ) (name : List ℕ) (priority : ℕ) (rule : List WsAtom) (asleep : Bool) → only_tried (entry_of s k (Schedule name priority rule asleep)) ≡ false
schedule_tried s k name priority rule asleep =
    never s k (Schedule name priority rule asleep) refl refl (λ r is. job_refusal (queue.schedule_refusal s.manager.jobs.next_number (queue.state_of s.manager.jobs name)) r is) refl

pub cancel_tried : (s : Moment) (k : ℕ) (name : List ℕ) → only_tried (entry_of s k (Cancel name)) ≡ false
cancel_tried s k name = never s k (Cancel name) refl refl (λ r is. job_refusal (queue.refusal may_be_cancelled (queue.state_of s.manager.jobs name)) r is) refl

pub finish_tried : (s : Moment) (k : ℕ) → only_tried (entry_of s k Finish) ≡ false
finish_tried s k = never s k Finish refl refl (λ r is. when_refusal (is_none (job_of s.manager.passes k)) (refusals.WrongState states.None) r refl is) refl

-- Take is an entry where it gives a job, and none where it gives none
pub taken_tried : (s : Moment) (k : ℕ) (name : List ℕ) → (step s k Take).1.answer ≡ answers.Job name → only_tried (entry_of s k Take) ≡ false
taken_tried s k name is = ap (is_attempt Take) is

pub untaken_tried : (s : Moment) (k : ℕ) → (step s k Take).1.answer ≡ answers.None → only_tried (entry_of s k Take) ≡ true
untaken_tried s k is = ap (is_attempt Take) is

-- ---- one entry more

pub act_made : (s : Moment) (k : ℕ) (e : Event) (h : List Entry) → only_tried (entry_of s k e) ≡ false → Grew (λ l. acts l ≡ (k, e) ∷ []) h (written h (entry_of s k e))
act_made s k e h tried = (entry_of s k e ∷ [], written_more h (entry_of s k e) tried, refl)

-- a command of one worker alone
pub command_made : {C : Type 0} (event : C → Event) (s : Moment) (c : C) (h : List Entry) → IsCommand (event c) → IsSingle s.manager → Grew (OneEvent event 1 c) h (written h (entry_of s 1 (event c)))
command_made event s c h command single = (entry_of s 1 (event c) ∷ [], written_more h (entry_of s 1 (event c)) (never_tried s (event c) command single), ((step s 1 (event c)).1, refl))
