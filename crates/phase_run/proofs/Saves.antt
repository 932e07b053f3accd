-- Saves that the worker makes.
use Rattle.std.proofs.Common.{◌≡◌, ◌≢◌, ◌≤◌, inl, inr, ℕ, false, List, [], ◌∷◌, ◌++◌, Some, None, refl, sym, ap, ◌∙◌, subst, arith, append-nil, is_some}
use Rattle.std.specs.Prelude.{Result, Ok, Err, MatchResult, OnErr, OnOk}
use Rattle.std.specs.List.{AllByRecursion}
use Rattle.save_kind.specs.declared.answer.SaveAnswer.{SaveAnswer}
use Rattle.save_kind.specs.declared.answer.SaveAnswer.TheVariants as answer
use Rattle.save_kind.specs.declared.kind.SaveKind.{SaveKind}
use Rattle.save_run.specs.declared.command.Saved.{Saved}
use Rattle.save_run.specs.declared.command.Saved.TheVariants.{Ended, Stopped}
use Rattle.core_event.specs.declared.entry.Entry.{Entry}
use Rattle.core_event.specs.declared.event.Event.TheVariants.{Service}
use Rattle.core_event.specs.declared.reply.Answer.{Answer}
use Rattle.core_event.specs.declared.reply.Answer.TheVariants as answers
use Rattle.core_event.specs.declared.reply.Refusal.TheVariants as refusals
use Rattle.core_event.specs.declared.service.ServiceEvent.{ServiceEvent}
use Rattle.core_event.specs.declared.service.ServiceEvent.TheVariants.{Saving}
use Rattle.core_event.specs.Replies.{refusal_number}
use Rattle.job_manager.specs.declared.manager.JobManager.{JobManager}
use Rattle.pass_table.specs.Passes.{has_pass}
use Rattle.ws_core.specs.Histories.{has_entered}
use Rattle.ws_core.specs.Sessions.{Session}
use Rattle.build_history.specs.Events.{NoBuilds, is_of_build}
use Rattle.run_order.specs.Alone.{IsBusy}
use Rattle.run_order.proofs.Idle.{is_there}
use Rattle.run_order.specs.Lists.{Cut, Grew}
use Rattle.run_order.specs.Counts.{left}
use Rattle.save_history.specs.Saves.{IsAnswered, IsSave, IsSaveOf, WasKept, WasStopped, WasUnkept, beginning, ending}
use Rattle.save_history.specs.Stages.{HasSaved}
use Rattle.phase_run.specs.Calm.{IsCalm, wants_memory}
use Rattle.phase_run.specs.Inside.Doing.{IsAtWork, Stops, Works}
use Rattle.phase_run.proofs.Calm.{calm_more}

-- ---- the entries of a save

-- of these events none is of a build
asked_quiet : (k : ℕ) (kind : SaveKind) (s : Saved) (h : List Entry) → IsSaveOf k kind s h → NoBuilds h
asked_quiet k kind (Ended o) h (inl w) = subst NoBuilds (sym w.are) (ap is_of_build w.begins.event_is, (ap is_of_build w.ends.event_is, tt))
asked_quiet k kind (Ended o) h (inr w) = subst NoBuilds (sym w.are) (ap is_of_build w.begins.event_is, (ap is_of_build w.keeps.event_is, (ap is_of_build w.ends.event_is, tt)))
asked_quiet k kind (Stopped n) h w = subst NoBuilds (sym w.are) (ap is_of_build w.refused.event_is, tt)

-- ---- want of memory

other_answer : (o : SaveAnswer) → Ended o ≢ Ended answer.NoMemory → wants_memory (Service (ending o)) ≡ false
other_answer answer.Saved other = refl
other_answer answer.SaveFailed other = refl
other_answer (answer.ParticipantFailed name) other = refl
other_answer answer.SaveTooLarge other = refl
other_answer answer.SaveNumbers other = refl
other_answer answer.NoMemory other = absurd (other refl)

-- a save that ended otherwise is calm
save_calm : (k : ℕ) (kind : SaveKind) (s : Saved) (h : List Entry) → IsSaveOf k kind s h → s ≢ Ended answer.NoMemory → IsCalm h
save_calm k kind (Ended o) h (inl w) other = subst IsCalm (sym w.are) (ap wants_memory w.begins.event_is, (ap wants_memory w.ends.event_is ∙ other_answer o other, tt))
save_calm k kind (Ended o) h (inr w) other = subst IsCalm (sym w.are)
    (ap wants_memory w.begins.event_is, (ap wants_memory w.keeps.event_is, (ap wants_memory w.ends.event_is ∙ other_answer o other, tt)))
save_calm k kind (Stopped n) h w other = subst IsCalm (sym w.are) (ap wants_memory w.refused.event_is, tt)

-- ---- the worker goes on

-- what is so of the jobs and passes is so after a save
still_at_work : (a b : Session) → b.state.manager ≡ a.state.manager → IsAtWork a.state → IsAtWork b.state
still_at_work a b same w = record {
  zeroth = ap (λ (m : JobManager). has_pass m.passes 0) same ∙ w.zeroth;
  name = w.name;
  busy = subst (λ m. IsBusy w.name m) (sym same) w.busy;
}

-- a save was made that didn't want memory
did_save : (kind : SaveKind) (s : Saved) (a b : Session) → HasSaved 1 kind s a b → s ≢ Ended answer.NoMemory → IsAtWork a.state → Works (IsSave 1 kind) a b
did_save kind s a b h other w =
    let now : left b.state ≡ left a.state = ap (λ (m : JobManager). left (record a.state { manager = m })) h.manager in
    record {
      opened = h.opened;
      grew = (h.entries, h.history, (s, h.made));
      calm = calm_more a.history b.history h.entries h.history (save_calm 1 kind s h.entries h.made other);
      at_work = still_at_work a b h.manager w;
      left = omega (arith, now);
    }

-- one was made, after which the run is to stop
stopped_save : (kind : SaveKind) (s : Saved) (a b : Session) → HasSaved 1 kind s a b → IsAtWork a.state → Stops (Cut (IsSave 1 kind)) a b
stopped_save kind s a b h w = record {
  opened = h.opened;
  grew = (h.entries, h.history, ([], subst (IsSave 1 kind) (sym (append-nil h.entries)) (s, h.made)));
  there = ap (λ (m : JobManager). has_pass m.passes 1) h.manager ∙ is_there a.state.manager w.name w.busy.job;
}

pub ended_save : {X E : Type 0} (r : Result X E) (kind : SaveKind) (s : Saved) (a b : Session) → HasSaved 1 kind s a b → OnOk r (s ≢ Ended answer.NoMemory) → IsAtWork a.state
    → MatchResult r (λ _. Works (IsSave 1 kind) a b) (λ _. Stops (Cut (IsSave 1 kind)) a b)
ended_save (Ok x) kind s a b h other w = did_save kind s a b h other w
ended_save (Err e) kind s a b h other w = stopped_save kind s a b h w

-- the builders have no part in it
pub saved_quietly : (kind : SaveKind) (s : Saved) (a b : Session) → HasSaved 1 kind s a b → (h : List Entry) × (b.history ≡ a.history ++ h) × NoBuilds h
saved_quietly kind s a b h = (h.entries, h.history, asked_quiet 1 kind s h.entries h.made)

pub none_quietly : (a b : Session) → b ≡ a → (h : List Entry) × (b.history ≡ a.history ++ h) × NoBuilds h
none_quietly a b same = ([], ap (λ (x : Session). x.history) same ∙ sym (append-nil a.history), tt)
