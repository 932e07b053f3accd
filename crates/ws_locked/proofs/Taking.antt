-- A job that a pass takes.
use Rattle.std.proofs.Common.{◌≡◌, inl, inr, ℕ, Bool, true, false, List, [], ◌∷◌, ◌++◌, refl, sym, ap, ◌∙◌, subst, if◌then◌else◌}
use Rattle.std.specs.Prelude.{Option, Some, None, Result, Ok, Err}
use Rattle.std.specs.declared.alloc.AllocError.{AllocError}
use Rattle.proj_desc.specs.FirstCause.{when}
use Rattle.pass_table.specs.Passes.{is_busy}
use Rattle.core_event.specs.declared.entry.Entry.{Entry}
use Rattle.core_event.specs.declared.event.Event.TheVariants.{Leave, Take}
use Rattle.core_event.specs.declared.reply.Answer.{Answer}
use Rattle.core_event.specs.declared.reply.Answer.TheVariants as answers
use Rattle.core_event.specs.declared.reply.Refusal.TheVariants.{PassBusy}
use Rattle.core_event.specs.declared.reply.Reply.{Reply}
use Rattle.core_event.specs.Replies.{is_attempt}
use Rattle.job_manager.specs.Effects.{decided, next_job, taken}
use Rattle.ws_core.specs.States.{Moment}
use Rattle.ws_core.specs.Steps.{step}
use Rattle.ws_core.specs.Histories.{entry_of, replay}
use Rattle.run_order.proofs.Managed.{step_answer}
use Rattle.pass_turns.specs.Adds.{AddsUpToOne}
use Rattle.pass_history.specs.There.{gives, is_there}
use Rattle.pass_history.proofs.Staying.{stays_after}
use Rattle.ws_locked.specs.Asked.{WasAsked, noted}
use Rattle.ws_locked.specs.Jobs.{HasTakenJob, job_given, where_given}
use Rattle.ws_locked.proofs.Asked.{none_there}

-- what Take is answered, by whether the pass is busy
answer_by : (s : Moment) (n : ℕ) (b : Bool) → is_busy s.manager.passes n ≡ b → (step s n Take).1.answer ≡ (decided (when b PassBusy) s.manager n Take).1
answer_by s n b is = step_answer s n Take refl refl ∙ ap (λ c. (decided (when c PassBusy) s.manager n Take).1) is

noted_by : (x : Entry) (a : Answer) → x.reply.answer ≡ a → noted x ≡ (if is_attempt x.event a then [] else x ∷ [])
noted_by x a is = ap (λ z. if is_attempt x.event z then [] else x ∷ []) is

given_by : (x : Entry) (a : Answer) → x.reply.answer ≡ a → where_given (job_given x.reply.answer) x ≡ where_given (job_given a) x
given_by x a is = ap (λ z. where_given (job_given z) x) is

-- of one that isn't busy nothing is written but what gives a job
noted_given : (s : Moment) (n : ℕ) → is_busy s.manager.passes n ≡ false → noted (entry_of s n Take) ≡ where_given (job_given (step s n Take).1.answer) (entry_of s n Take)
noted_given s n idle = by (next_job s.manager) refl
  where
    x : Entry
    x = entry_of s n Take

    by : (o : Option (List ℕ)) → next_job s.manager ≡ o → noted x ≡ where_given (job_given x.reply.answer) x
    by None is = let a : x.reply.answer ≡ answers.None = answer_by s n false idle ∙ ap (λ o. (taken s.manager n o).1) is in noted_by x answers.None a ∙ sym (given_by x answers.None a)
    by (Some name) is = let a : x.reply.answer ≡ answers.Job name = answer_by s n false idle ∙ ap (λ o. (taken s.manager n o).1) is in noted_by x (answers.Job name) a ∙ sym (given_by x (answers.Job name) a)

-- ---- the pass took a job, or none

pub took : (s : Moment) (n : ℕ) (h added : List Entry) (reply : Reply) (o : Option (List ℕ)) → is_busy (replay s h).manager.passes n ≡ false → WasAsked Take s n h added (Ok reply) → o ≡ job_given reply.answer
    → HasTakenJob s n h added (Ok o)
took s n h added reply o idle was given =
    let job : o ≡ job_given (step (replay s h) n Take).1.answer = given ∙ ap (λ (r : Reply). job_given r.answer) was.reply in
    record {
      job = job;
      entry = was.entry ∙ (noted_given (replay s h) n idle ∙ ap (λ z. where_given z (entry_of (replay s h) n Take)) (sym job));
      nothing = tt;
    }

pub took_none : (s : Moment) (n : ℕ) (h : List Entry) → is_busy (replay s h).manager.passes n ≡ true → HasTakenJob s n h [] (Ok None)
took_none s n h busy = record { job = sym (ap job_given (answer_by (replay s h) n true busy)); entry = refl; nothing = tt }

-- ---- what it added

pub took_one : (s : Moment) (n : ℕ) (h added : List Entry) (r : Result (Option (List ℕ)) AllocError) → HasTakenJob s n h added r → AddsUpToOne (λ (x : Entry). x.pass) gives n added
took_one s n h added (Ok (Some name)) was = inr (entry_of (replay s h) n Take, was.entry, refl, refl)
took_one s n h added (Ok None) was = inl was.entry
took_one s n h added (Err error) was = inl was.nothing

pub took_there : (s : Moment) (n : ℕ) (h added : List Entry) (r : Result (Option (List ℕ)) AllocError) → is_there s h n ≡ true → HasTakenJob s n h added r → is_there s (h ++ added) n ≡ true
took_there s n h added (Ok (Some name)) there was = subst (λ l. is_there s (h ++ l) n ≡ true) (sym was.entry) (stays_after s h (entry_of (replay s h) n Take) n there (λ leave. absurd (never leave)))
  where
    never : Take ≡ Leave → ⊥
    never e = let e : Take ≡ Leave = e in cc
took_there s n h added (Ok None) there was = none_there s n h added there was.entry
took_there s n h added (Err error) there was = none_there s n h added there was.nothing

-- an answer that gives a job is that one
pub given_is : (a : Answer) (name : List ℕ) → job_given a ≡ Some name → a ≡ answers.Job name
given_is (answers.Job other) name is = let is : Some other ≡ Some name = is in cc
given_is answers.Done name is = cc
given_is (answers.Id n) name is = cc
given_is (answers.Count n) name is = cc
given_is answers.None name is = cc
given_is (answers.Seen seen) name is = cc
given_is (answers.Plan plan) name is = cc
given_is (answers.Handed handed) name is = cc
given_is (answers.Committed touched problems) name is = cc
given_is (answers.Refused r) name is = cc
