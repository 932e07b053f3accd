-- What a pass's call of one event does.
use Rattle.std.specs.Prelude.{◌≡◌, ℕ, Bool, true, false, List, [], ◌∷◌, if◌then◌else◌, Option, Result, IfNone, IfOk, IfSome, IsOk, OnErr}
use Rattle.std.specs.declared.alloc.AllocError.{AllocError}
use Rattle.core_event.specs.declared.entry.Entry.{Entry}
use Rattle.core_event.specs.declared.event.Event.{Event}
use Rattle.builder_api.specs.declared.edits.Edits.{Edits}
use Rattle.build_still.specs.Still.{FindsStill}
use Rattle.core_event.specs.declared.event.Event.TheVariants.{Enter, Leave, Service}
use Rattle.core_event.specs.declared.service.ServiceEvent.TheVariants.{Commit}
use Rattle.core_event.specs.declared.reply.Reply.{Reply}
use Rattle.pass_history.specs.Served.{moves_nothing}
use Rattle.job_manager.specs.Ends.{EndsLast}
use Rattle.job_queue.specs.Queues.{live}
use Rattle.ws_core.specs.declared.session.JobCount.{JobCount}
use Rattle.ws_core.specs.States.{Moment}
use Rattle.ws_core.specs.Steps.{step}
use Rattle.ws_core.specs.Histories.{entry_of, only_tried, replay}

-- the services neither go out by the event nor come home, and no pass enters or leaves
abbrev pub is_plain : Event → Bool
is_plain Enter = false
is_plain Leave = false
is_plain (Service x) = moves_nothing x
is_plain event = true

-- what is written of an entry: nothing of an attempt
abbrev pub noted : Entry → List Entry
noted x = if only_tried x then [] else x ∷ []

-- The event of pass n was done at the end of the history that was found, and its entry added; where memory wanted nothing was.
-- It never wants where the pass ends the rule that it began last.
pub record WasAsked (e : Event) (s : Moment) (n : ℕ) (found added : List Entry) (answer : Result Reply AllocError) : Type 0 where
  pub reply : IfOk answer (λ r. r ≡ (step (replay s found) n e).1)
  pub entry : IfOk answer (λ r. added ≡ noted (entry_of (replay s found) n e))
  pub nothing : OnErr answer (added ≡ [])
  pub never : EndsLast (replay s found).manager.passes.rules n e → IsOk answer

-- The edits of pass n were asked to be committed. What was handed to it for the command by its last entry is still so then:
-- nothing but markers changed since.
pub record WasCommitted (edits : Edits) (s : Moment) (n : ℕ) (found added : List Entry) (answer : Result Reply AllocError) : Type 0 where
  pub asked : WasAsked (Service (Commit edits)) s n found added answer
  pub still : FindsStill s n found

-- The same of an event that waited until it was more than an attempt
pub record HasStood (e : Event) (s : Moment) (n : ℕ) (found added : List Entry) (answer : Result Reply AllocError) : Type 0 where
  pub reply : IfOk answer (λ r. r ≡ (step (replay s found) n e).1)
  pub entry : IfOk answer (λ r. added ≡ entry_of (replay s found) n e ∷ [])
  pub nothing : OnErr answer (added ≡ [])

-- An event was tried: it stood, or it only found that it must wait, and nothing was added
pub record WasTried (e : Event) (s : Moment) (n : ℕ) (found added : List Entry) (answer : Result (Option Reply) AllocError) : Type 0 where
  pub reply : IfOk answer (λ o. IfSome o (λ r. r ≡ (step (replay s found) n e).1))
  pub entry : IfOk answer (λ o. IfSome o (λ r. added ≡ entry_of (replay s found) n e ∷ []))
  pub waits : IfOk answer (λ o. IfNone o (only_tried (entry_of (replay s found) n e) ≡ true))
  pub without : IfOk answer (λ o. IfNone o (added ≡ []))
  pub nothing : OnErr answer (added ≡ [])

-- the jobs were counted as they were at the end of the history that was found, to which nothing was added
pub record HasCounted (s : Moment) (n : ℕ) (found added : List Entry) (count : JobCount) : Type 0 where
  pub live_is : count.live ≡ live (replay s found).manager.jobs
  pub finished_is : count.finished ≡ (replay s found).manager.jobs.finished
  pub nothing : added ≡ []
