-- What a pass takes of the jobs, and finds of them.
use Rattle.std.specs.Prelude.{◌≡◌, ℕ, List, [], ◌∷◌, filter, Option, Some, None, Result, IfOk, OnErr}
use Rattle.std.specs.declared.alloc.AllocError.{AllocError}
use Rattle.core_event.specs.declared.entry.Entry.{Entry}
use Rattle.core_event.specs.declared.event.Event.TheVariants.{Take}
use Rattle.core_event.specs.declared.reply.Answer.{Answer}
use Rattle.core_event.specs.declared.reply.Answer.TheVariants.{Job}
use Rattle.ws_core.specs.States.{Moment}
use Rattle.ws_core.specs.Steps.{step}
use Rattle.ws_core.specs.Histories.{entry_of, replay}
use Rattle.run_order.specs.Orders.{sleeps}

-- the job that an answer gives
abbrev pub job_given : Answer → Option (List ℕ)
job_given (Job name) = Some name
job_given answer = None

-- the entry, where a job is given by it
abbrev pub where_given : Option (List ℕ) → Entry → List Entry
where_given None x = []
where_given (Some name) x = x ∷ []

-- Pass n took the job that Take gives at the end of the history that was found, and its entry was added. Where Take gives none,
-- since none may be run now or the pass is busy, it took none, and nothing was added; nor was it where memory wanted.
pub record HasTakenJob (s : Moment) (n : ℕ) (found added : List Entry) (answer : Result (Option (List ℕ)) AllocError) : Type 0 where
  pub job : IfOk answer (λ o. o ≡ job_given (step (replay s found) n Take).1.answer)
  pub entry : IfOk answer (λ o. added ≡ where_given o (entry_of (replay s found) n Take))
  pub nothing : OnErr answer (added ≡ [])

-- of the names those of jobs that sleep at the end of the history that was found, to which nothing was added
pub record WereAsleep (names : List (List ℕ)) (s : Moment) (n : ℕ) (found added : List Entry) (asleep : List (List ℕ)) : Type 0 where
  pub asleep_are : asleep ≡ filter (λ name. sleeps (replay s found) name) names
  pub nothing : added ≡ []
