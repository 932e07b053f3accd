-- What a worker's steps leave.
use Rattle.std.specs.Prelude.{◌≡◌, ◌≤◌, ◌+◌, ℕ, true, List, [], ◌∷◌, ◌++◌, Option, Some, None}
use Rattle.job_queue.specs.Queues as queue
use Rattle.core_event.specs.declared.entry.Entry.{Entry}
use Rattle.core_event.specs.declared.event.Event.TheVariants.{Take, Finish}
use Rattle.core_event.specs.declared.reply.Answer.{Answer}
use Rattle.core_event.specs.declared.reply.Answer.TheVariants.{Job as Taken}
use Rattle.core_event.specs.declared.reply.Reply.{Reply}
use Rattle.script_lang.specs.declared.script.Command.{Command}
use Rattle.ws_core.specs.States.{Moment}
use Rattle.ws_core.specs.Histories.{has_entered, replay}
use Rattle.ws_core.specs.Sessions.{Session}
use Rattle.run_order.specs.Lists.{entry, Grew, InTurn}
use Rattle.run_order.specs.Parts.{Making}
use Rattle.run_order.specs.Alone.{IsIdle, IsBusy}
use Rattle.run_order.specs.Counts.{left}
use Rattle.phase_run.specs.Calm.{IsCalm}

-- pass 0 is there, and so is the worker, which has nothing
pub record IsReady (s : Moment) : Type 0 where
  pub zeroth : has_entered 0 s ≡ true
  pub idle : IsIdle s.manager

-- pass 0 is there, and the worker runs a job
pub record IsAtWork (s : Moment) : Type 0 where
  pub zeroth : has_entered 0 s ≡ true
  pub name : List ℕ
  pub busy : IsBusy name s.manager

-- the history went on by such entries, of which no build or save ended for want of memory, and the worker is ready for more
pub record Makes (P : List Entry → Type 0) (old new : Session) : Type 0 where
  pub opened : new.opened ≡ old.opened
  pub grew : Grew P old.history new.history
  pub calm : IsCalm old.history → IsCalm new.history
  pub ready : IsReady new.state

-- it went on by such entries until memory wanted, and the worker is still there
pub record Stops (P : List Entry → Type 0) (old new : Session) : Type 0 where
  pub opened : new.opened ≡ old.opened
  pub grew : Grew P old.history new.history
  pub there : has_entered 1 new.state ≡ true

-- it went on by such entries, of which none ended so, the worker still runs a job, and no more jobs are left than before
pub record Works (P : List Entry → Type 0) (old new : Session) : Type 0 where
  pub opened : new.opened ≡ old.opened
  pub grew : Grew P old.history new.history
  pub calm : IsCalm old.history → IsCalm new.history
  pub at_work : IsAtWork new.state
  pub left : left new.state ≤ left old.state

-- the entries of a job's commands, and Finish
pub record EndsPart (Make : Making Command) (commands : List Command) (h : List Entry) : Type 0 where
  pub body : List Entry
  pub finished : Reply
  pub are : h ≡ body ++ entry 1 Finish finished ∷ []
  pub made : InTurn (Make 1) commands body

-- the job is done, and no more jobs are left than before
pub record Ends (Make : Making Command) (commands : List Command) (old new : Session) : Type 0 where
  pub made : Makes (EndsPart Make commands) old new
  pub left : left new.state ≤ left old.state

-- the job that an answer gives
abbrev pub job_given : Answer → Option (List ℕ)
job_given (Taken name) = Some name
job_given answer = None

-- no job waits or is run
abbrev pub IsOver : Session → Type 0
IsOver x = queue.live (replay x.opened x.history).manager.jobs ≡ 0

-- a job was taken, and fewer are left
pub record TakesOne (name : List ℕ) (old new : Session) : Type 0 where
  pub opened : new.opened ≡ old.opened
  pub taken : Reply
  pub gives : taken.answer ≡ Taken name
  pub history : new.history ≡ old.history ++ entry 1 Take taken ∷ []
  pub at_work : IsAtWork new.state
  pub fewer : left new.state + 1 ≤ left old.state

-- no job was there to be taken
pub record TakesNone (old new : Session) : Type 0 where
  pub opened : new.opened ≡ old.opened
  pub history : new.history ≡ old.history
  pub ready : IsReady new.state
  pub over : IsOver new

abbrev pub Takes : Option (List ℕ) → Session → Session → Type 0
Takes None old new = TakesNone old new
Takes (Some name) old new = TakesOne name old new
