-- What a script asks of a run, and by which entries of a pass its commands are done.
use Rattle.std.specs.Prelude.{◌≡◌, ℕ, List, Option, map}
use Rattle.builder_api.specs.declared.kind.BuildKind.{BuildKind}
use Rattle.core_event.specs.declared.entry.Entry.{Entry}
use Rattle.core_event.specs.declared.event.Event.{Event}
use Rattle.core_event.specs.declared.event.Event.TheVariants.{Sleep, Wake, Cancel, Begin, TryBegin, End, Batch, EndBatch, Checkpoint, Operation}
use Rattle.script_lang.specs.declared.script.Command.{Command}
use Rattle.script_lang.specs.declared.script.Command.TheVariants as commands
use Rattle.script_lang.specs.declared.script.Job.{Job}
use Rattle.script_lang.specs.declared.script.Phase.{Phase}
use Rattle.script_lang.specs.Commands.{priority_number}
use Rattle.run_order.specs.Plans.{JobPlan}
use Rattle.run_order.specs.Plans as order
use Rattle.run_order.specs.Parts.{CommandEntries, Making}
use Rattle.run_order.specs.Alone.{IsCommand}
use Rattle.run_order.specs.Counts.{scheduling}
use Rattle.save_history.specs.Saves.{IsSave}
use Rattle.script_plan.specs.declared.plan.Asked.{Asked}
use Rattle.script_plan.specs.declared.plan.Asked.TheVariants.{One, Build, Save}

-- what a command asks: one event, a build or a save
abbrev pub asked_of : Command → Asked
asked_of (commands.Operation op) = One (Operation op)
asked_of commands.Batch = One Batch
asked_of commands.EndBatch = One EndBatch
asked_of commands.Checkpoint = One Checkpoint
asked_of (commands.Begin rule) = One (Begin rule)
asked_of (commands.TryBegin rule) = One (TryBegin rule)
asked_of (commands.End rule) = One (End rule)
asked_of (commands.Sleep name) = One (Sleep name)
asked_of (commands.Wake name) = One (Wake name)
asked_of (commands.Cancel name) = One (Cancel name)
asked_of (commands.Build kind project) = Build kind project
asked_of (commands.Save kind) = Save kind

-- an event that a command asks: none of the jobs and passes themselves
pub record IsAsked (e : Event) : Type 0 where
  pub command : IsCommand e
  pub schedules_none : scheduling (λ _. 1) e ≡ 0

-- what a command may ask
abbrev pub IsAskable : Asked → Type 0
IsAskable (One event) = IsAsked event
IsAskable (Build kind project) = Unit {0}
IsAskable (Save kind) = Unit {0}

-- the entries that a pass makes of a build of the project of this name, or of the whole workspace
abbrev pub Building : Type 1
Building = ℕ → BuildKind → Option (List ℕ) → List Entry → Type 0

-- the entries that a pass makes of what is asked, where it makes builds so
abbrev pub AskedEntries : Building → ℕ → Asked → List Entry → Type 0
AskedEntries Builds k (One event) h = CommandEntries k event h
AskedEntries Builds k (Build kind project) h = Builds k kind project h
AskedEntries Builds k (Save kind) h = IsSave k kind h

-- each command is one event, or the entries of a build or a save
abbrev pub Made : Building → Making Command
Made Builds k c h = AskedEntries Builds k (asked_of c) h

abbrev pub job_plan : Job → JobPlan Command
job_plan job = record { name = job.name; priority = priority_number job.priority; asleep = job.asleep; rule = job.rule; commands = job.commands }

abbrev pub jobs_plan : List Job → order.Phase Command
jobs_plan jobs = map job_plan jobs

abbrev pub phase_plan : Phase → order.Phase Command
phase_plan phase = jobs_plan phase.jobs

abbrev pub phases_plan : List Phase → List (order.Phase Command)
phases_plan phases = map phase_plan phases
