-- One worker alone: what holds of the jobs and passes between its parts and in them.
use Rattle.std.specs.Prelude.{◌≡◌, ◌≢◌, ℕ, List, [], Some, None}
use Rattle.std.specs.List.{AllByRecursion}
use Rattle.std.specs.FinMap.{get}
use Rattle.sched_rules.specs.declared.ws_atom.WsAtom.{WsAtom}
use Rattle.rule_table.specs.declared.held.Held.{Held}
use Rattle.job_queue.specs.declared.state.JobState.TheVariants as states
use Rattle.job_queue.specs.Queues.{state_of}
use Rattle.pass_table.specs.Passes.{job_of, idle}
use Rattle.core_event.specs.declared.event.Event.{Event}
use Rattle.core_event.specs.declared.event.Event.TheVariants.{Enter, Leave, Take, Finish, Begin, TryBegin, End, Transfer, Batch, EndBatch, Service}
use Rattle.job_manager.specs.declared.manager.JobManager.{JobManager}

-- all rules are pass 1's
abbrev pub AllOfOne : List (Held WsAtom) → Type 0
AllOfOne all = AllByRecursion (λ (held : Held WsAtom). held.holder ≡ 1) all

-- all rules are pass 1's, and a job that is run is the one that it runs
pub record IsSingle (m : JobManager) : Type 0 where
  pub held : AllOfOne m.passes.rules
  pub runs : (name : List ℕ) → state_of m.jobs name ≡ Some states.Running → job_of m.passes 1 ≡ Some name

-- what pass 0 does between parts, and pass 1 in its own
abbrev pub IsPlain : ℕ → Event → Type 0
IsPlain k Enter = ⊥
IsPlain k Leave = ⊥
IsPlain k (Transfer to) = ⊥
IsPlain k Take = k ≡ 1
IsPlain k Finish = k ≡ 1
IsPlain k (Begin rule) = k ≡ 1
IsPlain k (TryBegin rule) = k ≡ 1
IsPlain k (End rule) = k ≡ 1
IsPlain k Batch = k ≡ 1
IsPlain k EndBatch = k ≡ 1
IsPlain k event = Unit {0}

-- pass 1 has nothing, no job is run, and no pass has the services
pub record IsIdle (m : JobManager) : Type 0 where
  pub rules : m.passes.rules ≡ []
  pub there : get m.passes.there 1 ≡ Some idle
  pub runs : (name : List ℕ) → state_of m.jobs name ≢ Some states.Running
  pub services : m.passes.services ≡ None

-- pass 1 runs this job, and no pass has the services
pub record IsBusy (name : List ℕ) (m : JobManager) : Type 0 where
  pub single : IsSingle m
  pub job : job_of m.passes 1 ≡ Some name
  pub services : m.passes.services ≡ None

-- an event that a command may be
abbrev pub IsCommand : Event → Type 0
IsCommand Enter = ⊥
IsCommand Leave = ⊥
IsCommand (Transfer to) = ⊥
IsCommand Take = ⊥
IsCommand Finish = ⊥
IsCommand (Service x) = ⊥
IsCommand event = Unit {0}
