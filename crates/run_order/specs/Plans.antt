-- What a run is to make: phases, each of jobs, each of commands.
use Rattle.std.specs.Prelude.{◌≢◌, ℕ, Bool, List, [], ◌∷◌, if◌then◌else◌}
use Rattle.std.specs.List.{AllByRecursion}
use Rattle.std.specs.Ordering.{eq_by_cmp}
use Rattle.job_queue.specs.Queues.{name_cmp}
use Rattle.sched_rules.specs.declared.ws_atom.WsAtom.{WsAtom}

-- a job with its commands, which may be of any kind
pub record JobPlan (C : Type 0) : Type 0 where
  pub name : List ℕ
  pub priority : ℕ
  -- the job is scheduled asleep
  pub asleep : Bool
  pub rule : List WsAtom
  pub commands : List C

-- the jobs of a phase in text order
abbrev pub Phase : Type 0 → Type 0
Phase C = List (JobPlan C)

-- no two of the jobs have one name
abbrev pub HaveOwnNames : {C : Type 0} → Phase C → Type 0
HaveOwnNames [] = Unit {0}
HaveOwnNames (job ∷ jobs) = AllByRecursion (λ (other : JobPlan _). job.name ≢ other.name) jobs × HaveOwnNames jobs

-- two names are one
abbrev pub is_name : List ℕ → List ℕ → Bool
is_name a b = eq_by_cmp name_cmp a b

-- the commands of the first job of this name
abbrev pub commands_of : {C : Type 0} → Phase C → List ℕ → List C
commands_of [] name = []
commands_of (job ∷ jobs) name = if is_name name job.name then job.commands else commands_of jobs name
