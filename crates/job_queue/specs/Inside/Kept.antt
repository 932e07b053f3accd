-- How a queue is kept: the jobs, and beside them the names of those that wait, in turn.
use Rattle.std.specs.Prelude.{◌≡◌, ◌≤◌, ◌<◌, ◌+◌, ◌^◌, ℕ, Bool, false, not, List, Option, None, Some, filter, length}
use Rattle.std.specs.Option.{IsSomeAnd}
use Rattle.std.specs.FinMap.{FinMap, get, entries}
use Rattle.rule_table.specs.declared.held.Held.{Held}
use Rattle.rule_table.specs.Tables.{is_free}
use Rattle.job_queue.specs.declared.state.JobState.TheVariants.{Waiting}
use Rattle.job_queue.specs.declared.job.Job.{Job}
use Rattle.job_queue.specs.declared.job.Turn.{Turn}
use Rattle.job_queue.specs.States.{is_over, is_live}
use Rattle.job_queue.specs.Turns.{turn_cmp}
use Rattle.job_queue.specs.Queues.{Jobs}

-- names of jobs by their turns
abbrev pub Turns : Type 0
Turns = FinMap turn_cmp (List ℕ)

-- how many jobs aren't over
abbrev pub number_kept : {A : Type 0} → Jobs A → ℕ
number_kept jobs = length (filter (λ e. not (is_over e.1.state)) (entries jobs))

-- there is a job, and its rule conflicts with none that is held
abbrev pub has_free : {A : Type 0} → (A → A → Bool) → List (Held A) → Option (Job A) → Bool
has_free conflicts held None = false
has_free conflicts held (Some job) = is_free conflicts held job.rule

pub record IsKept {A : Type 0} (jobs : Jobs A) (turns : Turns) (next done alive : ℕ) : Type 0 where
  -- each job that waits has its turn, and each turn is that of a job that waits
  pub turn : (n : List ℕ) (job : Job A) → get jobs n ≡ Some job → job.state ≡ Waiting → get turns job.turn ≡ Some n
  pub job : (t : Turn) (n : List ℕ) → get turns t ≡ Some n → IsSomeAnd (get jobs n) (λ job. (job.state ≡ Waiting) × (job.turn ≡ t))
  -- no two jobs have one number, and the next one is greater than all
  pub apart : (n m : List ℕ) (one two : Job A) → get jobs n ≡ Some one → get jobs m ≡ Some two → one.turn.number ≡ two.turn.number → n ≡ m
  pub below : (n : List ℕ) (job : Job A) → get jobs n ≡ Some job → job.turn.number < next
  pub drawn : next < 2 ^ 63
  -- each job that was finished was scheduled
  pub finished : done + number_kept jobs ≤ next
  pub live : alive ≡ length (filter (λ e. is_live e.1.state) (entries jobs))
