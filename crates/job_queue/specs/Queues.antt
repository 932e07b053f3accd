-- A queue of jobs, why a call of it is refused, what each call does, and which job comes next.
use Rattle.std.specs.Prelude.{◌≡◌, ◌≢◌, ℕ, ◌+◌, ◌-◌, ◌^◌, ◌&&◌, nat_le, Bool, true, if◌then◌else◌, List, [], ◌∷◌, Option, Some, None, filter, length}
use Rattle.std.specs.Option.{option_map}
use Rattle.std.specs.declared.cmp.Ordering.{Ordering}
use Rattle.std.specs.declared.cmp.Ordering.TheVariants.{Less}
use Rattle.std.specs.Ordering.{nat_cmp, is_lt}
use Rattle.std.specs.Cmp.Lexicographic.{slice_cmp}
use Rattle.std.specs.FinMap.{FinMap, empty, get, insert, entries}
use Rattle.rule_table.specs.declared.held.Held.{Held}
use Rattle.rule_table.specs.Tables.{is_free}
use Rattle.job_queue.specs.declared.state.JobState.{JobState}
use Rattle.job_queue.specs.declared.state.JobState.TheVariants as state
use Rattle.job_queue.specs.declared.error.JobError.{JobError}
use Rattle.job_queue.specs.declared.error.JobError.TheVariants.{UnknownJob, WrongState, NumbersUsed}
use Rattle.job_queue.specs.declared.job.Job.{Job}
use Rattle.job_queue.specs.Changed.{changed}
use Rattle.job_queue.specs.States.{is_over, is_waiting, is_live}
use Rattle.job_queue.specs.Turns.{turn_cmp}

-- the order of names, byte by byte
abbrev pub name_cmp : List ℕ → List ℕ → Ordering
name_cmp = slice_cmp nat_cmp

-- jobs by name
abbrev pub Jobs : Type 0 → Type 0
Jobs A = FinMap name_cmp (Job A)

-- what contracts see of a queue
pub record Queue (A : Type 0) : Type 0 where
  -- all that were ever scheduled; one that is over stays, without a rule
  pub jobs : Jobs A
  -- the number that the next job gets
  pub next_number : ℕ
  -- how many were finished
  pub finished : ℕ

-- no job was ever scheduled
abbrev pub no_jobs : {A : Type 0} → Queue A
no_jobs = record { jobs = empty; next_number = 0; finished = 0 }

-- what becomes of the job of this name, if one was ever scheduled
abbrev pub state_of : {A : Type 0} → Queue A → List ℕ → Option JobState
state_of q name = option_map (λ job. job.state) (get q.jobs name)

-- how many jobs wait or are run
abbrev pub live : {A : Type 0} → Queue A → ℕ
live q = length (filter (λ e. is_live e.1.state) (entries q.jobs))

-- ---- why a call is refused

-- the call is for jobs in some states
abbrev pub refusal : (JobState → Bool) → Option JobState → Option JobError
refusal may None = Some UnknownJob
refusal may (Some state) = if may state then None else Some (WrongState state)

-- the number of one more job would pass 2^63 - 1
abbrev pub number_refusal : ℕ → Option JobError
number_refusal next = if nat_le (2 ^ 63 - 1) next then Some NumbersUsed else None

-- a job is scheduled that never was, or is over
abbrev pub schedule_refusal : ℕ → Option JobState → Option JobError
schedule_refusal next None = number_refusal next
schedule_refusal next (Some state) = if is_over state then number_refusal next else Some (WrongState state)

-- ---- what a call does

-- a job that is scheduled sleeps, where that is asked, or waits
abbrev pub first_state : Bool → JobState
first_state asleep = if asleep then state.Sleeping else state.Waiting

-- the job comes after all of its priority that were scheduled before
abbrev pub scheduled : {A : Type 0} → Queue A → List ℕ → ℕ → List A → Bool → Queue A
scheduled q name priority rule asleep = record q {
  jobs = insert q.jobs name (record { state = first_state asleep; turn = record { priority = priority; number = q.next_number }; rule = rule });
  next_number = q.next_number + 1;
}

-- the jobs, with this one, if any, in the place of the one of its name
abbrev pub in_state : {A : Type 0} → JobState → Job A → Job A
in_state state job = record job { state = state }

-- the job once it is over, with the null rule
abbrev pub over : {A : Type 0} → Job A → Job A
over job = record job { state = state.None; rule = [] }

-- the job is in another state; its turn stays
abbrev pub moved : {A : Type 0} → Queue A → List ℕ → JobState → Queue A
moved q name state = record q { jobs = changed (in_state state) name q.jobs }

-- the job is over
abbrev pub cancelled : {A : Type 0} → Queue A → List ℕ → Queue A
cancelled q name = record q { jobs = changed over name q.jobs }

-- and it was finished
abbrev pub finished : {A : Type 0} → Queue A → List ℕ → Queue A
finished q name = record (cancelled q name) { finished = q.finished + 1 }

-- ---- which job comes next

-- the job waits, and its rule conflicts with none that is held
abbrev pub may_start : {A : Type 0} → (A → A → Bool) → List (Held A) → Job A → Bool
may_start conflicts held job = is_waiting job.state && is_free conflicts held job.rule

-- the job of this name may start, and none that may has an earlier turn
pub record ComesNext {A : Type 0} (conflicts : A → A → Bool) (held : List (Held A)) (jobs : Jobs A) (name : List ℕ) : Type 0 where
  pub job : Job A
  pub there : get jobs name ≡ Some job
  pub may : may_start conflicts held job ≡ true
  pub first : (n : List ℕ) (other : Job A) → get jobs n ≡ Some other → may_start conflicts held other ≡ true → turn_cmp other.turn job.turn ≢ Less

-- the one with the earlier turn
abbrev pub earlier : {A : Type 0} → List ℕ × Job A → Option (List ℕ × Job A) → Option (List ℕ × Job A)
earlier e None = Some e
earlier e (Some other) = if is_lt (turn_cmp other.1.turn e.1.turn) then Some other else Some e

-- the one of these with the first turn
abbrev pub earliest : {A : Type 0} → List (List ℕ × Job A) → Option (List ℕ × Job A)
earliest [] = None
earliest (e ∷ es) = earlier e (earliest es)

-- the name of the job that comes next: of those that may start the one with the first turn
abbrev pub next_name : {A : Type 0} → (A → A → Bool) → List (Held A) → Queue A → Option (List ℕ)
next_name conflicts held q = option_map (λ e. e.0) (earliest (filter (λ e. may_start conflicts held e.1) (entries q.jobs)))
