-- What becomes of a job.
use Rattle.std.specs.Prelude.{ℕ, Bool, true, false}
use Rattle.job_queue.specs.declared.state.JobState.{JobState}
use Rattle.job_queue.specs.declared.state.JobState.TheVariants.{None, Sleeping, Waiting, Running}

-- the platform's number
abbrev pub state_number : JobState → ℕ
state_number None = 0
state_number Sleeping = 1
state_number Waiting = 2
state_number Running = 4

-- it was finished or cancelled
abbrev pub is_over : JobState → Bool
is_over None = true
is_over Sleeping = false
is_over Waiting = false
is_over Running = false

abbrev pub is_sleeping : JobState → Bool
is_sleeping None = false
is_sleeping Sleeping = true
is_sleeping Waiting = false
is_sleeping Running = false

abbrev pub is_waiting : JobState → Bool
is_waiting None = false
is_waiting Sleeping = false
is_waiting Waiting = true
is_waiting Running = false

abbrev pub is_running : JobState → Bool
is_running None = false
is_running Sleeping = false
is_running Waiting = false
is_running Running = true

-- it waits or is run
abbrev pub is_live : JobState → Bool
is_live None = false
is_live Sleeping = false
is_live Waiting = true
is_live Running = true

-- it sleeps or waits
abbrev pub may_be_cancelled : JobState → Bool
may_be_cancelled None = false
may_be_cancelled Sleeping = true
may_be_cancelled Waiting = true
may_be_cancelled Running = false
