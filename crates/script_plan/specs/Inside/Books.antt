-- Places of jobs in a list, by name.
use Rattle.std.specs.Prelude.{◌≡◌, ℕ, List, [], Option, Some, None, drop, slice_get}
use Rattle.std.specs.FinMap.{FinMap, get}
use Rattle.job_queue.specs.Queues.{name_cmp}
use Rattle.script_lang.specs.declared.script.Command.{Command}
use Rattle.script_lang.specs.declared.script.Job.{Job}
use Rattle.run_order.specs.Plans.{commands_of}
use Rattle.script_plan.specs.Plans.{jobs_plan}

abbrev pub Places : Type 0
Places = FinMap name_cmp ℕ

abbrev pub commands_in : Option Job → List Command
commands_in None = []
commands_in (Some job) = job.commands

-- the commands of the job at the place, if there is one
abbrev pub commands_at : List Job → Option ℕ → List Command
commands_at jobs None = []
commands_at jobs (Some i) = commands_in (slice_get jobs i)

-- by the places the first job of each name is found among those from a place on
abbrev pub FindsFrom : ℕ → Places → List Job → Type 0
FindsFrom from places jobs = (name : List ℕ) → commands_of (jobs_plan (drop from jobs)) name ≡ commands_at jobs (get places name)
