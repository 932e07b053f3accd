-- The names of the jobs in a phase.
use Rattle.std.specs.Prelude.{◌≢◌, List, [], ◌∷◌}
use Rattle.std.specs.List.{AllByRecursion}
use Rattle.script_lang.specs.declared.script.Job.{Job}

-- no two of the jobs have one name
abbrev pub HaveOwnNames : List Job → Type 0
HaveOwnNames [] = Unit {0}
HaveOwnNames (job ∷ jobs) = AllByRecursion (λ other. job.name ≢ other.name) jobs × HaveOwnNames jobs
