use Rattle.std.proofs.Common.{◌≡◌, map, take}
use Rattle.pass_jobs.proofs.scheduling.names_of.Given as goal

abbrev pub invariant-loop-job : goal.invariant-loop-job
invariant-loop-job l = l.names.items ≡ map (λ job. job.name) (take l.job-index l.jobs)
