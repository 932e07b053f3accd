use Rattle.std.proofs.Common.{◌≡◌, ◌++◌, take}
use Rattle.std.specs.List.{flat_map, AllByRecursion}
use Rattle.script_lang.specs.Scripts.{job_lines, ended}
use Rattle.script_lang.specs.Inside.Printed.{AreLines}
use Rattle.script_lang.proofs.printing.put_phase.Given as goal

abbrev pub invariant-loop-job : goal.invariant-loop-job
invariant-loop-job l = record {
  text : l.out.items ≡ l.initial.out.items ++ flat_map (λ job. ended (job_lines job)) (take l.job-index l.job-items);
  parts : AllByRecursion (λ job. AreLines (job_lines job)) (take l.job-index l.job-items);
}
