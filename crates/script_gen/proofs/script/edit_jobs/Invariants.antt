use Rattle.std.proofs.Common.{◌≡◌, ◌*◌, map}
use Rattle.std.specs.List.{range_with_len}
use Rattle.script_gen.specs.Draws.{behind}
use Rattle.script_gen.specs.Generated.{edit_job}
use Rattle.script_gen.proofs.script.edit_jobs.Given as goal

-- the jobs so far are there
abbrev pub invariant-loop-project : goal.invariant-loop-project
invariant-loop-project l =
    (l.jobs.items ≡ map (λ p. edit_job (behind l.fn.draws (100 * p)) p) (range_with_len 0 l.project)) × (l.draws ≡ behind l.fn.draws (100 * l.project))
