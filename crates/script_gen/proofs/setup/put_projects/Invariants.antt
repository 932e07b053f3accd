use Rattle.std.proofs.Common.{◌≡◌, ◌*◌, ◌++◌}
use Rattle.std.specs.List.{flat_map, range_with_len}
use Rattle.script_gen.specs.Draws.{behind}
use Rattle.script_gen.specs.Generated.{project_commands}
use Rattle.script_gen.proofs.setup.put_projects.Given as goal

-- the projects so far are made
abbrev pub invariant-loop-project : goal.invariant-loop-project
invariant-loop-project l =
    (l.commands ≡ l.fn.commands ++ flat_map (λ p. project_commands (behind l.fn.draws (100 * p)) p) (range_with_len 0 l.project)) × (l.draws ≡ behind l.fn.draws (100 * l.project))
