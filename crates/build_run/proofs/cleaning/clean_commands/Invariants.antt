use Rattle.std.proofs.Common.{◌≡◌, take}
use Rattle.build_laws.specs.Builds.{items_from}
use Rattle.build_run.specs.Sweeps.{WereSwept}
use Rattle.build_run.proofs.cleaning.clean_commands.Given as goal

-- the commands so far were cleaned
abbrev pub invariant-loop-command : goal.invariant-loop-command
invariant-loop-command g l = WereSwept (g.H.Host.book l.initial.host) (take l.command-index (items_from l.project 0 l.commands)) (g.H.Host.book l.host) × (l.index ≡ l.command-index)
    × g.H.Host.stays l.initial.host l.host
