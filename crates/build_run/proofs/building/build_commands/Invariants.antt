use Rattle.std.proofs.Common.{◌≡◌, take}
use Rattle.build_laws.specs.Builds.{items_from}
use Rattle.build_run.specs.Ends.{RoundCame}
use Rattle.build_run.proofs.building.build_commands.Given as goal

-- the commands so far came through
abbrev pub invariant-loop-command : goal.invariant-loop-command
invariant-loop-command g l =
    RoundCame g.H.Told.Meanings.meaning (g.H.Host.book l.initial.host) l.kind (take l.command-index (items_from l.project 0 l.commands)) l.touched (g.H.Host.book l.host)
    × (l.index ≡ l.command-index)
    × g.H.Host.stays l.initial.host l.host
