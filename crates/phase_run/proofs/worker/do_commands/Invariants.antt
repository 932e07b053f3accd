use Rattle.std.proofs.Common.{◌≡◌, map, take}
use Rattle.run_order.specs.Lists.{InTurn}
use Rattle.build_host.specs.Hosts.{Serves}
use Rattle.phase_run.specs.Plans.{Made}
use Rattle.phase_run.specs.Inside.Doing.{Works}
use Rattle.phase_run.proofs.worker.do_commands.Given as goal

-- the commands so far are done
abbrev pub invariant-loop-command : goal.invariant-loop-command
invariant-loop-command g l = Works (InTurn (Made g.M.Meanings.meaning 1) (take l.command-index l.commands)) l.fn.space.core l.space.core
    × Serves g.M.Meanings.meaning l.fn.space.core l.space.core (map (λ b. g.B.Builder.tells b) l.fn.builders) (map (λ b. g.B.Builder.tells b) l.builders)
    × (l.space.keeper.began ≡ l.fn.space.keeper.began) × (l.space.began ≡ l.fn.space.began)
