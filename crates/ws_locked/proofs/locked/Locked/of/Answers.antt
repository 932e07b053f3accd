use Rattle.std.proofs.Common.{sym, ◌∙◌}
use Rattle.ws_locked.proofs.Began.{hall_first}
use Rattle.ws_locked.proofs.locked.Locked.of.Goals as goal

pub invariant_of-result : goal.invariant_of-result
invariant_of-result g c =
    rw c.in-Ok.ensures.ok (hall_first g.D.Disk.moment g.D.Disk.left_since g.D.Disk.may_leave g.D.Disk.faults g.B.Builder.tells g.P.Participant.tells g.V.Vow.fits
    c.args.core (record { keeper = c.args.services.keeper; builders = c.args.services.builders; participants = c.args.services.participants }) (record { core = c.of.result; keeper = c.of-2.result; builders = c.of-3.result; participants = c.of-4.result })
    c.of.ensures c.of-2.ensures c.of-3.ensures c.of-4.ensures c.requires.nothing_done (sym c.state.ensures.state ∙ c.state.ensures.replayed) c.requires.first c.requires.kept c.requires.vowed)
