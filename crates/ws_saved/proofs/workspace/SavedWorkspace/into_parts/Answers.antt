use Rattle.std.proofs.Common.{map, subst}
use Rattle.ws_saved.specs.Sound.{IsSound, Space}
use Rattle.ws_saved.proofs.workspace.SavedWorkspace.into_parts.Goals as goal

pub returns-clause-sound : goal.returns-clause-sound
returns-clause-sound g c =
    let d = g.D.Disk in
    subst (λ (s : Space g.row.D.Denot g.row.P.Denot). IsSound d.moment d.left_since d.may_leave d.faults s.core s.keeper (map (λ p. g.P.Participant.tells p) s.began) (map (λ p. g.P.Participant.tells p) s.participants))
    c.self.view_is c.self.invariant
