use Rattle.std.proofs.Common.{map, refl, sym, ap, ◌∙◌, subst, OnOk, OnErr}
use Rattle.ws_core.specs.Histories.{entry_of}
use Rattle.ws_saved.proofs.Quiet.{grew_quietly}
use Rattle.ws_saved.proofs.Sounds.{sound_on}
use Rattle.ws_saved.proofs.workspace.SavedWorkspace.step.Goals as goal

pub invariant_of-self : goal.invariant_of-self
invariant_of-self g c =
    let d = g.D.Disk in
    let w = c.self.inside in
    let now = c.step.new.self in
    let first = map (λ p. g.P.Participant.tells p) w.began.value in
    let told = map (λ p. g.P.Participant.tells p) w.participants in
    let e = c.step.ensures in
    sound_on d.moment d.left_since d.may_leave d.faults w.core now w.keeper w.keeper first first told told
    (grew_quietly c.step.result w.core now (entry_of w.core.state c.args.pass c.args.event) e.opened c.requires.plain e.history e.err) refl refl refl c.self.invariant
