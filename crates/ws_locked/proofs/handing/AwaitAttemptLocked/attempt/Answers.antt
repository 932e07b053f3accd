use Rattle.std.proofs.Common.{◌≡◌, List, true, sym, ap, subst}
use Rattle.core_event.specs.declared.entry.Entry.{Entry}
use Rattle.pass_history.specs.There.{is_there}
use Rattle.ws_locked.specs.Fits.{Fits}
use Rattle.ws_locked.specs.Halls.{opened_by, told_by, trio_of}
use Rattle.ws_locked.specs.Moved.{WasLent}
use Rattle.ws_locked.specs.declared.services.Services.{Services}
use Rattle.ws_locked.proofs.Lent.{awaited, lent}
use Rattle.ws_locked.proofs.handing.AwaitAttemptLocked.attempt.Goals as goal

pub returns-in-Ok-clause-did : goal.returns-in-Ok-clause-did
returns-in-Ok-clause-did g c =
    let d = g.D.Disk in
    let e = c.check_out.ensures in
    let l = c.args.machine.now in
    let Fit : List Entry → Services g.row.D.Denot g.row.B.Denot g.row.P.Denot → Type 0 = λ h s. Fits d.moment d.left_since d.may_leave d.faults g.V.Vow.fits (opened_by g.B.Builder.tells g.P.Participant.tells l.opening) l.opening.keeper.value h (told_by g.B.Builder.tells g.P.Participant.tells (trio_of s)) in
    let a = lent Fit l.opening.core.value.opened c.args.pass c.in-Ok.purpose l.core.history c.check_out.new.self.core.history c.check_out.result e.taken e.told e.fits e.round e.err in
    let w = subst (λ q. WasLent Fit l.opening.core.value.opened c.args.pass q l.core.history a.0 c.check_out.result) c.in-Ok.ensures a.2 in
    (a.0, a.1.grew, a.1.one, awaited Fit l.opening.core.value.opened c.args.pass c.args.self.now.purpose l.core.history a.0 c.check_out.result w (c.must_wait.ensures c.if-must_wait.false))

pub returns-in-Ok-clause-still : goal.returns-in-Ok-clause-still
returns-in-Ok-clause-still g c =
    let d = g.D.Disk in
    let e = c.check_out.ensures in
    let l = c.args.machine.now in
    let Fit : List Entry → Services g.row.D.Denot g.row.B.Denot g.row.P.Denot → Type 0 = λ h s. Fits d.moment d.left_since d.may_leave d.faults g.V.Vow.fits (opened_by g.B.Builder.tells g.P.Participant.tells l.opening) l.opening.keeper.value h (told_by g.B.Builder.tells g.P.Participant.tells (trio_of s)) in
    let a = lent Fit l.opening.core.value.opened c.args.pass c.in-Ok.purpose l.core.history c.check_out.new.self.core.history c.check_out.result e.taken e.told e.fits e.round e.err in
    subst (λ o. is_there o c.check_out.new.self.core.history c.args.pass ≡ true) (sym (ap (λ o. o.core.value.opened) e.opening)) (a.1.still c.requires.there)
