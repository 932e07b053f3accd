use Rattle.std.proofs.Common.{List, refl}
use Rattle.core_event.specs.declared.entry.Entry.{Entry}
use Rattle.pass_turns.specs.Turns.{knows}
use Rattle.pass_turns.proofs.Waited.{turn_wider}
use Rattle.ws_shared.specs.Calls.{legal_from, pass_of}
use Rattle.ws_locked.specs.Fits.{Fits}
use Rattle.ws_locked.specs.Halls.{opened_by, state_in, told_by, trio_of}
use Rattle.ws_locked.specs.Moved.{WasLent}
use Rattle.ws_locked.specs.declared.services.Opening.{Opening}
use Rattle.ws_locked.specs.declared.services.Services.{Services}
use Rattle.ws_shared.proofs.workspace.Workspace.try_checkout.Goals as goal

pub returns-clause-lent : goal.returns-clause-lent
returns-clause-lent g c =
    let d = g.D.Disk in
    let Fit : Opening g.row.D.Denot g.row.B.Denot g.row.P.Denot → List Entry → Services g.row.D.Denot g.row.B.Denot g.row.P.Denot → Type 0 = λ o h s. Fits d.moment d.left_since d.may_leave d.faults g.V.Vow.fits (opened_by g.B.Builder.tells g.P.Participant.tells o) o.keeper.value h (told_by g.B.Builder.tells g.P.Participant.tells (trio_of s)) in
    turn_wider pass_of legal_from _ (λ o n. WasLent (Fit o) (state_in o) n c.args.why) _ c.turn-answer.result (knows c.args.pass.now) (knows c.turn-answer.new.pass) (λ n found added did. did c.args.why refl) c.turn-answer.ensures.took
