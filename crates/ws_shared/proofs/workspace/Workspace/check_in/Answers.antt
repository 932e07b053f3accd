use Rattle.std.proofs.Common.{refl}
use Rattle.pass_turns.specs.Turns.{base_of, knows}
use Rattle.pass_turns.proofs.Waited.{turn_wider}
use Rattle.ws_shared.specs.Calls.{legal_from, pass_of}
use Rattle.ws_locked.specs.Halls.{opened_by, state_in, told_by, trio_of}
use Rattle.ws_locked.specs.Moved.{WasBrought}
use Rattle.ws_shared.proofs.Coming.{comes_on}
use Rattle.ws_shared.proofs.workspace.Workspace.check_in.Goals as goal

pub turn-answer-requires-clause-may : goal.turn-answer-requires-clause-may
turn-answer-requires-clause-may g c = λ h begins own legal. (
  record { services = c.args.services; outcome = c.args.outcome },
  refl,
  λ serves.
      let d = g.D.Disk in
      let o = base_of (λ l. l.opening) c.args.self.now.room in
      comes_on d.moment d.left_since d.may_leave d.faults g.V.Vow.fits (opened_by g.B.Builder.tells g.P.Participant.tells o) o.keeper.value c.args.pass.now.token.number c.args.outcome
      (told_by g.B.Builder.tells g.P.Participant.tells (trio_of c.args.services)) c.args.pass.now.token.seat.me.0.seen c.args.pass.now.token.seat.me.0.mine h c.at.ensures.own.own begins own legal serves c.requires.fits,
)

pub returns-clause-brought : goal.returns-clause-brought
returns-clause-brought g c =
    turn_wider pass_of legal_from _ (λ o n. WasBrought (state_in o) n c.args.outcome c.args.services) _ c.turn-answer.result (knows c.args.pass.now) (knows c.turn-answer.new.pass)
    (λ n found added did. did (record { services = c.args.services; outcome = c.args.outcome }) refl) c.turn-answer.ensures.took
