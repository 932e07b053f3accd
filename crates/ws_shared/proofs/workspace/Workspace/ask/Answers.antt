use Rattle.std.proofs.Common.{refl}
use Rattle.pass_turns.specs.Turns.{knows}
use Rattle.pass_turns.proofs.Waited.{turn_wider}
use Rattle.ws_locked.specs.Asked.{WasAsked}
use Rattle.ws_shared.specs.Calls.{legal_from, pass_of}
use Rattle.ws_locked.specs.Halls.{state_in}
use Rattle.ws_shared.proofs.workspace.Workspace.ask.Goals as goal

pub returns-clause-asked : goal.returns-clause-asked
returns-clause-asked g c =
    turn_wider pass_of legal_from _ (λ p. WasAsked c.args.event (state_in p)) _ c.turn-answer.result (knows c.args.pass.now) (knows c.turn-answer.new.pass) (λ n found added did. did c.args.event refl) c.turn-answer.ensures.took
