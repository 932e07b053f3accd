use Rattle.std.proofs.Common.{refl}
use Rattle.pass_turns.specs.Turns.{knows}
use Rattle.pass_turns.proofs.Waited.{turn_wider}
use Rattle.ws_locked.specs.Asked.{WasCommitted}
use Rattle.ws_locked.specs.Halls.{state_in}
use Rattle.ws_shared.specs.Calls.{legal_from, pass_of}
use Rattle.ws_shared.proofs.workspace.Workspace.build_commit.Goals as goal

pub returns-clause-committed : goal.returns-clause-committed
returns-clause-committed g c =
    turn_wider pass_of legal_from _ (λ o. WasCommitted c.args.edits (state_in o)) _ c.turn-answer.result (knows c.args.pass.now) (knows c.turn-answer.new.pass) (λ n found added did. did c.args.edits refl) c.turn-answer.ensures.took
