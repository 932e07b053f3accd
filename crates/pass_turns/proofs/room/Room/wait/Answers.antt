use Rattle.std.proofs.Common.{subst}
use Rattle.pass_turns.specs.Turns.{knows, TookTurn}
use Rattle.pass_turns.proofs.Waited.{waited}
use Rattle.pass_turns.proofs.room.Room.wait.Goals as goal

pub returns-in-Some-try_once-clause-took : goal.returns-in-Some-try_once-clause-took
returns-in-Some-try_once-clause-took g c =
    let by = g.S.Logged.by in
    let legal = g.S.Machine.legal in
    let b = g.S.Logged.base c.args.self.now.lock.table.shared.key.value in
    let took = waited by legal (g.A.Attempt.did c.loop.attempt) b _ c.in-Some-try_once.answer (knows c.args.pass.now) (knows c.loop.pass) (knows c.try_once.new.pass) c.loop.invariant.3 c.in-Some-try_once.ensures.took in
    subst (λ a. TookTurn by legal (g.A.Attempt.did a) b c.in-Some-try_once.answer (knows c.args.pass.now) (knows c.try_once.new.pass)) c.loop.invariant.4 took
