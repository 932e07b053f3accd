use Rattle.std.proofs.Common.{map}
use Rattle.save_round.proofs.Asked.{AskedSoFar}
use Rattle.save_round.proofs.pass.ask_each.Given as goal

-- those before the place were asked
abbrev pub invariant-loop-at : goal.invariant-loop-at
invariant-loop-at g l = AskedSoFar l.kind l.at l.states.items (map g.P.Participant.tells l.fn.all.items) (map g.P.Participant.tells l.all.items)
