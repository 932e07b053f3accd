use Rattle.std.proofs.Common.{[], ◌∷◌, map}
use Rattle.save_round.specs.Firsts.{FirstsHad, by_place}
use Rattle.save_round.specs.Passes.{ending_call}
use Rattle.save_round.proofs.pass.end_before.Given as goal

-- the rounds of those before the place have ended
abbrev pub invariant-loop-at : goal.invariant-loop-at
invariant-loop-at g l = FirstsHad (by_place l.at (ending_call l.ending ∷ []) [] []) (map g.P.Participant.tells l.fn.all.items) (map g.P.Participant.tells l.all.items)
