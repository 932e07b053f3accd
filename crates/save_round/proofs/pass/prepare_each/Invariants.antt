use Rattle.std.proofs.Common.{[], ◌∷◌, map, Ok}
use Rattle.save_round.specs.Told.{Prepared}
use Rattle.save_round.specs.Firsts.{FirstsHad, by_place}
use Rattle.save_round.proofs.pass.prepare_each.Given as goal

-- those before the place are prepared
abbrev pub invariant-loop-at : goal.invariant-loop-at
invariant-loop-at g l = FirstsHad (by_place l.at (Prepared l.kind (Ok tt) ∷ []) [] []) (map g.P.Participant.tells l.fn.all.items) (map g.P.Participant.tells l.all.items)
