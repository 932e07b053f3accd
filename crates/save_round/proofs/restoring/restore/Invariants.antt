use Rattle.std.proofs.Common.{map}
use Rattle.save_round.proofs.Restored.{RestoredSoFar}
use Rattle.save_round.proofs.restoring.restore.Given as goal

-- those before the place got what is kept under their names
abbrev pub invariant-loop-at : goal.invariant-loop-at
invariant-loop-at g l = RestoredSoFar l.kept l.at (map g.P.Participant.tells l.fn.all.items) (map g.P.Participant.tells l.all.items)
