use Rattle.std.proofs.Common.{◌≡◌, map, take}
use Rattle.std.specs.List.{flat_map}
use Rattle.save_round.specs.Restoring.{kept_for_each}
use Rattle.ws_opening.specs.Restored.{restored_one}
use Rattle.ws_opening.proofs.restoring.restored_of.Given as goal

-- what the first participants get is told
abbrev pub invariant-loop-at : goal.invariant-loop-at
invariant-loop-at g l = l.told.items ≡ flat_map restored_one (take l.at (kept_for_each l.kept (map (λ p. g.P.Participant.tells p) l.parts)))
