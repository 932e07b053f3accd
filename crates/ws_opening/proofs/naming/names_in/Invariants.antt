use Rattle.std.proofs.Common.{◌≡◌, map, take}
use Rattle.ws_opening.proofs.naming.names_in.Given as goal

-- the names so far are those of the first builders
abbrev pub invariant-loop-builder : goal.invariant-loop-builder
invariant-loop-builder g l = l.names.items ≡ map (λ b. (g.B.Builder.tells b).named) (take l.builder-index l.builders)
