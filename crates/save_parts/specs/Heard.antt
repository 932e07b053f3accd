-- What listeners were told.
use Rattle.std.specs.Prelude.{◌≡◌, List, ◌++◌, map, Option}
use Rattle.std.specs.Option.{option_map}
use Rattle.delta_kind.specs.declared.node.DeltaNode.{DeltaNode}

-- what one was told, in order, where it tells that
abbrev pub Heard : Type 0
Heard = Option (List (List DeltaNode))

-- this as well, after what it had been told
abbrev pub heard_more : List (List DeltaNode) → Heard → Heard
heard_more told heard = option_map (λ before. before ++ told) heard

-- each was told this, in this order, after what it had been told
abbrev pub HeardMore : List (List DeltaNode) → List Heard → List Heard → Type 0
HeardMore told old new = new ≡ map (heard_more told) old
