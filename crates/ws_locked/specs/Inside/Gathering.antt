-- How what a history tells is gathered.
use Rattle.std.specs.Prelude.{ℕ, zero, suc, List, [], ◌∷◌, ◌++◌, Option, Some, None}
use Rattle.delta_kind.specs.declared.node.DeltaNode.{DeltaNode}

-- a notice is added, or left out where some still are; how many are left out from then on
abbrev pub told_on : Option (List DeltaNode) → List (List DeltaNode) → ℕ → List (List DeltaNode) × ℕ
told_on None told skip = (told, skip)
told_on (Some nodes) told zero = (told ++ nodes ∷ [], 0)
told_on (Some nodes) told (suc skip) = (told, skip)
