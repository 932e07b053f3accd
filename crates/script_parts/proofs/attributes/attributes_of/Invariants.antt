use Rattle.std.proofs.Common.{length}
use Rattle.std.specs.List.{flat_map}
use Rattle.script_parts.specs.Parts.{attribute_parts}
use Rattle.script_parts.specs.Inside.Found.{FitsFront}
use Rattle.script_parts.proofs.attributes.attributes_of.Given as goal

abbrev pub invariant-loop-rest : goal.invariant-loop-rest
invariant-loop-rest l = FitsFront l.tokens (flat_map attribute_parts l.attributes) l.rest

abbrev pub decreases-loop-rest : goal.decreases-loop-rest
decreases-loop-rest l = length l.rest
