use Rattle.std.proofs.Common.{◌≡◌, drop, Some}
use Rattle.proj_desc.specs.Inside.Lesser.{least_by_one, least_with}
use Rattle.proj_desc.proofs.shape.least_by_one.Given as goal

-- what is left decides
abbrev pub invariant-loop-name : goal.invariant-loop-name
invariant-loop-name l = Some (least_with l.best (drop l.name-index l.rest)) ≡ least_by_one l.names
