use Rattle.std.proofs.Common.{◌≡◌, take}
use Rattle.disk_area.proofs.bodies.Bodies.copy.Given as goal

abbrev pub invariant-loop-body : goal.invariant-loop-body
invariant-loop-body l = l.copy ≡ take l.body-index l.body-items
