use Rattle.build_order.specs.Inside.Groups.{AreTargets}
use Rattle.build_order.proofs.groups.targets_of.Given as goal

abbrev pub invariant-loop-number : goal.invariant-loop-number
invariant-loop-number l = AreTargets l.graph l.leads l.number l.targets
