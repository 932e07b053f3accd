use Rattle.build_order.specs.Inside.Groups.{AreMembers}
use Rattle.build_order.proofs.groups.members_of.Given as goal

abbrev pub invariant-loop-number : goal.invariant-loop-number
invariant-loop-number l = AreMembers l.leads l.number l.members
