use Rattle.layer_log.specs.Records.{Meets}
use Rattle.tests_layers.proofs.Meeting.{AllFollow}
use Rattle.tests_layers.proofs.changes.do_meet.Given as goal

-- where what is left follows, they meet
abbrev pub invariant-loop-path : goal.invariant-loop-path
invariant-loop-path l = AllFollow l.first l.path-iterator → Meets l.first l.next
