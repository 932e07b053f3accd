use Rattle.std.proofs.Common.{◌≡◌, take}
use Rattle.sched_rules.proofs.rule.copies.Given as goal

abbrev pub invariant-loop-atom : goal.invariant-loop-atom
invariant-loop-atom g l = l.copies.items ≡ take l.atom-index l.atoms
