use Rattle.rule_table.specs.Tables.{is_outer}
use Rattle.rule_table.proofs.Newest.{NoneFrom}
use Rattle.rule_table.proofs.search.outer.Given as goal

abbrev pub invariant-loop-at : goal.invariant-loop-at
invariant-loop-at g l = NoneFrom (is_outer l.holder) l.all l.at

abbrev pub decreases-loop-at : goal.decreases-loop-at
decreases-loop-at g l = l.at
