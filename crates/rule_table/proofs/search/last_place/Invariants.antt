use Rattle.rule_table.specs.Tables.{is_of}
use Rattle.rule_table.proofs.Newest.{NoneFrom, StaysFrom}
use Rattle.rule_table.proofs.search.last_place.Given as goal

abbrev pub invariant-loop-at : goal.invariant-loop-at
invariant-loop-at g l = record {
  none : NoneFrom (is_of l.holder) l.all l.at;
  stays : StaysFrom l.holder l.all l.at;
}

abbrev pub decreases-loop-at : goal.decreases-loop-at
decreases-loop-at g l = l.at
