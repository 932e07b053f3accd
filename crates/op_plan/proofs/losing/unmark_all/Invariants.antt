use Rattle.std.proofs.Common.{◌≡◌, ◌+◌, ◌==◌, ◌++◌, not, length}
use Rattle.std.specs.Prelude.{filter}
use Rattle.op_plan.specs.Inside.Lists.{put}
use Rattle.op_kind.specs.Marking.{change_all, count_all, unmarked, count_marks}
use Rattle.op_plan.proofs.losing.unmark_all.Given as goal

abbrev pub invariant-loop-entry : goal.invariant-loop-entry
invariant-loop-entry l = record {
  count : l.count + count_all (count_marks l.mark_type) l.rest ≡ count_all (count_marks l.mark_type) l.initial.rest;
  changes : l.changes ++ put (change_all (unmarked l.mark_type) (filter (λ e. not (count_marks l.mark_type e.1 == 0)) l.rest))
      ≡ l.initial.changes ++ put (change_all (unmarked l.mark_type) (filter (λ e. not (count_marks l.mark_type e.1 == 0)) l.initial.rest));
}

abbrev pub decreases-loop-entry : goal.decreases-loop-entry
decreases-loop-entry l = length l.rest
