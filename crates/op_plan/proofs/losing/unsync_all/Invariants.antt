use Rattle.std.proofs.Common.{◌≡◌, ◌+◌, ◌==◌, ◌++◌, not, length}
use Rattle.std.specs.Prelude.{filter}
use Rattle.op_plan.specs.Inside.Lists.{put}
use Rattle.op_kind.specs.Marking.{change_all, count_all, unsynced, count_bytes}
use Rattle.op_plan.proofs.losing.unsync_all.Given as goal

abbrev pub invariant-loop-entry : goal.invariant-loop-entry
invariant-loop-entry l = record {
  count : l.count + count_all (count_bytes l.number) l.rest ≡ count_all (count_bytes l.number) l.initial.rest;
  changes : l.changes ++ put (change_all (unsynced l.number) (filter (λ e. not (count_bytes l.number e.1 == 0)) l.rest))
      ≡ l.initial.changes ++ put (change_all (unsynced l.number) (filter (λ e. not (count_bytes l.number e.1 == 0)) l.initial.rest));
}

abbrev pub decreases-loop-entry : goal.decreases-loop-entry
decreases-loop-entry l = length l.rest
