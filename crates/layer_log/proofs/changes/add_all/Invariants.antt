use Rattle.std.proofs.Common.{◌+◌, ◌≤◌, length}
use Rattle.std.specs.FinMap as map
use Rattle.layer_log.proofs.Taking.{Taking}
use Rattle.layer_log.proofs.changes.add_all.Given as goal

abbrev pub invariant-loop-path : goal.invariant-loop-path
invariant-loop-path l = record {
  taken : Taking l.fn.log l.next l.path-iterator l.log;
  most : map.len l.log + length l.path-iterator ≤ map.len l.fn.log + map.len l.next;
}
