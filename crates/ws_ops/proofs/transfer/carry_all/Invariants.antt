use Rattle.std.proofs.Common.{◌≡◌, ◌++◌, true, false, length}
use Rattle.std.specs.List.{list_all}
use Rattle.res_path.specs.Paths.{is_prefix}
use Rattle.op_kind.specs.Members.{carried}
use Rattle.op_kind.specs.Refusals.{goes_too_deep, gets_too_long}
use Rattle.ws_ops.proofs.transfer.carry_all.Given as goal

abbrev pub invariant-loop-entry : goal.invariant-loop-entry
invariant-loop-entry l = record {
  under : list_all (λ e. is_prefix l.from e.0) l.rest ≡ true;
  shallow : goes_too_deep l.from l.to l.rest ≡ false;
  long : gets_too_long l.from l.to l.rest ≡ gets_too_long l.from l.to l.initial.rest;
  carried : l.carried ++ carried l.from l.to l.rest ≡ carried l.from l.to l.initial.rest;
}

abbrev pub decreases-loop-entry : goal.decreases-loop-entry
decreases-loop-entry l = length l.rest
