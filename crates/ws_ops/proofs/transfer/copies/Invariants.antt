use Rattle.std.proofs.Common.{◌≡◌, ◌+◌, ◌<◌, ◌^◌, ◌++◌, length}
use Rattle.op_kind.specs.Effects.{copies}
use Rattle.op_kind.specs.Numbers.{stamps_of_all}
use Rattle.ws_ops.proofs.transfer.copies.Given as goal

abbrev pub invariant-loop-entry : goal.invariant-loop-entry
invariant-loop-entry l = record {
  node : l.node + length l.rest < 2 ^ 64;
  stamp : l.stamp + stamps_of_all l.rest < 2 ^ 64;
  copies : l.copies ++ copies l.node l.stamp l.rest ≡ copies l.initial.node l.initial.stamp l.initial.rest;
}

abbrev pub decreases-loop-entry : goal.decreases-loop-entry
decreases-loop-entry l = length l.rest
