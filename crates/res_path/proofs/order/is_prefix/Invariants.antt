use Rattle.std.proofs.Common.{◌≡◌, ◌≤◌, drop, length}
use Rattle.res_path.specs.Inside.Order.{text_prefix}
use Rattle.res_path.proofs.order.is_prefix.Given as goal

-- what is left decides
abbrev pub invariant-loop-i : goal.invariant-loop-i
invariant-loop-i l = record {
  left : text_prefix l.p l.q ≡ text_prefix (drop l.i l.p) (drop l.i l.q);
  room : l.i ≤ length l.q;
}
