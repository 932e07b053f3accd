use Rattle.std.proofs.Common.{◌≡◌, drop}
use Rattle.res_path.specs.Inside.Order.{text_cmp}
use Rattle.res_path.proofs.order.compare_by_one.Given as goal

-- what is left decides
abbrev pub invariant-loop-i : goal.invariant-loop-i
invariant-loop-i l = text_cmp l.a l.b ≡ text_cmp (drop l.i l.a) (drop l.i l.b)
