use Rattle.std.proofs.Common.{◌≡◌, length, ap, arith}
use Rattle.save_text.proofs.source.count_between.Goals as goal

pub returns : goal.returns
returns c = let none : length c.loop-row._row-iterator ≡ 0 = ap length c.in-None.ensures.steps.0 in omega (arith, none, c.loop-row.invariant)
