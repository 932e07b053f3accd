use Rattle.std.proofs.Common.{◌≡◌, ◌++◌, map, take}
use Rattle.build_order.specs.Inside.Rows.{name_at}
use Rattle.build_order.proofs.answer.add_names.Given as goal

abbrev pub invariant-loop-number : goal.invariant-loop-number
invariant-loop-number l = l.found.items ≡ l.fn.found.items ++ map (name_at l.names) (take l.number-index l.group)
