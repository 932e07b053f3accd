use Rattle.std.proofs.Common.{◌≡◌, take}
use Rattle.rule_table.proofs.table.copies.Given as goal

abbrev pub invariant-loop-held : goal.invariant-loop-held
invariant-loop-held g l = l.copies.items ≡ take l.held-index l.all
