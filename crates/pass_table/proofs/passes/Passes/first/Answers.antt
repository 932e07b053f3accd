use Rattle.std.proofs.Common.{◌∙◌, ap}
use Rattle.std.specs.FinMap.{insert}
use Rattle.pass_table.proofs.Kept.{first_kept}
use Rattle.pass_table.proofs.passes.Passes.first.Goals as goal

pub invariant_of-result : goal.invariant_of-result
invariant_of-result g c =
    first_kept c.empty-there.result c.put.new.self c.empty-there.ensures (c.in_ok-put.ensures.ok ∙ ap (insert c.empty-there.result 0) c.idle.ensures)
