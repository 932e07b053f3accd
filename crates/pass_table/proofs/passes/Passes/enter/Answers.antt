use Rattle.std.proofs.Common.{◌∙◌, ◌+◌, ap, sym, arith}
use Rattle.std.specs.FinMap.{insert}
use Rattle.pass_table.specs.Passes.{Passes, is_quiet}
use Rattle.pass_table.proofs.Kept.{entered_kept, quiet}
use Rattle.pass_table.proofs.passes.Passes.enter.Goals as goal

pub invariant_of-self-2 : goal.invariant_of-self-2
invariant_of-self-2 g c =
    entered_kept c.self.inside.there c.put.new.self c.self.inside.next c.self.inside.in_batch c.self.invariant (omega (arith, c.if-number-gt-MAX_NUMBER.false))
    (c.in_ok-put.ensures.ok ∙ ap (insert c.self.inside.there c.self.inside.next) c.idle.ensures)

pub returns-clause-quiet : goal.returns-clause-quiet
returns-clause-quiet g c =
    sym (quiet c.put.new.self (c.self.inside.next + 1) c.self.inside.in_batch (invariant_of-self-2 g c))
    ∙ quiet c.self.inside.there c.self.inside.next c.self.inside.in_batch c.self.invariant ∙ ap (λ (v : Passes g.row.A.Denot). is_quiet v) c.self.view_is
