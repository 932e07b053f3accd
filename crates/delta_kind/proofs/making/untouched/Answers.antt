use Rattle.std.proofs.Common.{sym, ◌∙◌}
use Rattle.delta_kind.proofs.Moved.{untouched_is}
use Rattle.delta_kind.proofs.making.untouched.Goals as goal

pub returns : goal.returns
returns c =
    (λ i. record { path = c.args.path; kind = 4; flags = 0; moved_from = c.none.ensures i; moved_to = c.none-2.ensures i; markers = (c.of.ensures ∙ c.new.ensures.items) i })
    ∙ sym (untouched_is c.args.path)
