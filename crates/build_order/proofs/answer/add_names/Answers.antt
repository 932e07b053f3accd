use Rattle.std.proofs.Common.{◌∷◌, [], ◌++◌, ap, ◌∙◌}
use Rattle.build_order.proofs.Ordered.{names_more}
use Rattle.build_order.proofs.answer.add_names.Goals as goal

pub loop-number-preserved : goal.loop-number-preserved
loop-number-preserved c =
    let i = c.loop-number.number-index in
    names_more c.args.names.now c.args.group.now i c.index-names-number.result c.args.found.now.items c.loop-number.found.items c.push.new.self.items c.loop-number-test.true (c.requires i 0 c.loop-number-test.true)
    c.index-names-number.is c.loop-number.invariant (c.in_ok-push.ensures.items ∙ ap (λ x. c.loop-number.found.items ++ x ∷ []) c.in_ok-copy.ensures)
