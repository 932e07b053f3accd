use Rattle.std.proofs.Common.{◌&&◌, ◌∙◌}
use Rattle.op_rule.specs.Rules.{up}
use Rattle.op_rule.proofs.Above.{both_contained}
use Rattle.op_rule.proofs.containing.contains_both.Goals as goal

pub returns : goal.returns
returns c =
    c.both.ensures ∙ (λ i. c.contains_above.ensures i && c.contains_above-2.ensures i)
    ∙ both_contained c.args.rule.now (up c.args.from.now) (up c.args.to.now)
