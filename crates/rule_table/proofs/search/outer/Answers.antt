use Rattle.std.proofs.Common.{◌∙◌, sym}
use Rattle.rule_table.specs.Tables.{is_outer}
use Rattle.rule_table.proofs.Newest.{none_more, found_here}
use Rattle.rule_table.proofs.search.outer.Goals as goal

pub loop-at-preserved : goal.loop-at-preserved
loop-at-preserved g c = none_more (is_outer c.args.holder) c.args.all.now c.loop-at.at c.index-all-at.result c.loop-at-test.true c.index-all-at.is
    (sym c.is_outer.ensures ∙ c.if-is_outer.false) c.loop-at.invariant

pub returns-then-is_outer : goal.returns-then-is_outer
returns-then-is_outer g c = sym (found_here (is_outer c.args.holder) c.args.all.now c.loop-at.at c.index-all-at.result c.loop-at-test.true c.index-all-at.is
    (sym c.is_outer.ensures ∙ c.if-is_outer.true) c.loop-at.invariant)
