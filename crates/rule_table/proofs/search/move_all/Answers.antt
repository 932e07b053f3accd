use Rattle.std.proofs.Common.{◌∙◌, sym, ap, set}
use Rattle.std.proofs.lemmas.List.Edits.{map_over_more}
use Rattle.rule_table.specs.Tables.{handed}
use Rattle.rule_table.proofs.search.move_all.Goals as goal

pub loop-i-preserved : goal.loop-i-preserved
loop-i-preserved g c =
    ap (set c.loop-i.all c.loop-i.i) (c.hand.ensures ∙ ap (handed c.args.from c.args.to) (sym c.index-all-i.is))
    ∙ map_over_more (handed c.args.from c.args.to) c.args.all.now c.loop-i.all c.loop-i.i c.index-all-i.result c.loop-i-test.true c.loop-i.invariant c.index-all-i.is
