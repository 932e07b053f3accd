use Rattle.std.proofs.Common.{sym, ◌∙◌}
use Rattle.builder_api.proofs.Places.{prefix_of_below}
use Rattle.std_kit.proofs.since.compare_node.Goals as goal

pub moved-requires : goal.moved-requires
moved-requires c = prefix_of_below c.args.root.now c.args.path.now (sym c.is_below.ensures ∙ c.if-not-is_below.false)

pub below-requires : goal.below-requires
below-requires c = prefix_of_below c.args.root.now c.args.path.now (sym c.is_below.ensures ∙ c.if-not-is_below.false)
