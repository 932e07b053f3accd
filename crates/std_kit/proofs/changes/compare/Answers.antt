use Rattle.std.proofs.Common.{sym, ◌∙◌}
use Rattle.builder_api.proofs.Places.{prefix_of_below}
use Rattle.std_kit.proofs.changes.compare.Goals as goal

pub below-requires : goal.below-requires
below-requires c = prefix_of_below c.args.output.now c.args.file.now.0 (sym c.is_below.ensures ∙ c.if-not-is_below.false)
