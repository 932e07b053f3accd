use Rattle.builder_api.proofs.Places.{below_then, below_else}
use Rattle.builder_api.proofs.place.is_below.Goals as goal

pub returns-then-is_prefix_of : goal.returns-then-is_prefix_of
returns-then-is_prefix_of c = below_then c.args.output.now c.args.path.now c.is_prefix_of.result c.ne.result c.is_prefix_of.ensures c.if-is_prefix_of.true c.ne.ensures

pub returns-else-is_prefix_of : goal.returns-else-is_prefix_of
returns-else-is_prefix_of c = below_else c.args.output.now c.args.path.now c.is_prefix_of.result c.is_prefix_of.ensures c.if-is_prefix_of.false
