use Rattle.std.proofs.Common.{length}
use Rattle.delta_kind.proofs.parts.+node_with.Given as goal

abbrev pub decreases-node_with : goal.decreases-node_with
decreases-node_with l = length l.nodes.now
