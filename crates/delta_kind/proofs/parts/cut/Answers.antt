use Rattle.delta_kind.proofs.Found.{cut_more}
use Rattle.delta_kind.proofs.parts.cut.Goals as goal

pub loop-node-preserved : goal.loop-node-preserved
loop-node-preserved c =
    cut_more c.args.prefixes.now c.args.nodes.now c.loop-node.kept.items c.keep.new.kept.items c.loop-node.node-index c.node-item.result
    c.loop-node-test.true c.node-item.is c.loop-node.invariant c.in_ok-keep.ensures
