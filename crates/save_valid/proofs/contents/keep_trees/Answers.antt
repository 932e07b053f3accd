use Rattle.save_valid.proofs.Stamped.{fails, goes}
use Rattle.save_valid.proofs.contents.keep_trees.Goals as goal

pub returns-then-not-branch : goal.returns-then-not-branch
returns-then-not-branch c =
    fails c.args.trees.now c.loop-tree.tree-index c.tree-item.result c.loop-tree.contents c.args.contents.now c.in_ok-keep_tree.field-0 c.loop-tree-test.true c.tree-item.is c.if-not-branch.true
    c.in_ok-keep_tree.ensures.is c.loop-tree.invariant

pub loop-tree-preserved : goal.loop-tree-preserved
loop-tree-preserved c =
    goes c.args.trees.now c.loop-tree.tree-index c.tree-item.result c.loop-tree.contents c.keep_tree.new.contents c.args.contents.now c.in_ok-keep_tree.field-0 c.keep_tree.result c.loop-tree-test.true c.tree-item.is
    c.in_ok-keep_tree.was c.if-not-branch.false c.in_ok-keep_tree.ensures.is c.keep_tree.ensures.kept c.loop-tree.invariant
