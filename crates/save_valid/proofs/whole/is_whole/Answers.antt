use Rattle.save_valid.proofs.Wholes.{decided, no_whole}
use Rattle.save_valid.proofs.whole.is_whole.Goals as goal

pub returns-then-not-branch : goal.returns-then-not-branch
returns-then-not-branch c = no_whole c.args.tree.now.map c.in_ok-is_each.field-0 c.if-not-branch.true c.in_ok-is_each.ensures

pub returns : goal.returns
returns c =
    decided c.args.tree.now.map c.is_rooted.result c.in_ok-is_each.field-0 c.do_own_nodes_differ.result c.if-not-is_rooted.false c.is_rooted.ensures c.if-not-branch.false c.in_ok-is_each.ensures c.do_own_nodes_differ.ensures
