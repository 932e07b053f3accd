use Rattle.std.proofs.Common.{arith}
use Rattle.save_check.proofs.Tellings.{sayable_where}
use Rattle.save_check.proofs.trees.is_tree_sayable.Goals as goal

pub returns : goal.returns
returns c = sayable_where c.args.tree.now.map c.is_each.result c.requires (grind arith) c.is_each.ensures
