use Rattle.std.specs.Cmp.{nat_cmp_total}
use Rattle.std.specs.FinMap.{nat_cmp-IsAntisymmetric}
use Rattle.save_valid.specs.Rules.{nodes_of}
use Rattle.save_valid.proofs.Labels.{one_decides}
use Rattle.save_valid.proofs.numbers.do_own_nodes_differ.Goals as goal

pub returns : goal.returns
returns c = one_decides nat_cmp_total nat_cmp-IsAntisymmetric (nodes_of c.args.tree.now.map) c.none-seen.result c.are_nodes_new.result c.none-seen.ensures c.are_nodes_new.ensures.is
