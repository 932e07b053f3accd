use Rattle.std.specs.Cmp.{nat_cmp_total}
use Rattle.std.specs.FinMap.{nat_cmp-IsAntisymmetric}
use Rattle.save_valid.specs.Rules.{nodes_of}
use Rattle.save_valid.proofs.Labels.{first_fails, second_decides}
use Rattle.save_valid.proofs.numbers.do_nodes_differ.Goals as goal

pub returns-then-not-branch : goal.returns-then-not-branch
returns-then-not-branch c =
    first_fails nat_cmp_total nat_cmp-IsAntisymmetric (nodes_of c.args.one.now.map) (nodes_of c.args.other.now.map) c.none-seen.result c.in_ok-are_nodes_new.field-0 c.none-seen.ensures c.if-not-branch.true c.in_ok-are_nodes_new.ensures.is

pub returns : goal.returns
returns c =
    second_decides nat_cmp_total nat_cmp-IsAntisymmetric (nodes_of c.args.one.now.map) (nodes_of c.args.other.now.map) c.none-seen.result c.are_nodes_new.new.seen c.in_ok-are_nodes_new.field-0 c.are_nodes_new.result c.are_nodes_new-2.result
    c.none-seen.ensures c.in_ok-are_nodes_new.was c.if-not-branch.false c.in_ok-are_nodes_new.ensures.is c.are_nodes_new.ensures.all c.are_nodes_new-2.ensures.is
