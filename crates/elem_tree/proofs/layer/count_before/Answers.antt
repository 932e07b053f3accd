use Rattle.std.proofs.Common.{rules, of_calls, nat_lt}
use Rattle.std.proofs.lemmas.Fn.{always_returns_same}
use Rattle.elem_tree.proofs.Marks.{below_before, none_below_after, rising_parted}
use Rattle.elem_tree.proofs.layer.count_before.Goals as goal

pub returns-clause-before : goal.returns-clause-before
returns-clause-before c =
    below_before c.args.mark c.args.layers.now c.partition_point.result c.partition_point.ensures.bound
    (c.partition_point.ensures.partitioned (λ l. nat_lt l.mark c.args.mark) (always_returns_same _ _ _ (λ a r f k. search (rules, of_calls))) (rising_parted c.args.mark c.args.layers.now c.requires)).0

pub returns-clause-from : goal.returns-clause-from
returns-clause-from c =
    none_below_after c.args.mark c.args.layers.now c.partition_point.result
    (c.partition_point.ensures.partitioned (λ l. nat_lt l.mark c.args.mark) (always_returns_same _ _ _ (λ a r f k. search (rules, of_calls))) (rising_parted c.args.mark c.args.layers.now c.requires)).1
