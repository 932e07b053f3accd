use Rattle.std.proofs.Common.{rules, ◌∙◌}
use Rattle.std.proofs.lemmas.List.Sorted.{IsPartitionPoint-from_clause}
use Rattle.std_kit.proofs.Runs.{is_under, under_first, parts}
use Rattle.std_kit.proofs.roots.files_under.Goals as goal

pub returns : goal.returns
returns c =
    c.split_at.ensures.front ∙ (parts (is_under c.args.root.now) c.args.files.now _ c.partition_point-under.ensures.bound
    (IsPartitionPoint-from_clause (is_under c.args.root.now) _ _ c.partition_point-under.ensures.partitioned (under_first c.args.root.now c.args.files.now c.requires.sorted c.requires.from) (λ a r q k. search rules))).0
