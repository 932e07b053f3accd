use Rattle.std.proofs.Common.{rules, ◌∙◌}
use Rattle.std.proofs.lemmas.List.Sorted.{IsPartitionPoint-from_clause}
use Rattle.std_kit.proofs.Runs.{is_before, before_first, parts}
use Rattle.std_kit.proofs.roots.files_from.Goals as goal

pub returns : goal.returns
returns c =
    c.split_at.ensures.back ∙ (parts (is_before c.args.root.now) c.args.files.now _ c.partition_point-before.ensures.bound
    (IsPartitionPoint-from_clause (is_before c.args.root.now) _ _ c.partition_point-before.ensures.partitioned (before_first c.args.root.now c.args.files.now c.requires) (λ a r q k. search rules))).1
