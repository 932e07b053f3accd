use Rattle.std.proofs.Common.{ap, ◌∙◌}
use Rattle.std.specs.FinMap.{entries}
use Rattle.std.specs.List.{list_all}
use Rattle.std_kit.proofs.Runs.{is_under, from_all}
use Rattle.std_expand.proofs.Making.{more_root}
use Rattle.std_expand.proofs.expanding.expand_roots.Goals as goal

pub expand_root-requires : goal.expand_root-requires
expand_root-requires c = ap (list_all (is_under c.root-item.result)) c.files_of_root.ensures ∙ from_all (is_under c.root-item.result) (entries c.args.view.now)

pub loop-root-preserved : goal.loop-root-preserved
loop-root-preserved c =
    more_root c.args.roots.now c.args.view.now c.loop-root.root-index c.root-item.result c.files_of_root.result.now c.loop-root.made c.expand_root.new.made _ c.loop-root-test.true c.root-item.is c.files_of_root.ensures
    c.in_ok-expand_root.ensures c.loop-root.invariant
