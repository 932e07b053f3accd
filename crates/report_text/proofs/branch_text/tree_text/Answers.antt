use Rattle.std.proofs.Common.{◌++◌, ◌∙◌}
use Rattle.std.specs.FinMap.{get}
use Rattle.std.specs.List.{flat_map}
use Rattle.report_text.specs.Trees.{found_line}
use Rattle.report_text.proofs.Branches.{branch_lines}
use Rattle.report_text.proofs.branch_text.tree_text.Goals as goal

pub returns : goal.returns
returns c =
    c.in_ok-put_paths.ensures
    ∙ (λ i. c.new-out.ensures.items i ++ flat_map (λ p. found_line c.args.at.now p (get c.args.tree.now.map p)) ((c.as_slice.ensures.value ∙ c.in_ok-paths.ensures) i))
    ∙ branch_lines c.args.tree.now.map c.args.at.now
