use Rattle.std.proofs.Common.{◌≡◌, take}
use Rattle.report_text.specs.Trees.{tree_lines}
use Rattle.report_text.proofs.branch_text.tree_lines.Given as goal

-- the lines of the elements so far
abbrev pub invariant-loop-path : goal.invariant-loop-path
invariant-loop-path l = l.out.items ≡ tree_lines l.base (take l.path-index l.elements)
