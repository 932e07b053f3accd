use Rattle.std.proofs.Common.{◌≡◌, ◌++◌, take}
use Rattle.std.specs.List.{flat_map}
use Rattle.std.specs.FinMap.{get}
use Rattle.report_text.specs.Trees.{found_line}
use Rattle.report_text.proofs.branch_text.put_paths.Given as goal

-- the lines of the paths so far
abbrev pub invariant-loop-path : goal.invariant-loop-path
invariant-loop-path l = l.out.items ≡ l.fn.out.items ++ flat_map (λ p. found_line l.base p (get l.tree.map p)) (take l.path-index l.paths)
