use Rattle.std.proofs.Common.{◌≡◌, ◌++◌, map, take}
use Rattle.std_expand.specs.Expand.{problem_at}
use Rattle.std_expand.proofs.outputs.tell_lines.Given as goal

-- the problems of the lines so far
abbrev pub invariant-loop-line : goal.invariant-loop-line
invariant-loop-line l = l.problems.items ≡ l.initial.problems.items ++ map (problem_at l.location) (take l.line-index l.lines)
