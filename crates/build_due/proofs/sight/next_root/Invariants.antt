use Rattle.std.proofs.Common.{take}
use Rattle.std.specs.Option.{option_copied}
use Rattle.build_due.specs.Inside.Walks.{roots, IsNextRoot}
use Rattle.build_due.proofs.sight.next_root.Given as goal

-- of the output and the inputs so far
abbrev pub invariant-loop-input : goal.invariant-loop-input
invariant-loop-input l = IsNextRoot (roots (take l.input-index l.inputs) l.output) l.path (option_copied l.next)
