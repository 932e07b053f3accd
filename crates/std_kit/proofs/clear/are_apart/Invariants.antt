use Rattle.std.proofs.Common.{◌≡◌, length}
use Rattle.std_kit.specs.Inside.Walks.{are_apart}
use Rattle.std_kit.proofs.clear.are_apart.Given as goal

-- the files that are ahead tell
abbrev pub invariant-loop-file : goal.invariant-loop-file
invariant-loop-file l = are_apart l.left ≡ are_apart l.files

abbrev pub decreases-loop-file : goal.decreases-loop-file
decreases-loop-file l = length l.left
