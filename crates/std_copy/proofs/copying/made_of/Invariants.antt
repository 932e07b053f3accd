use Rattle.std.proofs.Common.{◌≡◌, length}
use Rattle.std.specs.List.{fold}
use Rattle.std_copy.specs.Copied.{with_root, copied}
use Rattle.std_kit.specs.Roots.{rooted}
use Rattle.std_copy.proofs.copying.made_of.Given as goal

-- the roots that are left make of the files so far what all roots make
abbrev pub invariant-loop-root : goal.invariant-loop-root
invariant-loop-root l = fold with_root l.making (rooted l.left l.view) ≡ copied (rooted l.roots l.view)

-- the roots that are left
abbrev pub decreases-loop-root : goal.decreases-loop-root
decreases-loop-root l = length l.left
