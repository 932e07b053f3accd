use Rattle.std.proofs.Common.{◌≤◌, length, drop}
use Rattle.save_build.specs.Told.{Tells, AreFit}
use Rattle.save_build.proofs.trees.tree_of.Given as goal

-- the changes from the place on were made
abbrev pub invariant-loop-at : goal.invariant-loop-at
invariant-loop-at l = record { place : l.at ≤ length l.changes; told : Tells l.base.map (drop l.at l.changes) l.tree.map; fit : AreFit l.tree.map }

abbrev pub decreases-loop-at : goal.decreases-loop-at
decreases-loop-at l = l.at
