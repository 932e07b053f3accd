use Rattle.std.proofs.Common.{◌≡◌, ◌++◌, length}
use Rattle.build_plan.specs.Plans.{projects_of}
use Rattle.build_plan.specs.Inside.Walks.{entries_after, projects_after, HasCommands}
use Rattle.build_plan.proofs.walk.open_projects.Given as goal

abbrev pub invariant-loop-path : goal.invariant-loop-path
invariant-loop-path g l = record {
  found : l.found.projects ++ projects_after (g.T.TreeRep.tree l.tree) l.at ≡ projects_of (g.T.TreeRep.tree l.tree);
  commands : HasCommands (g.T.TreeRep.tree l.tree) l.found.projects l.found.commands;
}

abbrev pub decreases-loop-path : goal.decreases-loop-path
decreases-loop-path g l = length (entries_after (g.T.TreeRep.tree l.tree) l.at)
