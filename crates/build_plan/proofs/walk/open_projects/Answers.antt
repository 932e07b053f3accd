use Rattle.std.proofs.Common.{◌++◌, ◌∙◌, subst}
use Rattle.std.specs.List.{Contains}
use Rattle.std.specs.Map.Iter.{deref_pair}
use Rattle.build_order.proofs.Members.{none}
use Rattle.build_plan.specs.Ordered.{names_of}
use Rattle.build_plan.specs.Inside.Walks.{projects_after, HasCommands}
use Rattle.build_plan.proofs.Walked.{after_root, got_next, found_next, fewer_next, found_all}
use Rattle.build_plan.proofs.walk.open_projects.Goals as goal

pub loop-path-init : goal.loop-path-init
loop-path-init g c = record {
  found = (λ i. c.nothing-found.ensures i ++ projects_after (g.T.TreeRep.tree c.args.tree.now) (c.root-at.ensures i)) ∙ after_root (g.T.TreeRep.tree c.args.tree.now);
  commands = λ n i. absurd (none n (subst (λ ps. Contains (names_of ps) n) c.nothing-found.ensures i));
}

pub loop-path-smaller : goal.loop-path-smaller
loop-path-smaller g c = fewer_next (g.T.TreeRep.tree c.args.tree.now) c.loop-path.at c.in_ok-at.at (deref_pair (c.in-Some.path, c.in-Some.element)) c.in-Some.ensures c.in_ok-at.ensures

pub loop-path-preserved : goal.loop-path-preserved
loop-path-preserved g c = record {
  found = found_next (g.T.TreeRep.tree c.args.tree.now) c.loop-path.at c.in_ok-at.at (deref_pair (c.in-Some.path, c.in-Some.element)) c.in-Some.ensures
      c.loop-path.found.projects c.add_open.new.found.projects c.in_ok-at.ensures c.in_ok-add_open.ensures.projects c.loop-path.invariant.found;
  commands = c.in_ok-add_open.ensures.commands (g.T.TreeRep.tree c.args.tree.now)
      (got_next (g.T.TreeRep.tree c.args.tree.now) c.loop-path.at c.in_ok-at.at (deref_pair (c.in-Some.path, c.in-Some.element)) c.in-Some.ensures) c.loop-path.invariant.commands;
}

pub returns-clause-projects : goal.returns-clause-projects
returns-clause-projects g c = found_all (g.T.TreeRep.tree c.args.tree.now) c.loop-path.at c.loop-path.found.projects c.in_default.ensures c.loop-path.invariant.found

pub returns-clause-commands : goal.returns-clause-commands
returns-clause-commands g c = subst (λ ps. HasCommands (g.T.TreeRep.tree c.args.tree.now) ps c.loop-path.found.commands)
    (found_all (g.T.TreeRep.tree c.args.tree.now) c.loop-path.at c.loop-path.found.projects c.in_default.ensures c.loop-path.invariant.found)
    c.loop-path.invariant.commands
