use Rattle.std.proofs.Common.{◌≡◌, ◌∙◌}
use Rattle.op_kind.specs.Resources.{Resources, resources}
use Rattle.output_edits.specs.Wanted.{wanted}
use Rattle.output_commit.specs.Committed.{files_after, committed}
use Rattle.output_commit.proofs.Planned.{changed_is}
use Rattle.output_commit.proofs.Left.{files_kept}
use Rattle.output_commit.proofs.Apart.{stays_now}
use Rattle.output_commit.proofs.Filled.{filled_now}
use Rattle.output_commit.proofs.committing.commit_edits.Goals as goal

pub returns-clause-resources : goal.returns-clause-resources
returns-clause-resources g c =
    let r : Resources = resources (g.T.TreeRep.tree c.args.tree.now) c.args.side.now in
    let o = c.args.output.now in
    let e = c.args.edits.now in
    c.in_ok-back.ensures.resources ∙ changed_is r o (wanted o (files_after r o e)) c.args.index e.problems c.in_ok-change.change c.in_ok-change.ensures.1

pub returns-clause-files : goal.returns-clause-files
returns-clause-files g c long m =
    let r : Resources = resources (g.T.TreeRep.tree c.args.tree.now) c.args.side.now in
    let o = c.args.output.now in
    let e = c.args.edits.now in
    let now : Resources = resources (g.T.TreeRep.tree c.perform.new.tree) c.perform.new.side in
    let is : now ≡ committed r o c.args.index e = c.in_ok-back.ensures.resources ∙ changed_is r o (wanted o (files_after r o e)) c.args.index e.problems c.in_ok-change.change c.in_ok-change.ensures.1 in
    files_kept r now o c.args.index e is c.in_ok-change.ensures.0 long m

pub returns-clause-others : goal.returns-clause-others
returns-clause-others g c =
    let r : Resources = resources (g.T.TreeRep.tree c.args.tree.now) c.args.side.now in
    let o = c.args.output.now in
    let e = c.args.edits.now in
    let now : Resources = resources (g.T.TreeRep.tree c.perform.new.tree) c.perform.new.side in
    let is : now ≡ committed r o c.args.index e = c.in_ok-back.ensures.resources ∙ changed_is r o (wanted o (files_after r o e)) c.args.index e.problems c.in_ok-change.change c.in_ok-change.ensures.1 in
    stays_now r now o (files_after r o e) c.args.index e.problems is

pub returns-clause-folders : goal.returns-clause-folders
returns-clause-folders g c long =
    let r : Resources = resources (g.T.TreeRep.tree c.args.tree.now) c.args.side.now in
    let o = c.args.output.now in
    let e = c.args.edits.now in
    let now : Resources = resources (g.T.TreeRep.tree c.perform.new.tree) c.perform.new.side in
    let is : now ≡ committed r o c.args.index e = c.in_ok-back.ensures.resources ∙ changed_is r o (wanted o (files_after r o e)) c.args.index e.problems c.in_ok-change.change c.in_ok-change.ensures.1 in
    filled_now r now o c.args.index e is c.in_ok-change.ensures.0 long
