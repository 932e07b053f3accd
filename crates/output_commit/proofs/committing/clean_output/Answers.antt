use Rattle.std.proofs.Common.{[], ap, ◌∙◌}
use Rattle.std.proofs.lemmas.Result.{on_ok_weaker}
use Rattle.std.specs.FinMap.{empty, get}
use Rattle.op_kind.specs.Places.{project_of}
use Rattle.op_kind.specs.Resources.{Resources, resources}
use Rattle.output_commit.proofs.Cleaned.{cleaned_gone, cleaned_project, cleaned_others}
use Rattle.output_commit.proofs.Planned.{changed_is}
use Rattle.output_commit.proofs.committing.clean_output.Goals as goal

pub returns-clause-resources : goal.returns-clause-resources
returns-clause-resources g c = on_ok_weaker c.perform.result
    (λ h. h ∙ changed_is (resources (g.T.TreeRep.tree c.args.tree.now) c.args.side.now) c.args.output.now empty c.args.index [] c.in_ok-change.change c.in_ok-change.ensures)
    c.perform.ensures.resources

pub returns-clause-gone : goal.returns-clause-gone
returns-clause-gone g c =
    let r : Resources = resources (g.T.TreeRep.tree c.args.tree.now) c.args.side.now in
    on_ok_weaker c.perform.result
    (λ h q under. ap (λ (x : Resources). get x.tree q) (h ∙ changed_is r c.args.output.now empty c.args.index [] c.in_ok-change.change c.in_ok-change.ensures) ∙ cleaned_gone r c.args.output.now c.args.index q under)
    c.perform.ensures.resources

pub returns-clause-project : goal.returns-clause-project
returns-clause-project g c =
    let r : Resources = resources (g.T.TreeRep.tree c.args.tree.now) c.args.side.now in
    on_ok_weaker c.perform.result
    (λ h. ap (λ (x : Resources). get x.tree (project_of c.args.output.now)) (h ∙ changed_is r c.args.output.now empty c.args.index [] c.in_ok-change.change c.in_ok-change.ensures)
    ∙ cleaned_project r c.args.output.now c.args.index)
    c.perform.ensures.resources

pub returns-clause-others : goal.returns-clause-others
returns-clause-others g c =
    let r : Resources = resources (g.T.TreeRep.tree c.args.tree.now) c.args.side.now in
    on_ok_weaker c.perform.result
    (λ h q away other. ap (λ (x : Resources). get x.tree q) (h ∙ changed_is r c.args.output.now empty c.args.index [] c.in_ok-change.change c.in_ok-change.ensures)
    ∙ cleaned_others r c.args.output.now c.args.index q away other)
    c.perform.ensures.resources
