use Rattle.std.proofs.Common.{rules}
use Rattle.service_desk.specs.Refusals.{command_causes, project_causes}
use Rattle.service_desk.proofs.Listed.{front}
use Rattle.service_desk.proofs.checks.site_for.Goals as goal

pub returns-in_err-check_project-clause-judged : goal.returns-in_err-check_project-clause-judged
returns-in_err-check_project-clause-judged g c =
    let tree = g.T.TreeRep.tree c.args.tree.now in
    let more = front (project_causes tree c.args.project.now) (command_causes tree c.args.desk.now.builders c.args.project.now c.args.index) in
    search (rules, more)
