use Rattle.build_run.proofs.Sweeping.{next_project, projects_more, projects_halt, on_err}
use Rattle.build_run.proofs.cleaning.clean_projects.Goals as goal

pub clean_commands-requires-clause-described : goal.clean_commands-requires-clause-described
clean_commands-requires-clause-described g c =
    let i = c.loop-project in
    next_project (g.H.Host.book c.args.host.now) _ c.args.projects.now i.project-index c.project-item.result _ c.requires.described i.invariant.0 c.loop-project-test.true c.project-item.is c.as_slice.ensures

pub returns-in_err-clean_commands-clause-halted : goal.returns-in_err-clean_commands-clause-halted
returns-in_err-clean_commands-clause-halted g c =
    let i = c.loop-project in
    on_err c.from_residual.result (projects_halt (g.H.Host.book c.args.host.now) _ _ c.args.projects.now i.project-index c.project-item.result _ i.invariant.0
    c.loop-project-test.true c.project-item.is c.as_slice.ensures c.in_err-clean_commands.ensures.halted)

pub returns-in_err-clean_commands-clause-stays : goal.returns-in_err-clean_commands-clause-stays
returns-in_err-clean_commands-clause-stays g c = g.H.Host.stays_on _ _ _ c.loop-project.invariant.1 c.clean_commands.ensures.stays

pub loop-project-preserved : goal.loop-project-preserved
loop-project-preserved g c =
    let i = c.loop-project in (
      projects_more (g.H.Host.book c.args.host.now) _ _ c.args.projects.now i.project-index c.project-item.result _ i.invariant.0 c.loop-project-test.true c.project-item.is c.as_slice.ensures
          c.in_ok-clean_commands.ensures.swept,
      g.H.Host.stays_on _ _ _ i.invariant.1 c.clean_commands.ensures.stays,
    )
