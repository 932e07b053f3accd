use Rattle.std.proofs.lemmas.Result.{err_from_is_err_and}
use Rattle.build_run.proofs.Loops.{next_project, projects_more, projects_halt}
use Rattle.build_run.proofs.building.build_round.Goals as goal

pub build_commands-requires-clause-described : goal.build_commands-requires-clause-described
build_commands-requires-clause-described g c =
    let i = c.loop-project in
    next_project g.H.Told.Meanings.meaning (g.H.Host.book c.args.host.now) _ c.args.kind c.args.projects.now i.project-index i.touched c.project-item.result _ c.requires.described i.invariant.0
    c.loop-project-test.true c.project-item.is c.as_slice.ensures

pub returns-in_err-touched-clause-halted : goal.returns-in_err-touched-clause-halted
returns-in_err-touched-clause-halted g c =
    let p = err_from_is_err_and c.from_residual.result c.from_residual.ensures.1 in
    let i = c.loop-project in
    rw (p.1, p.2) (projects_halt g.H.Told.Meanings.meaning (g.H.Host.book c.args.host.now) _ _ c.args.kind c.args.projects.now i.project-index i.touched c.project-item.result _ _ i.invariant.0
    c.loop-project-test.true c.project-item.is c.as_slice.ensures c.in_err-touched.ensures.halted)

pub returns-in_err-touched-clause-stays : goal.returns-in_err-touched-clause-stays
returns-in_err-touched-clause-stays g c = g.H.Host.stays_on _ _ _ c.loop-project.invariant.1 c.build_commands.ensures.stays

pub loop-project-preserved : goal.loop-project-preserved
loop-project-preserved g c =
    let i = c.loop-project in (
      projects_more g.H.Told.Meanings.meaning (g.H.Host.book c.args.host.now) _ _ c.args.kind c.args.projects.now i.project-index i.touched c.in_ok-touched.field-0 c.project-item.result _ i.invariant.0
          c.loop-project-test.true c.project-item.is c.as_slice.ensures c.in_ok-touched.ensures.came,
      g.H.Host.stays_on _ _ _ i.invariant.1 c.build_commands.ensures.stays,
    )
