use Rattle.std.proofs.Common.{◌∙◌, sym, subst, arith}
use Rattle.script_lang.specs.Names.{HaveOwnNames}
use Rattle.script_gen.proofs.Made.{behind_none, behind_next}
use Rattle.script_gen.proofs.Named.{edits_own}
use Rattle.script_gen.proofs.Parts.{all_jobs, job_more}
use Rattle.script_gen.proofs.script.edit_jobs.Goals as goal

pub loop-project-init : goal.loop-project-init
loop-project-init c = (c.in_ok-jobs.ensures.items, sym (behind_none c.args.draws.now))

pub loop-project-preserved : goal.loop-project-preserved
loop-project-preserved c =
    let s = c.args.draws.now in
    let n = c.loop-project.project in
    let is = c.loop-project.invariant in (
      job_more s n c.loop-project.draws _ c.loop-project.jobs.items _ c.in_ok-push.ensures.items c.in_ok-edit_job.ensures.job is.1 is.0,
      c.in_ok-edit_job.ensures.draws ∙ behind_next 100 s n c.loop-project.draws is.1,
    )

pub returns-clause-jobs : goal.returns-clause-jobs
returns-clause-jobs c =
    all_jobs c.args.draws.now c.loop-project.project c.loop-project.jobs.items (omega (arith, c.loop-project-test.false, c.loop-project.auto.project-end)) c.loop-project.invariant.0

pub returns-clause-names : goal.returns-clause-names
returns-clause-names c = subst HaveOwnNames (sym (returns-clause-jobs c)) (edits_own c.args.draws.now)
