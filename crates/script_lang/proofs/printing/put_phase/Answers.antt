use Rattle.std.proofs.Common.{take, subst}
use Rattle.std.specs.List.{AllByRecursion}
use Rattle.script_lang.specs.declared.script.Job.{Job}
use Rattle.script_lang.specs.Scripts.{job_lines, ended}
use Rattle.script_lang.specs.Inside.Printed.{AreLines}
use Rattle.script_parts.proofs.Spaced.{whole_taken, text_more, all_more}
use Rattle.script_lang.proofs.Texts.{phase_built, phase_parts}
use Rattle.script_lang.proofs.printing.put_phase.Goals as goal

pub loop-job-preserved : goal.loop-job-preserved
loop-job-preserved c = record {
  text = text_more (λ (job : Job). ended (job_lines job)) c.put_bytes.new.out.items c.loop-job.out.items c.put_job.new.out.items c.as_slice-job-items.result.now
      c.loop-job.job-index c.job-item.result c.loop-job-test.true c.job-item.is c.loop-job.invariant.text c.in_ok-put_job.ensures.text;
  parts = all_more (λ (job : Job). AreLines (job_lines job)) c.as_slice-job-items.result.now c.loop-job.job-index c.job-item.result
      c.loop-job-test.true c.job-item.is c.loop-job.invariant.parts c.in_ok-put_job.ensures.parts;
}

pub returns-clause-text : goal.returns-clause-text
returns-clause-text c =
    phase_built c.args.out.now.items c.put_bytes.new.out.items c.loop-job.out.items c.put_bytes-2.new.out.items c.args.phase.now
    (take c.loop-job.job-index c.as_slice-job-items.result.now) c.in_ok-put_bytes.ensures.text c.loop-job.invariant.text
    (whole_taken c.loop-job.job-index c.as_slice-job-items.result.now c.args.phase.now.jobs c.loop-job-test.false
    c.as_slice-job-items.ensures.jobs) c.in_ok-put_bytes-2.ensures.text

pub returns-clause-parts : goal.returns-clause-parts
returns-clause-parts c =
    phase_parts c.args.phase.now
    (subst (AllByRecursion (λ (job : Job). AreLines (job_lines job)))
    (whole_taken c.loop-job.job-index c.as_slice-job-items.result.now c.args.phase.now.jobs c.loop-job-test.false
    c.as_slice-job-items.ensures.jobs) c.loop-job.invariant.parts)
