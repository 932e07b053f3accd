use Rattle.std.proofs.Common.{take, subst}
use Rattle.std.specs.List.{AllByRecursion}
use Rattle.script_lang.specs.declared.line.Line.TheVariants.{InJob}
use Rattle.script_lang.specs.Inside.Printed.{IsLine}
use Rattle.script_parts.proofs.Spaced.{whole_taken}
use Rattle.script_lang.proofs.Texts.{job_built, job_parts}
use Rattle.script_lang.proofs.printing.put_job.Goals as goal

pub returns-clause-text : goal.returns-clause-text
returns-clause-text c =
    job_built c.args.out.now.items c.put_head.new.out.items c.loop-command.out.items c.put_bytes.new.out.items c.args.job.now
    (take c.loop-command.command-index c.as_slice-command-items.result.now) c.in_ok-put_head.ensures.text c.loop-command.invariant.text
    (whole_taken c.loop-command.command-index c.as_slice-command-items.result.now c.args.job.now.commands c.loop-command-test.false
    c.as_slice-command-items.ensures) c.in_ok-put_bytes.ensures.text

pub returns-clause-parts : goal.returns-clause-parts
returns-clause-parts c =
    job_parts c.args.job.now c.in_ok-put_head.ensures.parts
    (subst (AllByRecursion (λ command. IsLine (InJob command)))
    (whole_taken c.loop-command.command-index c.as_slice-command-items.result.now c.args.job.now.commands c.loop-command-test.false
    c.as_slice-command-items.ensures) c.loop-command.invariant.parts)
