use Rattle.std.proofs.Common.{ap}
use Rattle.core_event.specs.declared.reply.Reply.{Reply}
use Rattle.build_host.proofs.Keeping.{goes_same, step_goes, stepped}
use Rattle.build_host.proofs.steps.answered.Goals as goal

pub returns-in_err-reply-clause-goes : goal.returns-in_err-reply-clause-goes
returns-in_err-reply-clause-goes g c = goes_same c.args.core.now c.step.new.self c.in_err-reply.ensures.err

pub returns-clause-steps : goal.returns-clause-steps
returns-clause-steps g c = let e = c.in_ok-reply.ensures in (
  stepped c.args.event c.args.core.now c.step.new.self c.settle.ensures.sound c.settle.ensures.placed e.opened e.state e.history c.requires.building c.requires.alone,
  ap (λ (r : Reply). r.answer) e.reply,
)

pub returns-clause-goes : goal.returns-clause-goes
returns-clause-goes g c =
    let e = c.in_ok-reply.ensures in
    step_goes c.args.event c.args.core.now c.step.new.self
    (stepped c.args.event c.args.core.now c.step.new.self c.settle.ensures.sound c.settle.ensures.placed e.opened e.state e.history c.requires.building c.requires.alone) c.requires.building c.requires.alone.worker
