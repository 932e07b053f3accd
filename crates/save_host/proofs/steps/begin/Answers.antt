use Rattle.std.proofs.Common.{sym, ap, subst}
use Rattle.core_event.specs.declared.reply.Reply.{Reply}
use Rattle.save_history.specs.Stages.{Starts}
use Rattle.save_history.proofs.Stages.{starts}
use Rattle.save_host.proofs.steps.begin.Goals as goal

pub returns-clause-starts : goal.returns-clause-starts
returns-clause-starts c =
    let e = c.in_ok-reply.ensures in
    let s = c.settle.ensures in
    subst (λ o. Starts c.args.pass c.args.kind o c.args.core.now c.step.new.self) (sym c.number_of.ensures)
    (starts c.args.core.now c.step.new.self c.args.pass c.args.kind s.sound s.placed e.opened e.state e.history c.in_ok-reply.reply.answer (ap (λ (r : Reply). r.answer) e.reply))
