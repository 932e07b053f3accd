use Rattle.std.proofs.Common.{[], sym, ap, ◌∙◌, append-nil}
use Rattle.job_manager.specs.declared.manager.JobManager.{JobManager}
use Rattle.pass_table.specs.Passes.{is_busy}
use Rattle.ws_locked.proofs.Taking.{took, took_none}
use Rattle.ws_locked.proofs.locked.Locked.take_job.Goals as goal

pub returns-then-is_busy-clause-taken : goal.returns-then-is_busy-clause-taken
returns-then-is_busy-clause-taken g c =
    let l = c.args.self.now in
    let busy = ap (λ (m : JobManager). is_busy m.passes c.args.pass) (sym c.manager.ensures) ∙ (sym c.is_busy.ensures ∙ c.if-is_busy.true) in
    ([], sym (append-nil l.core.history), took_none l.opening.core.value.opened c.args.pass l.core.history busy)

pub returns-clause-taken : goal.returns-clause-taken
returns-clause-taken g c =
    let l = c.args.self.now in
    let a = c.in_ok-reply.ensures.asked in
    let idle = ap (λ (m : JobManager). is_busy m.passes c.args.pass) (sym c.manager.ensures) ∙ (sym c.is_busy.ensures ∙ c.if-is_busy.false) in
    (a.0, a.1, took l.opening.core.value.opened c.args.pass l.core.history a.0 c.in_ok-reply.reply c.job_in.result idle a.2 c.job_in.ensures)
