use Rattle.std.proofs.Common.{◌≡◌, ◌∷◌, [], refl, sym, subst}
use Rattle.std.specs.Prelude.{true}
use Rattle.run_order.specs.Lists.{acts}
use Rattle.run_order.specs.Orders.{scheduled}
use Rattle.run_order.specs.Parts.{CommandEntries}
use Rattle.script_plan.specs.Plans.{job_plan}
use Rattle.pass_jobs.specs.Calls.{is_plain}
use Rattle.pass_jobs.specs.Inside.Floors.{known}
use Rattle.pass_jobs.proofs.Turns.{does_wider, no_act, one_act}
use Rattle.pass_jobs.proofs.scheduling.schedule_one.Goals as goal

pub do_event-requires-clause-plain : goal.do_event-requires-clause-plain
do_event-requires-clause-plain g c = subst (λ e. is_plain e ≡ true) (sym c.in-Ok.ensures) refl

pub returns-in-Ok-clause-done : goal.returns-in-Ok-clause-done
returns-in-Ok-clause-done g c =
    let k = g.R.JobRoom.knows c.args.pass.now in
    does_wider (CommandEntries k.number c.in-Ok.event) (λ h. acts h ≡ scheduled (job_plan c.args.job.now) ∷ []) (one_act k.number c.in-Ok.event (scheduled (job_plan c.args.job.now)).1 c.requires.zeroth c.in-Ok.ensures) (known k)
    (known (g.R.JobRoom.knows c.do_event.new.pass)) c.do_event.result c.do_event.ensures.done

pub returns-in-Err-clause-done : goal.returns-in-Err-clause-done
returns-in-Err-clause-done g c = no_act (scheduled (job_plan c.args.job.now)) (known (g.R.JobRoom.knows c.args.pass.now))
