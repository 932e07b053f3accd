use Rattle.std.proofs.Common.{◌≡◌, ◌∷◌, [], refl, ap}
use Rattle.core_event.specs.declared.event.Event.TheVariants.{Cancel}
use Rattle.run_order.specs.Lists.{acts}
use Rattle.run_order.specs.Parts.{CommandEntries}
use Rattle.pass_jobs.specs.Inside.Floors.{cancelling, known}
use Rattle.pass_jobs.proofs.Turns.{does_wider, no_act, one_act}
use Rattle.pass_jobs.proofs.scheduling.cancel_one.Goals as goal

pub do_event-requires-clause-plain : goal.do_event-requires-clause-plain
do_event-requires-clause-plain g c = refl

pub returns-in-Ok-clause-done : goal.returns-in-Ok-clause-done
returns-in-Ok-clause-done g c =
    let k = g.R.JobRoom.knows c.args.pass.now in
    does_wider (CommandEntries k.number (Cancel c.in-Ok.name)) (λ h. acts h ≡ cancelling c.args.name.now ∷ []) (one_act k.number (Cancel c.in-Ok.name) _ c.requires.zeroth (ap Cancel c.in-Ok.ensures)) (known k)
    (known (g.R.JobRoom.knows c.do_event.new.pass)) c.do_event.result c.do_event.ensures.done

pub returns-in-Err-clause-done : goal.returns-in-Err-clause-done
returns-in-Err-clause-done g c = no_act (cancelling c.args.name.now) (known (g.R.JobRoom.knows c.args.pass.now))
