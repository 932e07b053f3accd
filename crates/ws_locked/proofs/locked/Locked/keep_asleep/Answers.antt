use Rattle.std.proofs.Common.{filter, ap, ◌∙◌, rules}
use Rattle.std.proofs.lemmas.Fn.{filter_same}
use Rattle.job_queue.specs.Queues.{state_of}
use Rattle.job_manager.specs.declared.manager.JobManager.{JobManager}
use Rattle.run_order.specs.Orders.{is_asleep}
use Rattle.ws_locked.proofs.locked.Locked.keep_asleep.Goals as goal

pub returns : goal.returns
returns g c =
    filter_same _ (λ name. is_asleep (state_of c.manager.result.now.jobs name)) _ (λ x b f' k. search rules) _ _ c.retain.ensures.filtered
    ∙ ap (λ (m : JobManager). filter (λ name. is_asleep (state_of m.jobs name)) c.args.names.now.items) c.manager.ensures
