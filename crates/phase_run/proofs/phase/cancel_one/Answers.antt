use Rattle.std.proofs.Common.{◌≡◌, true, ap, sym, subst, ◌∙◌}
use Rattle.core_event.specs.declared.event.Event.TheVariants.{Cancel}
use Rattle.ws_core.specs.Steps.{step}
use Rattle.ws_core.specs.Histories.{entry_of, replay, written}
use Rattle.ws_core.specs.Sessions.{Session}
use Rattle.run_order.specs.Orders.{sleeps}
use Rattle.phase_run.proofs.Results.{both_of}
use Rattle.phase_run.proofs.Phases.{did_cancel}
use Rattle.phase_run.proofs.phase.cancel_one.Goals as goal

pub returns-clause-done : goal.returns-clause-done
returns-clause-done g c = both_of c.perform.result
    (λ s h. did_cancel c.args.job.now (replay c.args.space.now.core.opened c.args.space.now.core.history) c.args.space.now.core c.perform.new.self.core (subst (λ (x : Session). sleeps (replay x.opened x.history) c.args.job.now.name ≡ true) c.core.ensures (sym c.if-not-sleeps.ensures)) c.perform.ensures.opened
    (s ∙ ap (λ n. (step c.args.space.now.core.state 0 (Cancel n)).0) c.in_ok-copy.ensures) (h ∙ ap (λ n. written c.args.space.now.core.history (entry_of c.args.space.now.core.state 0 (Cancel n))) c.in_ok-copy.ensures) c.requires)
    (λ q. q) c.perform.ensures.state c.perform.ensures.history c.perform.ensures.err
