use Rattle.std.proofs.Common.{◌∙◌, ap, drop, length, map, refl, subst}
use Rattle.save_parts.specs.Heard.{HeardMore}
use Rattle.ws_core.specs.Histories.{told_of}
use Rattle.ws_core.specs.Sessions.{Session}
use Rattle.phase_run.proofs.Results.{on_err}
use Rattle.phase_run.proofs.Heard.{tells_from}
use Rattle.phase_run.proofs.run.run_and_tell.Goals as goal

pub returns-in_err-run_phase-clause-done : goal.returns-in_err-run_phase-clause-done
returns-in_err-run_phase-clause-done g c = on_err _ _ c.from_residual.result c.from_residual.ensures.0 (record { stopped = c.in_err-run_phase.ensures.done; quiet = refl })

pub returns-clause-done : goal.returns-clause-done
returns-clause-done g c = record {
  made = c.in_ok-run_phase.ensures.done;
  told = tells_from c.history-from.result.now c.args.space.now.core.history c.run_phase.new.space.core.history c.in_ok-run_phase.ensures.done.grew.0 (map (λ l. g.L.Listener.heard l) c.args.listeners.now) (map (λ l. g.L.Listener.heard l) c.tell_since.new.listeners)
      (c.history-from.ensures.history ∙ ap (λ (x : Session). x.history) c.core.ensures) c.in_ok-run_phase.ensures.done.grew.1
      (subst (λ (x : Session). HeardMore (told_of (drop (length c.history-from.result.now) x.history)) (map (λ l. g.L.Listener.heard l) c.args.listeners.now) (map (λ l. g.L.Listener.heard l) c.tell_since.new.listeners)) c.core-2.ensures c.tell_since.ensures);
}
