use Rattle.std.proofs.Common.{◌∙◌, ap, drop, length, map, refl, subst}
use Rattle.core_event.specs.declared.event.Event.TheVariants.{Leave}
use Rattle.save_parts.specs.Heard.{HeardMore}
use Rattle.ws_core.specs.Histories.{entry_of, told_of}
use Rattle.ws_core.specs.Sessions.{Session}
use Rattle.phase_run.proofs.Calm.{calm_written}
use Rattle.phase_run.proofs.Heard.{tells_from}
use Rattle.phase_run.proofs.Runs.{did_leave}
use Rattle.phase_run.proofs.run.leave.Goals as goal

pub returns-clause-made : goal.returns-clause-made
returns-clause-made g c = let e = c.in_ok-perform.ensures in did_leave c.args.space.now.core c.perform.new.self.core e.history

pub returns-clause-calm : goal.returns-clause-calm
returns-clause-calm g c = calm_written c.args.space.now.core.history c.perform.new.self.core.history (entry_of c.args.space.now.core.state 1 Leave) c.in_ok-perform.ensures.history refl

pub returns-clause-told : goal.returns-clause-told
returns-clause-told g c = let e = c.in_ok-perform.ensures in let made = did_leave c.args.space.now.core c.perform.new.self.core e.history in
    tells_from c.history-from.result.now c.args.space.now.core.history c.perform.new.self.core.history made.0 (map (λ l. g.L.Listener.heard l) c.args.listeners.now) (map (λ l. g.L.Listener.heard l) c.tell_since.new.listeners)
    (c.history-from.ensures.history ∙ ap (λ (x : Session). x.history) c.core.ensures) made.1
    (subst (λ (x : Session). HeardMore (told_of (drop (length c.history-from.result.now) x.history)) (map (λ l. g.L.Listener.heard l) c.args.listeners.now) (map (λ l. g.L.Listener.heard l) c.tell_since.new.listeners)) c.core-2.ensures c.tell_since.ensures)
