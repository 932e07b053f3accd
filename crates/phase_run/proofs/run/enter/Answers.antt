use Rattle.std.proofs.Common.{map, ap, drop, length, refl, subst, ◌∙◌}
use Rattle.save_parts.specs.Heard.{HeardMore}
use Rattle.ws_core.specs.Histories.{has_entered, told_of}
use Rattle.ws_core.specs.Sessions.{Session}
use Rattle.phase_run.proofs.Heard.{tells_from}
use Rattle.phase_run.proofs.Runs.{zeroth_there, did_enter}
use Rattle.phase_run.proofs.run.enter.Goals as goal

pub perform-requires : goal.perform-requires
perform-requires g c = record { entered = ap (has_entered 0) c.requires.state ∙ zeroth_there c.args.space.now.core.opened c.requires.opened; plain = refl }

pub returns-clause-made : goal.returns-clause-made
returns-clause-made g c = let e = c.in_ok-perform.ensures in did_enter c.args.space.now.core c.perform.new.self.core c.requires.state c.requires.opened e.opened e.state e.history

pub returns-clause-told : goal.returns-clause-told
returns-clause-told g c = let e = c.in_ok-perform.ensures in let made = did_enter c.args.space.now.core c.perform.new.self.core c.requires.state c.requires.opened e.opened e.state e.history in
    tells_from c.history-from.result.now c.args.space.now.core.history c.perform.new.self.core.history made.grew.0 (map (λ l. g.L.Listener.heard l) c.args.listeners.now) (map (λ l. g.L.Listener.heard l) c.tell_since.new.listeners)
    (c.history-from.ensures.history ∙ ap (λ (x : Session). x.history) c.core.ensures) made.grew.1
    (subst (λ (x : Session). HeardMore (told_of (drop (length c.history-from.result.now) x.history)) (map (λ l. g.L.Listener.heard l) c.args.listeners.now) (map (λ l. g.L.Listener.heard l) c.tell_since.new.listeners)) c.core-2.ensures c.tell_since.ensures)
