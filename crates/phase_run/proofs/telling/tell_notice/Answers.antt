use Rattle.std.proofs.Common.{map, option_to_list, subst}
use Rattle.save_parts.specs.Heard.{HeardMore}
use Rattle.phase_run.proofs.Heard.{heard_none}
use Rattle.phase_run.proofs.telling.tell_notice.Goals as goal

pub returns-in_default : goal.returns-in_default
returns-in_default g c =
    subst (λ o. HeardMore (option_to_list o) (map (λ l. g.L.Listener.heard l) c.args.listeners.now) (map (λ l. g.L.Listener.heard l) c.args.listeners.now)) c.in_default.ensures
    (heard_none (map (λ l. g.L.Listener.heard l) c.args.listeners.now))
