use Rattle.std.proofs.Common.{map, option_to_list, subst}
use Rattle.save_parts.specs.Heard.{HeardMore}
use Rattle.phase_run.proofs.Heard.{heard_none, heard_next}
use Rattle.phase_run.proofs.telling.tell.Goals as goal

pub loop-entry-init : goal.loop-entry-init
loop-entry-init g c = heard_none (map (λ l. g.L.Listener.heard l) c.args.listeners.now)

pub loop-entry-preserved : goal.loop-entry-preserved
loop-entry-preserved g c = heard_next c.args.entries.now c.loop-entry.entry-index c.entry-item.result
    (map (λ l. g.L.Listener.heard l) c.args.listeners.now) (map (λ l. g.L.Listener.heard l) c.loop-entry.listeners) (map (λ l. g.L.Listener.heard l) c.tell_notice.new.listeners) c.loop-entry-test.true c.loop-entry.invariant
    (subst (λ x. HeardMore (option_to_list x.reply.notice) (map (λ l. g.L.Listener.heard l) c.loop-entry.listeners) (map (λ l. g.L.Listener.heard l) c.tell_notice.new.listeners)) c.entry-item.is c.tell_notice.ensures)
