use Rattle.std.proofs.Common.{◌∙◌, length, map, drop, sym, ap, subst}
use Rattle.run_order.specs.Lists.{Begins}
use Rattle.save_parts.specs.Heard.{HeardMore}
use Rattle.ws_core.specs.Histories.{told_of}
use Rattle.phase_pool.specs.Workers.{hand}
use Rattle.phase_pool.proofs.Phases.{go_on_gathered}
use Rattle.pass_crew.proofs.Meetings.{assembled_still, gathered_same, same_seen}
use Rattle.pass_crew.proofs.telling.tell.Goals as goal

pub returns-clause-assembled : goal.returns-clause-assembled
returns-clause-assembled g c = λ n gone a.
    let h = c.args.crew.now in
    let knows = g.C.Host.knows in
    assembled_still a (knows c.tell-count.new.pass) (knows c.gather.new.first) (map (hand knows) c.gather.new.workers.items) c.tell-count.ensures.looked c.gather.ensures.gathers
    (g.C.Host.here_legal h c.gather.new.first c.gather.ensures.here)

pub returns-clause-same : goal.returns-clause-same
returns-clause-same g c =
    let h = c.args.crew.now in
    let knows = g.C.Host.knows in
    same_seen c.requires.assembled.2 (knows c.tell-count.new.pass) (knows c.gather.new.first) (map (hand knows) c.gather.new.workers.items) c.tell-count.ensures.looked c.gather.ensures.gathers
    (g.C.Host.here_legal h c.gather.new.first c.gather.ensures.here)

pub returns-clause-go_on : goal.returns-clause-go_on
returns-clause-go_on g c = λ all.
    let knows = g.C.Host.knows in
    let f = hand knows in
    go_on_gathered (knows c.tell-count.new.pass) (knows c.gather.new.first) (map f c.args.workers.now.items) (map f c.gather.new.workers.items) c.gather.ensures.gathers all

pub returns-clause-told : goal.returns-clause-told
returns-clause-told g c =
    let knows = g.C.Host.knows in
    let f = hand knows in
    let k1 = knows c.tell-count.new.pass in
    let same = gathered_same k1 (knows c.gather.new.first) (map f c.args.workers.now.items) (map f c.gather.new.workers.items) c.gather.ensures.gathers
    (λ i lt. subst (λ h. Begins h k1.seen) (sym (c.requires.assembled.2.seen i lt)) c.tell-count.ensures.looked.begins) in
    subst (λ h. HeardMore (told_of (drop c.args.from h)) (map (λ l. g.L.Listener.heard l) c.args.listeners.now) (map (λ l. g.L.Listener.heard l) c.tell-count.new.listeners)) (sym same) c.tell-count.ensures.told

pub returns-clause-counted : goal.returns-clause-counted
returns-clause-counted g c =
    let knows = g.C.Host.knows in
    let f = hand knows in
    let k1 = knows c.tell-count.new.pass in
    let same = gathered_same k1 (knows c.gather.new.first) (map f c.args.workers.now.items) (map f c.gather.new.workers.items) c.gather.ensures.gathers
    (λ i lt. subst (λ h. Begins h k1.seen) (sym (c.requires.assembled.2.seen i lt)) c.tell-count.ensures.looked.begins) in
    c.tell-count.ensures.counted ∙ ap length (sym same)
