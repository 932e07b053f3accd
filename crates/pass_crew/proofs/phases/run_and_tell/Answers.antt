use Rattle.std.proofs.Common.{◌∙◌, length, map, ap, arith, length-append}
use Rattle.ws_core.specs.Histories.{replay}
use Rattle.run_order.specs.Orders.{IsPhase}
use Rattle.phase_pool.specs.Workers.{hand}
use Rattle.phase_pool.proofs.Results.{err_at, ok_at}
use Rattle.pass_crew.specs.Inside.Assembled.{IsKept}
use Rattle.pass_crew.proofs.Heard.{tells_since}
use Rattle.pass_crew.proofs.Meetings.{assembled_of, came_still}
use Rattle.pass_crew.proofs.phases.run_and_tell.Goals as goal

pub tell-count-requires-clause-assembled : goal.tell-count-requires-clause-assembled
tell-count-requires-clause-assembled g c =
    let h = c.args.crew.now in
    let knows = g.C.Host.knows in
    let f = hand knows in
    let xs = c.run_phase-workers.result.0.items in
    let came = ok_at c.run_phase-workers.result.1 _ c.in-Ok.is c.run_phase-workers.ensures.whole in
    (length (map f xs), 0, assembled_of (IsKept (g.C.Host.good h) knows (g.C.Host.tells h)) (g.C.Host.opened h) (knows c.run_phase-workers.new.first) (map f xs) came.together)

pub tell-count-requires-clause-from : goal.tell-count-requires-clause-from
tell-count-requires-clause-from g c =
    let came = ok_at c.run_phase-workers.result.1 _ c.in-Ok.is c.run_phase-workers.ensures.whole in
    let from = c.requires.from in
    let more = ap length came.grew.1 in
    let long = length-append (g.C.Host.knows c.args.first.now).seen came.grew.0 in
    omega (arith, from, more, long)

pub returns-in-Ok-clause-whole : goal.returns-in-Ok-clause-whole
returns-in-Ok-clause-whole g c =
    let h = c.args.crew.now in
    let knows = g.C.Host.knows in
    let f = hand knows in
    let s = g.C.Host.opened h in
    let k0 = knows c.args.first.now in
    came_still (IsKept (g.C.Host.good h) knows (g.C.Host.tells h)) s (IsPhase (g.C.Host.makes h) (length c.args.workers.items) (g.C.Host.plan c.args.phase.now) (replay s k0.seen)) k0 (knows c.run_phase-workers.new.first) (knows c.tell-count.new.first)
    (map f c.args.workers.items) (map f c.run_phase-workers.result.0.items) (map f c.tell-count.new.workers.items)
    (ok_at c.run_phase-workers.result.1 _ c.in-Ok.is c.run_phase-workers.ensures.whole) c.tell-count.ensures.assembled c.tell-count.ensures.same

pub returns-in-Ok-clause-all_go_on : goal.returns-in-Ok-clause-all_go_on
returns-in-Ok-clause-all_go_on g c = c.tell-count.ensures.go_on (ok_at c.run_phase-workers.result.1 _ c.in-Ok.is c.run_phase-workers.ensures.all_go_on)

pub returns-in-Ok-clause-told : goal.returns-in-Ok-clause-told
returns-in-Ok-clause-told g c =
    let knows = g.C.Host.knows in
    let came = ok_at c.run_phase-workers.result.1 _ c.in-Ok.is c.run_phase-workers.ensures.whole in
    tells_since (knows c.args.first.now).seen (knows c.tell-count.new.first).seen came.grew.0 c.args.from (map (λ l. g.L.Listener.heard l) c.args.listeners.now) (map (λ l. g.L.Listener.heard l) c.tell-count.new.listeners)
    c.requires.from (c.tell-count.ensures.same ∙ came.grew.1) c.tell-count.ensures.told

pub returns-in-Err-clause-cut : goal.returns-in-Err-clause-cut
returns-in-Err-clause-cut g c = err_at c.run_phase-workers.result.1 _ c.in-Err.is c.run_phase-workers.ensures.cut
