use Rattle.std.proofs.Common.{◌∙◌, ◌<◌, map, sym, subst}
use Rattle.std.proofs.lemmas.List.{length-map}
use Rattle.ws_core.specs.Histories.{replay}
use Rattle.run_order.specs.Orders.{IsCutPhase, IsPhase}
use Rattle.phase_pool.specs.Workers.{hand}
use Rattle.phase_pool.specs.Phases.{Came}
use Rattle.phase_pool.proofs.Phases.{cut_cancelling, cut_scheduling, cut_working, go_on_all, go_on_gathered, whole}
use Rattle.phase_pool.proofs.Results.{err_on, ok_holds, ok_on}
use Rattle.phase_pool.proofs.phase.run_phase.Goals as goal

pub schedule-requires-clause-zeroth : goal.schedule-requires-clause-zeroth
schedule-requires-clause-zeroth g c = c.requires.together.zeroth

pub cancel-cancelled-requires-clause-zeroth : goal.cancel-cancelled-requires-clause-zeroth
cancel-cancelled-requires-clause-zeroth g c = c.gather-3.ensures.gathers.looks.number ∙ (c.gather-2.ensures.gathers.looks.number ∙ (c.in-Ok.ensures.done.number ∙ c.requires.together.zeroth))

pub returns-in-Err-clause-cut : goal.returns-in-Err-clause-cut
returns-in-Err-clause-cut g c =
    let h = c.args.host.now in
    let knows = g.H.Host.knows in
    let f = hand knows in
    let s = g.H.Host.opened h in
    let jobs = g.H.Host.plan c.args.phase.now in
    let k0 = knows c.args.first.now in
    let w0 = c.args.workers.items in
    let k2 = knows c.gather.new.first in
    let w1 = c.gather.new.workers.items in
    subst (λ n. Came s (IsCutPhase (g.H.Host.makes h) n jobs (replay s k0.seen)) k0 (map f w0) k2 (map f w1)) (length-map w0 f)
    (cut_scheduling (g.H.Host.makes h) (g.H.Host.lets_none_in h) jobs s k0 (knows c.schedule.new.pass) k2 (map f w0) (map f w1) c.requires.together c.gather.ensures.gathers
    (g.H.Host.here_legal h c.gather.new.first c.gather.ensures.here) c.in-Err.ensures.cut)

pub returns-then-has_stopped-clause-cut : goal.returns-then-has_stopped-clause-cut
returns-then-has_stopped-clause-cut g c =
    let h = c.args.host.now in
    let knows = g.H.Host.knows in
    let f = hand knows in
    let s = g.H.Host.opened h in
    let jobs = g.H.Host.plan c.args.phase.now in
    let k0 = knows c.args.first.now in
    let w0 = c.args.workers.items in
    let k3 = knows c.gather-3.new.first in
    let w3 = c.gather-3.new.workers.items in
    subst (λ n. Came s (IsCutPhase (g.H.Host.makes h) n jobs (replay s k0.seen)) k0 (map f w0) k3 (map f w3)) (length-map w0 f)
    (cut_working (g.H.Host.makes h) (g.H.Host.lets_none_in h) jobs s k0 (knows c.schedule.new.pass) (knows c.gather-2.new.first) (map f w0) (map f c.gather-2.new.workers.items) c.requires.together c.gather-2.ensures.gathers
    (g.H.Host.here_legal h c.gather-2.new.first c.gather-2.ensures.here) c.in-Ok.ensures.done c.requires.all_go_on k3 (map f c.work-workers.result.items) (map f w3) c.work-workers.ensures.worked c.gather-3.ensures.gathers
    (g.H.Host.here_legal h c.gather-3.new.first c.gather-3.ensures.here))

pub returns-clause-cut : goal.returns-clause-cut
returns-clause-cut g c =
    let h = c.args.host.now in
    let knows = g.H.Host.knows in
    let f = hand knows in
    let s = g.H.Host.opened h in
    let jobs = g.H.Host.plan c.args.phase.now in
    let k0 = knows c.args.first.now in
    let w0 = c.args.workers.items in
    let k3 = knows c.gather-3.new.first in
    let w3 = c.gather-3.new.workers.items in
    let k5 = knows c.gather-4.new.first in
    let w4 = c.gather-4.new.workers.items in
    err_on c.cancel-cancelled.result
    (λ last. subst (λ n. Came s (IsCutPhase (g.H.Host.makes h) n jobs (replay s k0.seen)) k0 (map f w0) k5 (map f w4)) (length-map w0 f)
    (cut_cancelling (g.H.Host.makes h) (g.H.Host.lets_none_in h) jobs s k0 (knows c.schedule.new.pass) (knows c.gather-2.new.first) (map f w0) (map f c.gather-2.new.workers.items) c.requires.together c.gather-2.ensures.gathers
    (g.H.Host.here_legal h c.gather-2.new.first c.gather-2.ensures.here) c.in-Ok.ensures.done c.requires.all_go_on k3 (map f c.work-workers.result.items) (map f w3) c.work-workers.ensures.worked c.gather-3.ensures.gathers
    (g.H.Host.here_legal h c.gather-3.new.first c.gather-3.ensures.here) (knows c.cancel-cancelled.new.pass) k5 (map f w4) c.gather-4.ensures.gathers (g.H.Host.here_legal h c.gather-4.new.first c.gather-4.ensures.here) last))
    c.cancel-cancelled.ensures.cut

pub returns-clause-whole : goal.returns-clause-whole
returns-clause-whole g c =
    let h = c.args.host.now in
    let knows = g.H.Host.knows in
    let f = hand knows in
    let s = g.H.Host.opened h in
    let jobs = g.H.Host.plan c.args.phase.now in
    let k0 = knows c.args.first.now in
    let w0 = c.args.workers.items in
    let k3 = knows c.gather-3.new.first in
    let w3 = c.gather-3.new.workers.items in
    let k5 = knows c.gather-4.new.first in
    let w4 = c.gather-4.new.workers.items in
    ok_on c.cancel-cancelled.result
    (λ last. subst (λ n. Came s (IsPhase (g.H.Host.makes h) n jobs (replay s k0.seen)) k0 (map f w0) k5 (map f w4)) (length-map w0 f)
    (whole (g.H.Host.makes h) (g.H.Host.lets_none_in h) jobs s k0 (knows c.schedule.new.pass) (knows c.gather-2.new.first) (map f w0) (map f c.gather-2.new.workers.items) c.requires.together c.gather-2.ensures.gathers
    (g.H.Host.here_legal h c.gather-2.new.first c.gather-2.ensures.here) c.in-Ok.ensures.done c.requires.all_go_on k3 (map f c.work-workers.result.items) (map f w3) c.work-workers.ensures.worked c.gather-3.ensures.gathers
    (g.H.Host.here_legal h c.gather-3.new.first c.gather-3.ensures.here) (knows c.cancel-cancelled.new.pass) k5 (map f w4) c.gather-4.ensures.gathers (g.H.Host.here_legal h c.gather-4.new.first c.gather-4.ensures.here)
    (subst (λ n. 0 < n) (sym (length-map w0 f)) c.requires.some) (go_on_all f w3 (sym c.if-has_stopped.ensures)) last))
    c.cancel-cancelled.ensures.done

pub returns-clause-all_go_on : goal.returns-clause-all_go_on
returns-clause-all_go_on g c =
    let knows = g.H.Host.knows in
    let f = hand knows in
    ok_holds c.cancel-cancelled.result
    (go_on_gathered (knows c.cancel-cancelled.new.pass) (knows c.gather-4.new.first) (map f c.gather-3.new.workers.items) (map f c.gather-4.new.workers.items) c.gather-4.ensures.gathers
    (go_on_all f c.gather-3.new.workers.items (sym c.if-has_stopped.ensures)))
