use Rattle.std.proofs.Common.{◌∙◌, length, map, refl, sym, ap, subst, arith}
use Rattle.std.proofs.lemmas.List.{length-map}
use Rattle.ws_core.specs.Histories.{replay}
use Rattle.run_order.specs.Lists.{Grew}
use Rattle.run_order.specs.Orders.{IsCutPhase, IsPhase}
use Rattle.phase_pool.specs.Workers.{hand}
use Rattle.phase_pool.proofs.Results.{err_at, ok_at}
use Rattle.phase_pool.proofs.Runs.{runs_all, runs_cut, runs_next}
use Rattle.pass_crew.proofs.Heard.{tells_none, tells_on, tells_stop}
use Rattle.pass_crew.proofs.Results.{of_ok}
use Rattle.pass_crew.proofs.phases.run_each.Goals as goal

pub loop-phase-init : goal.loop-phase-init
loop-phase-init g c = (
  c.requires.here.0,
  c.requires.here.1,
  c.requires.together,
  refl,
  c.requires.all_go_on,
  refl,
  c.requires.from,
  tells_none (g.C.Host.knows c.args.first.now).seen (map (λ l. g.L.Listener.heard l) c.args.listeners.now),
)

pub returns-in-Err-clause-cut : goal.returns-in-Err-clause-cut
returns-in-Err-clause-cut g c =
    let h = c.args.crew.now in
    let knows = g.C.Host.knows in
    let made = g.C.Host.makes h in
    let s = g.C.Host.opened h in
    let plan = g.C.Host.plan in
    let k = knows c.loop-phase.first in
    let k' = knows c.run_and_tell-back.new.first in
    let came = err_at c.run_and_tell-back.result.1 _ c.in-Err.is c.run_and_tell-back.ensures.cut in
    let grew = subst (λ n. Grew (IsCutPhase made n (plan c.phase-item.result) (replay s k.seen)) k.seen k'.seen) c.loop-phase.invariant.3 came.grew in
    runs_cut made plan _ s c.args.phases.now c.loop-phase.phase-index c.phase-item.result (knows c.args.first.now).seen k.seen k'.seen c.loop-phase-test.true c.loop-phase.invariant.5
    (subst (λ p. Grew (IsCutPhase made (length c.args.workers.items) (plan p) (replay s k.seen)) k.seen k'.seen) c.phase-item.is grew)

pub returns-in-Err-clause-told_some : goal.returns-in-Err-clause-told_some
returns-in-Err-clause-told_some g c =
    let knows = g.C.Host.knows in
    let heard = map (λ l. g.L.Listener.heard l) in
    let came = err_at c.run_and_tell-back.result.1 _ c.in-Err.is c.run_and_tell-back.ensures.cut in
    let quiet = err_at c.run_and_tell-back.result.1 _ c.in-Err.is c.run_and_tell-back.ensures.quiet in
    tells_stop (knows c.args.first.now).seen (knows c.loop-phase.first).seen (knows c.run_and_tell-back.new.first).seen came.grew.0 (heard c.args.listeners.now) (heard c.loop-phase.listeners) (heard c.run_and_tell-back.new.listeners)
    c.loop-phase.invariant.7 came.grew.1 (ap heard quiet)

pub loop-phase-preserved : goal.loop-phase-preserved
loop-phase-preserved g c =
    let h = c.args.crew.now in
    let knows = g.C.Host.knows in
    let f = hand knows in
    let heard = map (λ l. g.L.Listener.heard l) in
    let made = g.C.Host.makes h in
    let s = g.C.Host.opened h in
    let plan = g.C.Host.plan in
    let k = knows c.loop-phase.first in
    let k' = knows c.run_and_tell-back.new.first in
    let came = ok_at c.run_and_tell-back.result.1 _ c.in-Ok.is c.run_and_tell-back.ensures.whole in
    let grew = subst (λ n. Grew (IsPhase made n (plan c.phase-item.result) (replay s k.seen)) k.seen k'.seen) c.loop-phase.invariant.3 came.grew in (
      c.run_and_tell-back.ensures.here.0,
      c.run_and_tell-back.ensures.here.1,
      came.together,
      sym (length-map c.run_and_tell-back.result.0.items f) ∙ (came.len ∙ (length-map c.loop-phase.workers.items f ∙ c.loop-phase.invariant.3)),
      ok_at c.run_and_tell-back.result.1 _ c.in-Ok.is c.run_and_tell-back.ensures.all_go_on,
      runs_next made plan _ s c.args.phases.now c.loop-phase.phase-index c.phase-item.result (knows c.args.first.now).seen k.seen k'.seen c.loop-phase-test.true c.loop-phase.invariant.5
          (subst (λ p. Grew (IsPhase made (length c.args.workers.items) (plan p) (replay s k.seen)) k.seen k'.seen) c.phase-item.is grew),
      of_ok _ c.run_and_tell-back.result.1 _ c.in-Ok.is c.run_and_tell-back.ensures.counted,
      tells_on (knows c.args.first.now).seen k.seen k'.seen (heard c.args.listeners.now) (heard c.loop-phase.listeners) (heard c.run_and_tell-back.new.listeners) c.loop-phase.invariant.7
          (ok_at c.run_and_tell-back.result.1 _ c.in-Ok.is c.run_and_tell-back.ensures.told),
    )

pub returns-clause-whole : goal.returns-clause-whole
returns-clause-whole g c =
    let h = c.args.crew.now in
    let knows = g.C.Host.knows in
    runs_all (g.C.Host.makes h) (λ p. g.C.Host.plan p) _ (g.C.Host.opened h) c.args.phases.now c.loop-phase.phase-index (knows c.args.first.now).seen (knows c.loop-phase.first).seen (omega (arith, c.loop-phase-test.false)) c.loop-phase.invariant.5
