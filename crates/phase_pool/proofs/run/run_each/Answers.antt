use Rattle.std.proofs.Common.{◌∙◌, ◌<◌, length, refl, sym, subst, arith}
use Rattle.std.proofs.lemmas.List.{length-map}
use Rattle.ws_core.specs.Histories.{replay}
use Rattle.run_order.specs.Lists.{Grew}
use Rattle.run_order.specs.Orders.{IsCutPhase, IsPhase}
use Rattle.phase_pool.specs.Workers.{hand}
use Rattle.phase_pool.proofs.Results.{err_at, ok_at}
use Rattle.phase_pool.proofs.Runs.{runs_all, runs_cut, runs_next}
use Rattle.phase_pool.proofs.run.run_each.Goals as goal

pub loop-phase-init : goal.loop-phase-init
loop-phase-init g c = (c.requires.here.0, c.requires.here.1, c.requires.together, refl, c.requires.all_go_on, refl)

pub run_phase-back-requires-clause-some : goal.run_phase-back-requires-clause-some
run_phase-back-requires-clause-some g c κs within = subst (λ n. 0 < n) (sym c.loop-phase.invariant.3) c.requires.some

pub run_phase-back-requires-clause-here : goal.run_phase-back-requires-clause-here
run_phase-back-requires-clause-here g c κs within = (c.loop-phase.invariant.0, c.loop-phase.invariant.1)

pub run_phase-back-requires-clause-together : goal.run_phase-back-requires-clause-together
run_phase-back-requires-clause-together g c κs within = c.loop-phase.invariant.2

pub run_phase-back-requires-clause-all_go_on : goal.run_phase-back-requires-clause-all_go_on
run_phase-back-requires-clause-all_go_on g c κs within = c.loop-phase.invariant.4

pub returns-in-Err-clause-together : goal.returns-in-Err-clause-together
returns-in-Err-clause-together g c = (err_at c.run_phase-back.result.1 _ c.in-Err.is c.run_phase-back.ensures.cut).together

pub returns-in-Err-clause-len : goal.returns-in-Err-clause-len
returns-in-Err-clause-len g c =
    let f = hand g.H.Host.knows in
    let came = err_at c.run_phase-back.result.1 _ c.in-Err.is c.run_phase-back.ensures.cut in
    sym (length-map c.run_phase-back.result.0.items f) ∙ (came.len ∙ (length-map c.loop-phase.workers.items f ∙ c.loop-phase.invariant.3))

pub returns-in-Err-clause-cut : goal.returns-in-Err-clause-cut
returns-in-Err-clause-cut g c =
    let h = c.args.host.now in
    let knows = g.H.Host.knows in
    let made = g.H.Host.makes h in
    let s = g.H.Host.opened h in
    let plan = g.H.Host.plan in
    let k = knows c.loop-phase.first in
    let k' = knows c.run_phase-back.new.first in
    let came = err_at c.run_phase-back.result.1 _ c.in-Err.is c.run_phase-back.ensures.cut in
    let grew = subst (λ n. Grew (IsCutPhase made n (plan c.phase-item.result) (replay s k.seen)) k.seen k'.seen) c.loop-phase.invariant.3 came.grew in
    runs_cut made plan _ s c.args.phases.now c.loop-phase.phase-index c.phase-item.result (knows c.args.first.now).seen k.seen k'.seen c.loop-phase-test.true c.loop-phase.invariant.5
    (subst (λ p. Grew (IsCutPhase made (length c.args.workers.items) (plan p) (replay s k.seen)) k.seen k'.seen) c.phase-item.is grew)

pub loop-phase-preserved : goal.loop-phase-preserved
loop-phase-preserved g c =
    let h = c.args.host.now in
    let knows = g.H.Host.knows in
    let f = hand knows in
    let made = g.H.Host.makes h in
    let s = g.H.Host.opened h in
    let plan = g.H.Host.plan in
    let k = knows c.loop-phase.first in
    let k' = knows c.run_phase-back.new.first in
    let came = ok_at c.run_phase-back.result.1 _ c.in-Ok.is c.run_phase-back.ensures.whole in
    let grew = subst (λ n. Grew (IsPhase made n (plan c.phase-item.result) (replay s k.seen)) k.seen k'.seen) c.loop-phase.invariant.3 came.grew in (
      c.run_phase-back.ensures.here.0,
      c.run_phase-back.ensures.here.1,
      came.together,
      sym (length-map c.run_phase-back.result.0.items f) ∙ (came.len ∙ (length-map c.loop-phase.workers.items f ∙ c.loop-phase.invariant.3)),
      ok_at c.run_phase-back.result.1 _ c.in-Ok.is c.run_phase-back.ensures.all_go_on,
      runs_next made plan _ s c.args.phases.now c.loop-phase.phase-index c.phase-item.result (knows c.args.first.now).seen k.seen k'.seen c.loop-phase-test.true c.loop-phase.invariant.5
          (subst (λ p. Grew (IsPhase made (length c.args.workers.items) (plan p) (replay s k.seen)) k.seen k'.seen) c.phase-item.is grew),
    )

pub returns-clause-whole : goal.returns-clause-whole
returns-clause-whole g c =
    let h = c.args.host.now in
    let knows = g.H.Host.knows in
    runs_all (g.H.Host.makes h) (λ p. g.H.Host.plan p) _ (g.H.Host.opened h) c.args.phases.now c.loop-phase.phase-index (knows c.args.first.now).seen (knows c.loop-phase.first).seen (omega (arith, c.loop-phase-test.false)) c.loop-phase.invariant.5
