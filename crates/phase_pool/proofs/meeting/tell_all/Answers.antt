use Rattle.std.proofs.Common.{◌∙◌, ◌<◌, length, refl, sym, ap, subst, arith}
use Rattle.run_order.specs.Lists.{Begins}
use Rattle.phase_pool.specs.Passes.{Known}
use Rattle.phase_pool.specs.Workers.{Hand, hand}
use Rattle.phase_pool.specs.Inside.Meeting.{HasSeen}
use Rattle.phase_pool.proofs.Pairs.{all_at, image_at, to_all, to_len, to_next, to_none, to_same}
use Rattle.phase_pool.proofs.meeting.tell_all.Goals as goal

pub loop-at-init : goal.loop-at-init
loop-at-init g c = (to_none _ c.args.workers.now.items, c.requires.here, refl)

pub tell-requires-clause-here : goal.tell-requires-clause-here
tell-requires-clause-here g c =
    let xs = c.args.workers.now.items in
    let ys = c.loop-at.workers.items in
    let e = c.index_mut.result.now in
    let same = to_len _ c.loop-at.at xs ys c.loop-at.invariant.0 in
    let is = to_same _ c.loop-at.at xs ys e (omega (arith, c.loop-at-test.true, same, c.len-at-end.ensures, c.args.workers.now.ok.0)) c.loop-at.invariant.0 in (
      c.loop-at.invariant.1,
      subst (λ w. g.H.Host.here c.args.host.now w.pass) (sym (c.index_mut.ensures.value ∙ is))
          (all_at (λ w. g.H.Host.here c.args.host.now w.pass) xs c.loop-at.at e (omega (arith, c.loop-at-test.true, c.len-at-end.ensures, c.args.workers.now.ok.0)) c.requires.workers),
    )

pub tell-requires-clause-begins : goal.tell-requires-clause-begins
tell-requires-clause-begins g c =
    let knows = g.H.Host.knows in
    let xs = c.args.workers.now.items in
    let ys = c.loop-at.workers.items in
    let e = c.index_mut.result.now in
    let same = to_len _ c.loop-at.at xs ys c.loop-at.invariant.0 in
    let is = to_same _ c.loop-at.at xs ys e (omega (arith, c.loop-at-test.true, same, c.len-at-end.ensures, c.args.workers.now.ok.0)) c.loop-at.invariant.0 in
    subst (λ k. Begins (knows e.pass).seen k.seen) (sym c.loop-at.invariant.2)
    (subst (λ w. Begins (knows w.pass).seen (knows c.args.first.now).seen) (sym (c.index_mut.ensures.value ∙ is))
    (image_at (λ (v : Hand). Begins v.known.seen (knows c.args.first.now).seen) (hand knows) xs c.loop-at.at e (omega (arith, c.loop-at-test.true, c.len-at-end.ensures, c.args.workers.now.ok.0)) c.requires.begin))

pub loop-at-preserved : goal.loop-at-preserved
loop-at-preserved g c =
    let knows = g.H.Host.knows in
    let xs = c.args.workers.now.items in
    let ys = c.loop-at.workers.items in
    let e = c.index_mut.result.now in
    let same = to_len _ c.loop-at.at xs ys c.loop-at.invariant.0 in
    let there : c.loop-at.at < length ys = omega (arith, c.loop-at-test.true, same, c.len-at-end.ensures, c.args.workers.now.ok.0) in
    let told = subst (λ h. HasSeen h (hand knows e) (hand knows c.tell.new.worker)) (ap (λ (k : Known). k.seen) c.loop-at.invariant.2) c.tell.ensures.worker in
    let is = subst (λ v. g.H.Host.here c.args.host.now c.tell.new.worker.pass × HasSeen (knows c.args.first.now).seen (hand knows v) (hand knows c.tell.new.worker)) c.index_mut.ensures.value (c.tell.ensures.here.1, told) in
    (to_next _ c.loop-at.at xs ys c.tell.new.worker e there is c.loop-at.invariant.0, c.tell.ensures.here.0, c.tell.ensures.first ∙ c.loop-at.invariant.2)

pub returns-clause-workers : goal.returns-clause-workers
returns-clause-workers g c = to_all _ c.loop-at.at c.args.workers.now.items c.loop-at.workers.items (omega (arith, c.loop-at-test.false, c.len-at-end.ensures, c.args.workers.now.ok.0)) c.loop-at.invariant.0
