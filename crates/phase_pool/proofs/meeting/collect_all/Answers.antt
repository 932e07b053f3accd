use Rattle.std.proofs.Common.{◌≡◌, ◌∙◌, ◌<◌, length, sym, subst, map, arith}
use Rattle.std.proofs.lemmas.List.{take_all}
use Rattle.phase_pool.specs.Passes.{Meets}
use Rattle.phase_pool.specs.Workers.{hand}
use Rattle.phase_pool.specs.Inside.Meeting.{Collects}
use Rattle.phase_pool.proofs.Pairs.{all_at, to_all, to_len, to_next, to_none, to_same}
use Rattle.phase_pool.proofs.Meetings.{collects_next, collects_none}
use Rattle.phase_pool.proofs.meeting.collect_all.Goals as goal

pub loop-at-init : goal.loop-at-init
loop-at-init g c = (collects_none (g.H.Host.knows c.args.first.now), to_none _ c.args.workers.now.items, c.requires.here)

pub collect-requires : goal.collect-requires
collect-requires g c =
    let xs = c.args.workers.now.items in
    let ys = c.loop-at.workers.items in
    let e = c.index_mut.result.now in
    let same = to_len _ c.loop-at.at xs ys c.loop-at.invariant.1 in
    let is = to_same _ c.loop-at.at xs ys e (omega (arith, c.loop-at-test.true, same, c.len-at-end.ensures, c.args.workers.now.ok.0)) c.loop-at.invariant.1 in (
      c.loop-at.invariant.2,
      subst (λ w. g.H.Host.here c.args.host.now w.pass) (sym (c.index_mut.ensures.value ∙ is))
          (all_at (λ w. g.H.Host.here c.args.host.now w.pass) xs c.loop-at.at e (omega (arith, c.loop-at-test.true, c.len-at-end.ensures, c.args.workers.now.ok.0)) c.requires.workers),
    )

pub loop-at-preserved : goal.loop-at-preserved
loop-at-preserved g c =
    let knows = g.H.Host.knows in
    let xs = c.args.workers.now.items in
    let ys = c.loop-at.workers.items in
    let e = c.index_mut.result.now in
    let same = to_len _ c.loop-at.at xs ys c.loop-at.invariant.1 in
    let there : c.loop-at.at < length ys = omega (arith, c.loop-at-test.true, same, c.len-at-end.ensures, c.args.workers.now.ok.0) in
    let is = to_same _ c.loop-at.at xs ys e there c.loop-at.invariant.1 in
    let meets = subst (λ w. Meets (knows c.loop-at.first) (knows w.pass) (knows c.collect.new.first)) (c.index_mut.ensures.value ∙ is) c.collect.ensures.meets in
    let stays = subst (λ v. g.H.Host.here c.args.host.now c.collect.new.worker.pass × (hand knows c.collect.new.worker ≡ hand knows v)) c.index_mut.ensures.value (c.collect.ensures.here.1, c.collect.ensures.worker) in (
      collects_next (hand knows) (knows c.args.first.now) (knows c.loop-at.first) (knows c.collect.new.first) xs c.loop-at.at e (omega (arith, c.loop-at-test.true, c.len-at-end.ensures, c.args.workers.now.ok.0)) c.loop-at.invariant.0 meets,
      to_next _ c.loop-at.at xs ys c.collect.new.worker e there stays c.loop-at.invariant.1,
      c.collect.ensures.here.0,
    )

pub returns-clause-first : goal.returns-clause-first
returns-clause-first g c =
    let knows = g.H.Host.knows in
    subst (λ l. Collects (knows c.args.first.now) (map (hand knows) l) (knows c.loop-at.first))
    (take_all c.loop-at.at c.args.workers.now.items (omega (arith, c.loop-at-test.false, c.len-at-end.ensures, c.args.workers.now.ok.0))) c.loop-at.invariant.0

pub returns-clause-workers : goal.returns-clause-workers
returns-clause-workers g c = to_all _ c.loop-at.at c.args.workers.now.items c.loop-at.workers.items (omega (arith, c.loop-at-test.false, c.len-at-end.ensures, c.args.workers.now.ok.0)) c.loop-at.invariant.1
