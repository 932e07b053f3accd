use Rattle.std.proofs.Common.{refl, sym, ap, ◌∙◌, subst, arith}
use Rattle.ws_turn.specs.Passes.{IsOf}
use Rattle.pass_turns.specs.Turns.{knows, CameTo}
use Rattle.pass_turns.proofs.Pairs.{pairs_none, pairs_next, pairs_length, pairs_all, holds_at}
use Rattle.pass_turns.proofs.meeting.tell_all.Goals as goal

pub loop-at-init : goal.loop-at-init
loop-at-init g c = (pairs_none _ c.args.passes.now.items, c.requires.of, refl)

pub tell-requires-clause-of : goal.tell-requires-clause-of
tell-requires-clause-of g c =
    let xs = c.args.passes.now.items in
    let ys = c.loop-at.passes.items in
    let same = pairs_length _ c.loop-at.at xs ys c.loop-at.invariant.0 in
    let is = holds_at _ (λ p. IsOf c.args.lock.now p.token) c.loop-at.at xs ys c.index_mut.result.now (omega (arith, c.loop-at-test.true, same, c.len-at-end.ensures, c.args.passes.now.ok.0)) c.loop-at.invariant.0 c.requires.all_of in
    (c.loop-at.invariant.1, subst (λ p. IsOf c.args.lock.now p.token) (sym c.index_mut.ensures.value) is)

pub tell-requires-clause-holds : goal.tell-requires-clause-holds
tell-requires-clause-holds g c = ap (λ z. z.holds) c.loop-at.invariant.2 ∙ c.requires.holds

pub loop-at-preserved : goal.loop-at-preserved
loop-at-preserved g c =
    let xs = c.args.passes.now.items in
    let ys = c.loop-at.passes.items in
    let by = g.S.Logged.by in
    let same = pairs_length _ c.loop-at.at xs ys c.loop-at.invariant.0 in
    let came = subst (λ h. CameTo by h (knows c.index_mut.result.now) (knows c.tell.new.pass)) (ap (λ z. z.seen) c.loop-at.invariant.2) c.tell.ensures.pass in
    let told = subst (λ p. IsOf c.args.lock.now c.tell.new.pass.token × CameTo by c.args.token.now.seat.me.0.seen (knows p) (knows c.tell.new.pass)) c.index_mut.ensures.value (c.tell.ensures.of.1, came) in (
      pairs_next _ c.loop-at.at xs ys c.tell.new.pass c.index_mut.result.now (omega (arith, c.loop-at-test.true, same, c.len-at-end.ensures, c.args.passes.now.ok.0)) told c.loop-at.invariant.0,
      c.tell.ensures.of.0,
      c.tell.ensures.token ∙ c.loop-at.invariant.2,
    )

pub returns-clause-passes : goal.returns-clause-passes
returns-clause-passes g c =
    pairs_all _ c.loop-at.at c.args.passes.now.items c.loop-at.passes.items (omega (arith, c.loop-at-test.false, c.len-at-end.ensures, c.args.passes.now.ok.0)) c.loop-at.invariant.0
