use Rattle.std.proofs.Common.{◌≤◌, Err, map, subst, sym, ap, refl, ◌∙◌, arith}
use Rattle.std.proofs.lemmas.List.{length-map}
use Rattle.save_round.proofs.Called.{same_count, named_at}
use Rattle.save_round.proofs.Asked.{AskedSoFar, asked_none, asked_next, asked_all, went_well, went_wrong, marked_if_some, marked_if_failed}
use Rattle.save_round.proofs.Stops.{asking_stopped_at}
use Rattle.save_round.proofs.pass.ask_each.Goals as goal

pub loop-at-init : goal.loop-at-init
loop-at-init g c =
    let all = map g.P.Participant.tells c.args.all.now.items in
    subst (λ kept. AskedSoFar c.args.kind 0 kept all all) (sym c.new-states.ensures.items) (asked_none c.args.kind all)

pub ask_at-requires : goal.ask_at-requires
ask_at-requires g c =
    omega (arith, c.loop-at-test.true, c.len-at-end.ensures, c.args.all.now.ok.0, same_count g.P.Participant.tells _ c.args.all.now.items c.loop-at.all.items c.loop-at.invariant.calls)

pub index-requires : goal.index-requires
index-requires g c =
    omega (arith, c.loop-at-test.true, c.len-at-end.ensures, c.args.all.now.ok.0, c.ask_at.new.all.ok.0, same_count g.P.Participant.tells _ c.args.all.now.items c.loop-at.all.items c.loop-at.invariant.calls, same_count g.P.Participant.tells _ c.loop-at.all.items c.ask_at.new.all.items c.in-Ok.ensures.called)

pub returns-in-Err-clause-stopped : goal.returns-in-Err-clause-stopped
returns-in-Err-clause-stopped g c = asking_stopped_at c.args.kind _ _ _ _ _ _ c.loop-at.invariant c.in-Err.ensures.called (marked_if_failed c.in-Err.fault _ c.in-Err.ensures.first) (λ is. (ap Err is, c.in-Err.ensures.failed (ap Err is)))

pub returns-then-is_err-clause-stopped : goal.returns-then-is_err-clause-stopped
returns-then-is_err-clause-stopped g c =
    asking_stopped_at c.args.kind _ _ _ _ _ _ c.loop-at.invariant c.in-Ok.ensures.called
    (marked_if_some c.in-Ok.answered _ c.in-Ok.ensures.first (c.keep.ensures.none (went_wrong c.keep.result (sym c.is_err.ensures.value ∙ c.if-is_err.true)))) (λ is. cc)

pub loop-at-preserved : goal.loop-at-preserved
loop-at-preserved g c =
    asked_next c.args.kind c.loop-at.at _ _ c.in-Ok.answered (g.P.Participant.tells c.index.result.now).named _ _ _ c.loop-at.invariant c.in-Ok.ensures.called c.in-Ok.ensures.first
    (named_at g.P.Participant.tells c.ask_at.new.all.items c.loop-at.at c.index.result.now (g.P.Participant.tells c.index.result.now).named
    (omega (arith, c.loop-at-test.true, c.len-at-end.ensures, c.args.all.now.ok.0, same_count g.P.Participant.tells _ c.args.all.now.items c.loop-at.all.items c.loop-at.invariant.calls, same_count g.P.Participant.tells _ c.loop-at.all.items c.ask_at.new.all.items c.in-Ok.ensures.called)) c.index.ensures refl)
    (went_well c.keep.result _ (sym c.is_err.ensures.value ∙ c.if-is_err.false) c.keep.ensures.kept)

pub returns-clause-answered : goal.returns-clause-answered
returns-clause-answered g c =
    asked_all c.args.kind c.loop-at.at _ _ _ (subst (λ n. n ≤ c.loop-at.at) (sym (length-map c.args.all.now.items g.P.Participant.tells)) (omega (arith, c.loop-at-test.false, c.len-at-end.ensures, c.args.all.now.ok.0))) c.loop-at.invariant
