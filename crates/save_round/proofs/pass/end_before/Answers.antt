use Rattle.std.proofs.Common.{◌≡◌, [], ◌∷◌, map, subst, arith}
use Rattle.save_round.specs.Firsts.{FirstsHad, by_place}
use Rattle.save_round.specs.Passes.{ending_call}
use Rattle.save_round.proofs.Called.{same_count}
use Rattle.save_round.proofs.Places.{at_head, next}
use Rattle.save_round.proofs.pass.end_before.Goals as goal

pub loop-at-init : goal.loop-at-init
loop-at-init g c = at_head (ending_call c.args.ending) (map g.P.Participant.tells c.args.all.now.items)

pub end_at-requires : goal.end_at-requires
end_at-requires g c = omega (arith, c.loop-at-test.true, c.requires, same_count g.P.Participant.tells _ c.args.all.now.items c.loop-at.all.items c.loop-at.invariant)

pub loop-at-preserved : goal.loop-at-preserved
loop-at-preserved g c = next c.loop-at.at (ending_call c.args.ending) _ _ _ c.loop-at.invariant c.end_at.ensures

pub returns : goal.returns
returns g c =
    let end : c.loop-at.at ≡ c.args.to = omega (arith, c.loop-at-test.false, c.loop-at.auto.at-end) in
    subst (λ n. FirstsHad (by_place n (ending_call c.args.ending ∷ []) [] []) (map g.P.Participant.tells c.args.all.now.items) (map g.P.Participant.tells c.loop-at.all.items)) end c.loop-at.invariant
