use Rattle.std.proofs.Common.{length, map, ap, arith}
use Rattle.std.specs.Option.{option_copied}
use Rattle.save_round.specs.Restoring.{kept_for_each}
use Rattle.ws_opening.proofs.Told.{told_all, told_next}
use Rattle.ws_opening.proofs.restoring.restored_of.Goals as goal

pub loop-at-preserved : goal.loop-at-preserved
loop-at-preserved g c = told_next (kept_for_each c.args.kept.now (map (λ p. g.P.Participant.tells p) c.args.parts.now)) c.loop-at.at (option_copied c.kept_for.result) _ _ c.kept_for.ensures c.loop-at.invariant c.in_ok-put.ensures

pub returns : goal.returns
returns g c = told_all (λ p. g.P.Participant.tells p) c.args.kept.now c.args.parts.now c.loop-at.at _ (omega (arith, c.loop-at-test.false, ap length c.as_slice-at-end.ensures)) c.loop-at.invariant
