use Rattle.std.proofs.Common.{◌+◌, inr, refl, sym, arith, subst}
use Rattle.std.specs.List.{flat_map}
use Rattle.std.proofs.lemmas.Result.{err_from_is_err_and}
use Rattle.build_laws.specs.Builds.{items_of}
use Rattle.build_run.specs.Ends.{RoundCame}
use Rattle.build_run.proofs.Knots.{Stirred, knot_settled, knot_goes_on, knot_halts}
use Rattle.build_run.proofs.Loops.{still_described}
use Rattle.build_run.proofs.building.build_knot.Goals as goal

pub build_round-requires-clause-described : goal.build_round-requires-clause-described
build_round-requires-clause-described g c =
    let i = c.loop-round.invariant.0 in
    still_described g.H.Told.Meanings.meaning (g.H.Host.book c.args.host.now) _ (flat_map (λ r. r) i.rounds) c.args.projects.now i.ran c.requires.described

pub returns-in_err-build_round-clause-halted : goal.returns-in_err-build_round-clause-halted
returns-in_err-build_round-clause-halted g c =
    let p = err_from_is_err_and c.from_residual.result c.from_residual.ensures.1 in
    rw (p.1, p.2) (knot_halts g.H.Told.Meanings.meaning (g.H.Host.book c.args.host.now) _ _ c.args.kind c.loop-round.asked (items_of c.args.projects.now) c.args.knot.now c.loop-round._round _
    c.loop-round.invariant.0 c.loop-round-test.true c.in_err-build_round.ensures.halted)

pub returns-in_err-build_round-clause-stays : goal.returns-in_err-build_round-clause-stays
returns-in_err-build_round-clause-stays g c = g.H.Host.stays_on _ _ _ c.loop-round.invariant.1 c.build_round.ensures.stays

pub returns-then-not-branch-clause-stays : goal.returns-then-not-branch-clause-stays
returns-then-not-branch-clause-stays g c = g.H.Host.stays_on _ _ _ c.loop-round.invariant.1 c.build_round.ensures.stays

pub returns-then-not-branch-clause-built : goal.returns-then-not-branch-clause-built
returns-then-not-branch-clause-built g c =
    knot_settled g.H.Told.Meanings.meaning (g.H.Host.book c.args.host.now) _ _ c.args.kind c.loop-round.asked (items_of c.args.projects.now) c.loop-round._round c.loop-round.invariant.0 c.loop-round-test.true
    (subst (λ t. RoundCame g.H.Told.Meanings.meaning (g.H.Host.book c.loop-round.host) c.loop-round.asked (items_of c.args.projects.now) t (g.H.Host.book c.build_round.new.host)) c.if-not-branch.true c.in_ok-build_round.ensures.came)

pub loop-round-preserved : goal.loop-round-preserved
loop-round-preserved g c = (
  subst (λ k. Stirred g.H.Told.Meanings.meaning (g.H.Host.book c.args.host.now) c.args.kind (items_of c.args.projects.now) (c.loop-round._round + 1) k (g.H.Host.book c.build_round.new.host)) (sym c.later-asked.ensures)
      (knot_goes_on g.H.Told.Meanings.meaning (g.H.Host.book c.args.host.now) _ _ c.args.kind c.loop-round.asked (items_of c.args.projects.now) c.loop-round._round c.loop-round.invariant.0
      (subst (λ t. RoundCame g.H.Told.Meanings.meaning (g.H.Host.book c.loop-round.host) c.loop-round.asked (items_of c.args.projects.now) t (g.H.Host.book c.build_round.new.host)) c.if-not-branch.false c.in_ok-build_round.ensures.came)),
  g.H.Host.stays_on _ _ _ c.loop-round.invariant.1 c.build_round.ensures.stays,
)

pub returns-clause-halted : goal.returns-clause-halted
returns-clause-halted g c =
    let i = c.loop-round.invariant.0 in record {
      rounds = i.rounds;
      book = g.H.Host.book c.loop-round.host;
      stirs = i.stirs;
      ran = i.ran;
      ends = inr ((let e = i.many in omega (arith, c.loop-round.auto)), refl, c.unsettled.ensures);
    }
