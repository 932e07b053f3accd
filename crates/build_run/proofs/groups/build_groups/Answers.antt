use Rattle.std.proofs.lemmas.Result.{err_from_is_err_and}
use Rattle.build_run.proofs.Nexts.{all_left, none_left, next_of, one_less, shorter, all_halt, no_rest, some_rest}
use Rattle.build_run.proofs.groups.build_groups.Goals as goal

pub loop-rest-init : goal.loop-rest-init
loop-rest-init g c = (all_left g.H.Told.Meanings.meaning _ c.args.kind c.args.order.now c.args.knots.now c.requires.planned.0 c.requires.planned.1, g.H.Host.stays_itself _)

pub build_next-requires-clause-planned : goal.build_next-requires-clause-planned
build_next-requires-clause-planned g c =
    let n = next_of g.H.Told.Meanings.meaning _ c.args.kind c.args.order.now c.args.knots.now _ _ _ c.loop-rest.invariant.0 (some_rest _ _ c.is_empty.ensures c.loop-rest-test.true) in
    (n.group, n.groups, n.left)

pub returns-in_err-left-clause-halted : goal.returns-in_err-left-clause-halted
returns-in_err-left-clause-halted g c =
    let p = err_from_is_err_and c.from_residual.result c.from_residual.ensures.1 in
    let n = next_of g.H.Told.Meanings.meaning _ c.args.kind c.args.order.now c.args.knots.now _ _ _ c.loop-rest.invariant.0 (some_rest _ _ c.is_empty.ensures c.loop-rest-test.true) in
    rw (p.1, p.2) (all_halt g.H.Told.Meanings.meaning _ c.args.kind c.args.order.now c.args.knots.now _ _ _ n _ _ (c.in_err-left.ensures.halted n.group n.groups n.left))

pub returns-in_err-left-clause-stays : goal.returns-in_err-left-clause-stays
returns-in_err-left-clause-stays g c = g.H.Host.stays_on _ _ _ c.loop-rest.invariant.1 c.build_next.ensures.stays

pub loop-rest-smaller : goal.loop-rest-smaller
loop-rest-smaller g c =
    let n = next_of g.H.Told.Meanings.meaning _ c.args.kind c.args.order.now c.args.knots.now _ _ _ c.loop-rest.invariant.0 (some_rest _ _ c.is_empty.ensures c.loop-rest-test.true) in
    let came = c.in_ok-left.ensures.came n.group n.groups n.left in
    shorter _ _ _ _ n.group n.groups _ _ n.left came.1

pub loop-rest-preserved : goal.loop-rest-preserved
loop-rest-preserved g c =
    let n = next_of g.H.Told.Meanings.meaning _ c.args.kind c.args.order.now c.args.knots.now _ _ _ c.loop-rest.invariant.0 (some_rest _ _ c.is_empty.ensures c.loop-rest-test.true) in
    let came = c.in_ok-left.ensures.came n.group n.groups n.left in
    (one_less g.H.Told.Meanings.meaning _ c.args.kind c.args.order.now c.args.knots.now _ _ _ n _ _ _ came.0 came.1, g.H.Host.stays_on _ _ _ c.loop-rest.invariant.1 c.build_next.ensures.stays)

pub returns-clause-came : goal.returns-clause-came
returns-clause-came g c = none_left g.H.Told.Meanings.meaning _ c.args.kind c.args.order.now c.args.knots.now _ _ _ c.loop-rest.invariant.0 (no_rest _ _ c.is_empty.ensures c.loop-rest-test.false)
