use Rattle.elem_tree.proofs.Joins.{popped_len, when_none, over_has, over_next, over_ends}
use Rattle.elem_tree.proofs.joining.take_over.Goals as goal

pub put_over-requires : goal.put_over-requires
put_over-requires c =
    over_has c.args.earlier c.args.later.now c.loop-path.rest c.pop.new.self c.loop-path.later c.loop-path.later (c.in-Some.path, c.in-Some.slot) c.loop-path.invariant
    (record { here = c.in-Some.ensures.first; after = c.in-Some.ensures.gone })

pub loop-path-smaller : goal.loop-path-smaller
loop-path-smaller c = popped_len c.loop-path.rest c.pop.new.self (c.in-Some.path, c.in-Some.slot) (record { here = c.in-Some.ensures.first; after = c.in-Some.ensures.gone })

pub loop-path-preserved : goal.loop-path-preserved
loop-path-preserved c =
    over_next c.args.earlier c.args.later.now c.loop-path.rest c.pop.new.self c.loop-path.later c.put_over.new.later (c.in-Some.path, c.in-Some.slot) c.loop-path.invariant
    (record { here = c.in-Some.ensures.first; after = c.in-Some.ensures.gone }) c.put_over.ensures

pub returns : goal.returns
returns c = over_ends c.args.earlier c.args.later.now c.loop-path.rest c.loop-path.later c.loop-path.invariant (when_none c.pop.result c.pop.ensures.none c.in_default.not-Some)
