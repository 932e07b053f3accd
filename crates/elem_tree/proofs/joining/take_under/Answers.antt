use Rattle.elem_tree.proofs.Joins.{popped_len, when_none, under_has, under_next, under_ends}
use Rattle.elem_tree.proofs.joining.take_under.Goals as goal

pub put_under-requires : goal.put_under-requires
put_under-requires c =
    under_has c.args.earlier.now c.args.later c.loop-path.rest c.pop.new.self c.loop-path.earlier c.loop-path.earlier (c.in-Some.path, c.in-Some.slot) c.loop-path.invariant
    (record { here = c.in-Some.ensures.first; after = c.in-Some.ensures.gone })

pub loop-path-smaller : goal.loop-path-smaller
loop-path-smaller c = popped_len c.loop-path.rest c.pop.new.self (c.in-Some.path, c.in-Some.slot) (record { here = c.in-Some.ensures.first; after = c.in-Some.ensures.gone })

pub loop-path-preserved : goal.loop-path-preserved
loop-path-preserved c =
    under_next c.args.earlier.now c.args.later c.loop-path.rest c.pop.new.self c.loop-path.earlier c.put_under.new.earlier (c.in-Some.path, c.in-Some.slot) c.loop-path.invariant
    (record { here = c.in-Some.ensures.first; after = c.in-Some.ensures.gone }) c.put_under.ensures

pub returns : goal.returns
returns c = under_ends c.args.earlier.now c.args.later c.loop-path.rest c.loop-path.earlier c.loop-path.invariant (when_none c.pop.result c.pop.ensures.none c.in_default.not-Some) c.requires.ready
