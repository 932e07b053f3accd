use Rattle.elem_tree.proofs.Joins.{spared_itself, spared_ready, joined_spared}
use Rattle.elem_tree.proofs.joining.join_into_earlier.Goals as goal

pub take_under-requires-clause-ready : goal.take_under-requires-clause-ready
take_under-requires-clause-ready c = spared_ready c.args.earlier c.make_slots.new.self c.make_slots.ensures.spared c.requires

pub returns-in-Ok-clause-ok : goal.returns-in-Ok-clause-ok
returns-in-Ok-clause-ok c =
    joined_spared c.args.earlier c.make_slots.new.self c.args.later c.args.later c.take_under.new.earlier c.make_slots.ensures.spared (spared_itself c.args.later) c.take_under.ensures

pub returns-in-Err-clause-err : goal.returns-in-Err-clause-err
returns-in-Err-clause-err c = (c.make_slots.ensures.spared, spared_itself c.args.later)
