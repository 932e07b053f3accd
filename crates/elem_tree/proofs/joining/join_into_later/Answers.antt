use Rattle.elem_tree.proofs.Joins.{spared_itself, joined_spared}
use Rattle.elem_tree.proofs.joining.join_into_later.Goals as goal

pub returns-in-Ok-clause-ok : goal.returns-in-Ok-clause-ok
returns-in-Ok-clause-ok c =
    joined_spared c.args.earlier c.args.earlier c.args.later c.make_slots.new.self c.take_over.new.later (spared_itself c.args.earlier) c.make_slots.ensures.spared c.take_over.ensures

pub returns-in-Err-clause-err : goal.returns-in-Err-clause-err
returns-in-Err-clause-err c = (spared_itself c.args.earlier, c.make_slots.ensures.spared)
