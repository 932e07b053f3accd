use Rattle.std.proofs.Common.{sym, ◌∙◌}
use Rattle.std.specs.Map.Iter.{deref_pair}
use Rattle.std.specs.Option.{option_copied}
use Rattle.build_due.proofs.Walked.{none_left, none_further, next_entry, next_at_root}
use Rattle.build_due.proofs.sight.next_place.Goals as goal

pub returns-in_default : goal.returns-in_default
returns-in_default g c = none_left c.args.inputs.now c.args.output.now (g.T.TreeRep.tree c.args.tree.now) c.args.last.now (sym c.in_default.ensures)

pub returns-then-is_in_a_root : goal.returns-then-is_in_a_root
returns-then-is_in_a_root g c = next_entry c.args.inputs.now c.args.output.now (g.T.TreeRep.tree c.args.tree.now) c.args.last.now
    (deref_pair (c.in-Some.at, c.in-Some.element)) (sym c.in-Some.ensures)

pub returns-in_default-next_root : goal.returns-in_default-next_root
returns-in_default-next_root g c = none_further c.args.inputs.now c.args.output.now (g.T.TreeRep.tree c.args.tree.now) c.args.last.now
    (deref_pair (c.in-Some.at, c.in-Some.element)) (sym c.in-Some.ensures) (sym c.is_in_a_root.ensures ∙ c.if-is_in_a_root.false) c.in_default-next_root.ensures

pub returns : goal.returns
returns g c = next_at_root c.args.inputs.now c.args.output.now (g.T.TreeRep.tree c.args.tree.now) c.args.last.now
    (deref_pair (c.in-Some.at, c.in-Some.element)) (sym c.in-Some.ensures) (sym c.is_in_a_root.ensures ∙ c.if-is_in_a_root.false)
    c.in-Some-next_root.root.now (option_copied c.get.result) c.in-Some-next_root.ensures c.get.ensures
