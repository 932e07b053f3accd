use Rattle.ws_durable.specs.Saved.{saved}
use Rattle.save_check.proofs.Validity.{sayable_where}
use Rattle.save_check.proofs.states.is_sayable.Goals as goal

pub returns : goal.returns
returns c =
    sayable_where (saved c.args.durable.now) c.are_names_sayable-partners.result c.in_ok-tree.tree c.in_ok-shelf.shelf c.in_ok-built.built c.in_ok-kept.kept c.hold_all.result c.requires c.hold_all.ensures
    (rw c.as_slice.ensures at c.are_names_sayable-partners.ensures) c.in_ok-tree.ensures c.in_ok-shelf.ensures (rw c.as_slice-2.ensures at c.in_ok-built.ensures) (rw c.as_slice-3.ensures at c.in_ok-kept.ensures)
