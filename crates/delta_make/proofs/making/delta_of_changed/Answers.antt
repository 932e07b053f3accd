use Rattle.std.proofs.Common.{map, sym, ap, subst, ◌∙◌}
use Rattle.delta_kind.specs.Deltas.{InPathOrder}
use Rattle.delta_kind.specs.Rows.{shown, row_paths}
use Rattle.delta_make.proofs.Changed.{changed_order}
use Rattle.delta_make.proofs.making.delta_of_changed.Goals as goal

pub delta_of_rows-requires : goal.delta_of_rows-requires
delta_of_rows-requires c = subst (λ rows. InPathOrder (row_paths rows)) (sym (ap (map shown) c.as_slice.ensures.value ∙ c.in_ok-rows.ensures)) (changed_order c.args.changes.now)
