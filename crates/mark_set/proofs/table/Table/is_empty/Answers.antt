use Rattle.std.proofs.Common.{sym, ◌∙◌}
use Rattle.std.specs.Cmp.{nat_cmp_total}
use Rattle.std.specs.FinMap.{nat_cmp-IsAntisymmetric}
use Rattle.mark_set.proofs.Maps.{empty_is}
use Rattle.mark_set.proofs.table.Table.is_empty.Goals as goal

pub returns : goal.returns
returns c =
    let none = empty_is nat_cmp_total nat_cmp-IsAntisymmetric c.self.inside.markers.entries in
    (λ t. sym c.self.view_is ∙ none.0 (c.is_empty.ensures.0 t), λ e. c.is_empty.ensures.1 (none.1 (c.self.view_is ∙ e)))
