use Rattle.std.proofs.Common.{sym, ◌∙◌}
use Rattle.sync_set.proofs.Tables.{empty_is}
use Rattle.sync_set.proofs.table.Table.is_empty.Goals as goal

pub returns : goal.returns
returns c =
    let none = empty_is c.self.inside.entries.entries in
    (λ t. sym c.self.view_is ∙ none.0 (c.is_empty.ensures.0 t), λ e. c.is_empty.ensures.1 (none.1 (c.self.view_is ∙ e)))
