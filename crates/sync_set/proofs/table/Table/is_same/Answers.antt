use Rattle.std.proofs.Common.{sym, ap, ◌∙◌}
use Rattle.std.specs.Cmp.{unsigned_Decides}
use Rattle.std.specs.FinMap.{len}
use Rattle.std.proofs.lemmas.Slice.Eq.{bytes_eq-Decides}
use Rattle.std.proofs.lemmas.Map.Lookups.{btree_map_eq-Decides}
use Rattle.sync_set.proofs.Tables.{same_is, len_is}
use Rattle.sync_set.proofs.table.Table.is_same.Goals as goal

pub returns : goal.returns
returns c =
    let one = c.self.inside.entries in
    let two = c.other.inside.entries in
    rw (← c.self.view_is, ← c.other.view_is)
    (same_is one.entries two.entries c.eq.result c.len.ensures.ordered c.len-2.ensures.ordered (btree_map_eq-Decides unsigned_Decides bytes_eq-Decides one two c.eq.result c.eq.ensures))

pub returns-then-len : goal.returns-then-len
returns-then-len c = (
  λ h. cc,
  λ e. let maps = c.self.view_is ∙ e ∙ sym c.other.view_is in
      absurd (c.if-len.true
      (c.len.ensures.len ∙ sym (len_is c.self.inside.entries.entries c.len.ensures.ordered) ∙ ap len maps
      ∙ len_is c.other.inside.entries.entries c.len-2.ensures.ordered ∙ sym c.len-2.ensures.len)),
)
