use Rattle.std.specs.Cmp.{nat_eq_equiv}
use Rattle.std.proofs.lemmas.Map.Lookups.{hash_map_eq-Decides}
use Rattle.mark_set.specs.Markers.{same_marker-Decides}
use Rattle.mark_set.proofs.Ids.{same_tables}
use Rattle.mark_set.proofs.table.Table.is_same.Goals as goal

pub returns : goal.returns
returns c =
    let one = c.self.inside.markers in
    let two = c.other.inside.markers in
    rw (← c.self.view_is, ← c.other.view_is)
    (same_tables one.entries two.entries c.eq.result (hash_map_eq-Decides nat_eq_equiv same_marker-Decides one two c.eq.result c.eq.ensures))
