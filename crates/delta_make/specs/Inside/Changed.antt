-- Recorded changes, as rows.
use Rattle.std.specs.Prelude.{filter, map}
use Rattle.std.specs.FinMap.{entries}
use Rattle.res_path.specs.Paths.{Names}
use Rattle.layer_log.specs.declared.change.Change.{Change}
use Rattle.layer_log.specs.Records.{Records}
use Rattle.delta_kind.specs.Flags.{differs}
use Rattle.delta_kind.specs.Rows.{Sides, Rows}

abbrev pub row_of : Names × Change → Names × Sides
row_of e = (e.0, (e.1.before, e.1.after))

-- the rows of the changes whose path came, went or has a flag, in path order
abbrev pub changed_rows : Records → Rows
changed_rows c = filter (λ row. differs row.1.0 row.1.1) (map row_of (entries c))
