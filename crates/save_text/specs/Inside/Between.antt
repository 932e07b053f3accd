-- The rows by which one tree differs from another.
use Rattle.std.specs.FinMap.{entries}
use Rattle.ws_elem.specs.Trees.{Tree}
use Rattle.tree_rows.specs.Rows.{Rows}
use Rattle.tree_rows.specs.Inside.Pairs.{merged, rows_in}

abbrev pub between : Tree → Tree → Rows
between a b = rows_in (merged (entries a) (entries b))
