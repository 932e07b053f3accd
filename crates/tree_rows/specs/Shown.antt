-- What a row of references points to.
use Rattle.std.specs.Prelude.{Option}
use Rattle.std.specs.Option.{option_copied}
use Rattle.res_path.specs.Paths.{Names}
use Rattle.ws_elem.specs.declared.element.Element.{Element}
use Rattle.tree_rows.specs.declared.rows.Row.{Row}

abbrev pub shown : Row → Names × Option Element
shown row = (row.path.now, option_copied row.entry)
