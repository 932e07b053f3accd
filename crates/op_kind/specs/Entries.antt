-- Elements with their paths.
use Rattle.std.specs.Prelude.{List}
use Rattle.res_path.specs.Paths.{Names}
use Rattle.ws_elem.specs.declared.element.Element.{Element}

abbrev pub Entries : Type 0
Entries = List (Names × Element)
