-- How a tree is walked and cut.
use Rattle.std.specs.Prelude.{if◌then◌else◌, List, [], ◌∷◌}
use Rattle.std.specs.FinMap.{remove}
use Rattle.res_path.specs.Paths.{Names, is_prefix}
use Rattle.ws_elem.specs.declared.element.Element.{Element}
use Rattle.ws_elem.specs.Trees.{Tree}

-- the paths of the first entries, as long as they are at or below p
abbrev pub first_below : Names → List (Names × Element) → List Names
first_below p [] = []
first_below p (e ∷ es) = if is_prefix p e.0 then e.0 ∷ first_below p es else []

-- the tree without what is at these paths
abbrev pub without_all : Tree → List Names → Tree
without_all t [] = t
without_all t (p ∷ ps) = without_all (remove t p) ps
