-- What only the crate's own code speaks of.
use Rattle.std.specs.Prelude.{Bool, List, filter, map, Option, Some, None}
use Rattle.std.specs.Option.{option_map}
use Rattle.std.specs.FinMap.{entries, get, insert, values}
use Rattle.std.specs.List.{list_any}
use Rattle.mark_set.specs.Markers.{Marks, is_transient}
use Rattle.res_path.specs.Paths.{Names}
use Rattle.ws_elem.specs.declared.element.Element.{Element}
use Rattle.ws_elem.specs.Trees.{Tree}
use Rattle.ws_lasting.specs.Lasting.{lasting_element}

-- some of the markers are transient
abbrev pub some_transient : Marks → Bool
some_transient marks = list_any is_transient (values marks)

-- some of the element's markers are transient
abbrev pub has_transient : Element → Bool
has_transient e = some_transient e.attached.marks

-- of entries, the paths of those that have transient markers
abbrev pub paths_of : List (Names × Element) → List Names
paths_of es = map (λ e. e.0) (filter (λ e. has_transient e.1) es)

-- the tree's paths with transient markers, in path order
abbrev pub transient_paths : Tree → List Names
transient_paths t = paths_of (entries t)

-- the tree with this at p, if it is something
abbrev pub with_some : Tree → Names → Option Element → Tree
with_some t p None = t
with_some t p (Some e) = insert t p e

-- the tree, at p without transient markers
abbrev pub lasting_at : Tree → Names → Tree
lasting_at t p = with_some t p (option_map lasting_element (get t p))
