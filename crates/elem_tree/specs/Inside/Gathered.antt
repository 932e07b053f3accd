-- What became of each path that some layers noted.
use Rattle.std.specs.Prelude.{◌≡◌, is_some, if◌then◌else◌, List, [], ◌∷◌, Option, Some, None}
use Rattle.std.specs.FinMap.{contains_key, get, insert}
use Rattle.res_path.specs.Paths.{Names}
use Rattle.ws_elem.specs.Trees.{Tree}
use Rattle.ws_elem.specs.declared.element.Element.{Element}
use Rattle.layer_log.specs.declared.change.Change.{Change}
use Rattle.layer_log.specs.Records.{Records}
use Rattle.elem_tree.specs.Layers.{Befores, Layer}

-- the change that is there, or else that from the entry noted to the newest one
abbrev pub gathered : Option Change → Option (Option Element) → Option Element → Option Change
gathered (Some r) x y = Some r
gathered None None y = None
gathered None (Some x) y = Some (record { before = x; after = y })

abbrev pub with_change : Records → Names → Option (Option Element) → Option Element → Records
with_change c p None y = c
with_change c p (Some x) y = insert c p (record { before = x; after = y })

abbrev pub gathered_at : Records → Names → Option (Option Element) → Option Element → Records
gathered_at c p x y = if contains_key c p then c else with_change c p x y

-- each path that is recorded and had no change has one
abbrev pub Gathers : Records → Records → Befores → Tree → Type 0
Gathers c d befores t = (p : Names) → get d p ≡ gathered (get c p) (get befores p) (get t p)

-- the entry before the first of the layers that recorded p
abbrev pub first_in : List Layer → Names → Option (Option Element)
first_in [] p = None
first_in (l ∷ ls) p = if is_some (get l.befores p) then get l.befores p else first_in ls p

abbrev pub GathersAll : Records → Records → List Layer → Tree → Type 0
GathersAll c d ls t = (p : Names) → get d p ≡ gathered (get c p) (first_in ls p) (get t p)
