-- Elements.
use Rattle.std.specs.Prelude.{ℕ, false, if◌then◌else◌, List, [], Option, Some, None}
use Rattle.ws_elem.specs.Kinds.{is_file}
use Rattle.ws_elem.specs.Attached.{nothing_attached}
use Rattle.ws_elem.specs.declared.kind.Kind.{Kind}
use Rattle.ws_elem.specs.declared.element.Element.{Element}

-- an element with a kind and a node, and nothing else: no contents, closed, no description, not derived, no markers and
-- no synchronisation bytes
abbrev pub bare : Kind → ℕ → Element
bare kind node = record {
  kind = kind;
  opened = false;
  derived = false;
  node = node;
  stamp = 0;
  bytes = [];
  attached = nothing_attached;
}

-- the contents of a file; what isn't there, or is no file, has none
abbrev pub file_bytes : Option Element → Option (List ℕ)
file_bytes None = None
file_bytes (Some e) = if is_file e.kind then Some e.bytes else None
