-- The delta of two trees, path by path.
use Rattle.std.specs.Prelude.{◌≡◌, ℕ, ◌+◌, List, [], ◌∷◌, ◌++◌, map, filter, find, Option, None, is_some}
use Rattle.std.specs.List.{flat_map, list_any, AllByRecursion}
use Rattle.std.specs.List.Sorted.{IsStrictlySortedBy}
use Rattle.std.specs.FinMap.{FinMap, empty, insert, get, keys}
use Rattle.res_path.specs.Paths.{Names, path_cmp, path_eq, is_prefix}
use Rattle.mark_set.specs.Deltas.{marker_deltas}
use Rattle.ws_elem.specs.declared.element.Element.{Element}
use Rattle.ws_elem.specs.Elements.{file_bytes}
use Rattle.ws_elem.specs.Trees.{Tree}
use Rattle.delta_kind.specs.declared.node.DeltaNode.{DeltaNode}
use Rattle.delta_kind.specs.Flags.{kind_of, flags_of, moved_flags, marks_of, differs, is_set, has_content, has_open, has_type, has_sync, has_markers, has_replaced, has_description, has_derived_changed}
use Rattle.delta_kind.specs.Moves.{moved, TellsPlace}

-- what became of the path p, by its entries before and after, where what is there was, and where what was there is
abbrev pub node_of : Names → Option Element → Option Element → Option Names → Option Names → DeltaNode
node_of p a b from to = record {
  path = p;
  kind = kind_of a b;
  flags = flags_of a b + moved_flags from to;
  moved_from = from;
  moved_to = to;
  markers = marker_deltas (marks_of a) (marks_of b);
}

-- what became of the path p from a to b
abbrev pub node_at : Tree → Tree → Names → DeltaNode
node_at a b p = node_of p (get a p) (get b p) (moved a b p) (moved b a p)

-- the paths of either tree that came, went or have a flag; where a node moved at a path that stays, REPLACED is one
abbrev pub changed : Tree → Tree → List Names
changed a b = filter (λ p. differs (get a p) (get b p)) (keys a ++ keys b)

-- all above p, the root first
abbrev pub above : Names → List Names
above [] = []
above (name ∷ p) = [] ∷ map (λ q. name ∷ q) (above p)

-- the set with these paths
abbrev pub put_paths : FinMap path_cmp (Unit {0}) → List Names → FinMap path_cmp (Unit {0})
put_paths s [] = s
put_paths s (p ∷ ps) = put_paths (insert s p tt) ps

-- these paths and all above them, each once and in path order
abbrev pub with_above : List Names → List Names
with_above ps = keys (put_paths empty (flat_map (λ p. above p ++ p ∷ []) ps))

-- a node for each changed path and each path above one, in path order
abbrev pub delta : Tree → Tree → List DeltaNode
delta a b = map (node_at a b) (with_above (changed a b))

-- the paths rise, so that none comes twice
abbrev pub InPathOrder : List Names → Type 0
InPathOrder = IsStrictlySortedBy path_cmp

-- the paths of nodes
abbrev pub paths_of : List DeltaNode → List Names
paths_of = map (λ node. node.path)

-- the node of the path p, if it has one
abbrev pub node_with : Names → List DeltaNode → Option DeltaNode
node_with p = find (λ node. path_eq p node.path)

-- the nodes at or below one of these paths
abbrev pub cut : List Names → List DeltaNode → List DeltaNode
cut prefixes = filter (λ node. list_any (λ prefix. is_prefix prefix node.path) prefixes)

-- each node tells where what is at its path was, and where what was there is, if elsewhere
abbrev pub TellsMoves : Tree → Tree → List DeltaNode → Type 0
TellsMoves a b = AllByRecursion (λ node. TellsPlace a b node.path node.moved_from × TellsPlace b a node.path node.moved_to)

-- a node tells what became of its path, and has each flag exactly where what the flag stands for holds
pub record TellsPath (a b : Tree) (node : DeltaNode) : Type 0 where
  pub kind : node.kind ≡ kind_of (get a node.path) (get b node.path)
  pub content : is_set 0x100 node.flags ≡ has_content (get a node.path) (get b node.path)
  pub moved_from : is_set 0x1000 node.flags ≡ is_some node.moved_from
  pub moved_to : is_set 0x2000 node.flags ≡ is_some node.moved_to
  pub opened : is_set 0x4000 node.flags ≡ has_open (get a node.path) (get b node.path)
  pub other_kind : is_set 0x8000 node.flags ≡ has_type (get a node.path) (get b node.path)
  pub syncs : is_set 0x10000 node.flags ≡ has_sync (get a node.path) (get b node.path)
  pub marks : is_set 0x20000 node.flags ≡ has_markers (get a node.path) (get b node.path)
  pub replaced : is_set 0x40000 node.flags ≡ has_replaced (get a node.path) (get b node.path)
  pub description : is_set 0x80000 node.flags ≡ has_description (get a node.path) (get b node.path)
  pub derived : is_set 0x400000 node.flags ≡ has_derived_changed (get a node.path) (get b node.path)

-- so does each of these nodes
abbrev pub TellsPaths : Tree → Tree → List DeltaNode → Type 0
TellsPaths a b = AllByRecursion (TellsPath a b)

-- a path without a node holds the same file bytes, or no file, in both trees
abbrev pub TellsContents : Tree → Tree → List DeltaNode → Type 0
TellsContents a b nodes = (p : Names) → node_with p nodes ≡ None → file_bytes (get a p) ≡ file_bytes (get b p)

-- of a whole delta: nothing changed, 0, where it has no nodes; else changed, 4
abbrev pub whole_kind : List DeltaNode → ℕ
whole_kind [] = 0
whole_kind (node ∷ nodes) = 4
