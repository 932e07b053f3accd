-- What may be taken from a delta.
use Rattle.std.specs.Prelude.{◌≡◌, ◌⊎◌, Bool, true, false, ◌&&◌, ◌||◌, ◌==◌, List, [], Option, Some, None, IsSomeAnd}
use Rattle.std.specs.FinMap.{get}
use Rattle.std.specs.List.{list_any, AllByRecursion}
use Rattle.res_path.specs.Paths.{Names, is_prefix}
use Rattle.ws_elem.specs.Trees.{Tree}
use Rattle.delta_kind.specs.declared.node.DeltaNode.{DeltaNode}
use Rattle.delta_kind.specs.Flags.{is_set}
use Rattle.delta_kind.specs.Deltas.{node_with}
use Rattle.builder_api.specs.declared.handed.Handed.{Handed}
use Rattle.builder_api.specs.Edits.{Edit}
use Rattle.builder_api.specs.Places.{is_within, is_below}
use Rattle.builder_api.specs.Files.{Files, files_of}
use Rattle.builder_api.specs.Tasks.{Task, view_of}
use Rattle.builder_api.specs.Meanings.{Meaning}
use Rattle.builder_api.specs.Lawful.{IsSince}
use Rattle.std_kit.specs.Changes.{AreChanges}

-- no delta is handed, or it leads from a tree in which lay what the task made to one of which the view is
abbrev pub IsAsPromised : Meaning → Task → Option (List DeltaNode) → Files → Type 0
IsAsPromised m c None view = Unit {0}
IsAsPromised m c (Some nodes) view = (last : Tree) × (now : Tree) × (view ≡ view_of c (files_of now)) × IsSince m c nodes last now

-- something changed at or below one of the inputs, or below the output
abbrev pub touches : List Names → Names → List DeltaNode → Bool
touches inputs o nodes = list_any (λ node. is_within inputs node.path || is_below o node.path) nodes

-- a file may have gone from the node's path, as what was there went or is of another kind
abbrev pub loses : DeltaNode → Bool
loses node = node.kind == 2 || is_set 0x8000 node.flags

-- no other file of the root lies above or below the path, and nothing changed below it
pub record IsAlone (root : Names) (view : Files) (all : List DeltaNode) (p : Names) : Type 0 where
  pub inside : is_below root p ≡ true
  pub files : (q : Names) → is_below p q ≡ true → get view q ≡ None
  pub changes : (q : Names) → is_below p q ≡ true → node_with q all ≡ None
  pub above : (q : Names) → is_prefix root q ≡ true → is_below q p ≡ true → get view q ≡ None

-- below the output nothing changed, and each file that may have gone from the root stood alone
pub record IsCalm (root o : Names) (view : Files) (nodes : List DeltaNode) : Type 0 where
  pub output : AllByRecursion (λ node. is_below o node.path ≡ false) nodes
  pub losses : AllByRecursion (λ node. (is_prefix root node.path && loses node) ≡ true → IsAlone root view nodes node.path) nodes

-- a delta is handed by which nothing changed at or below the inputs, nor below the output
abbrev pub IsIdle : Handed → Type 0
IsIdle h = IsSomeAnd h.delta (λ nodes. touches h.inputs h.output nodes ≡ false)

-- the changes to the files that are made, or none where by a delta nothing changed
abbrev pub AreDue : Handed → Files → List Edit → Type 0
AreDue h made edits = AreChanges h.output h.view made edits ⊎ (IsIdle h × (edits ≡ []))
