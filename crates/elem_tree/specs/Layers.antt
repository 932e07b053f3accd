-- A tree, and what was recorded since each mark of it.
use Rattle.std.specs.Prelude.{◌+◌, ℕ, nat_eq, if◌then◌else◌, List, [], ◌∷◌, Option, Some, None}
use Rattle.std.specs.FinMap.{FinMap, contains_key, entries, insert, len}
use Rattle.res_path.specs.Paths.{Names, path_cmp}
use Rattle.ws_elem.specs.Trees.{Tree, set_at}
use Rattle.ws_elem.specs.Rooms.{Room}
use Rattle.ws_elem.specs.declared.element.Element.{Element}

-- the entry that each path had before its first put or take
abbrev pub Befores : Type 0
Befores = FinMap path_cmp (Option Element)

-- what was recorded since a mark, up to the next one
pub record Layer : Type 0 where
  pub mark : ℕ
  pub befores : Befores

-- what contracts see of a tree with marks
pub record LayeredTree : Type 0 where
  -- the newest tree
  pub map : Tree
  -- the paths with room
  pub room : Room
  -- of each mark that isn't forgotten, the oldest first
  pub layers : List Layer

-- the tree with these entries set back
abbrev pub set_back : Tree → List (Names × Option Element) → Tree
set_back t [] = t
set_back t (e ∷ es) = set_at (set_back t es) e.0 e.1

-- the tree before what was recorded
abbrev pub undone : Tree → Befores → Tree
undone t befores = set_back t (entries befores)

-- the tree before all that these layers recorded
abbrev pub tree_before : Tree → List Layer → Tree
tree_before t [] = t
tree_before t (l ∷ ls) = undone (tree_before t ls) l.befores

-- the tree before these layers, if there are any
abbrev pub tree_of_first : Tree → List Layer → Option Tree
tree_of_first t [] = None
tree_of_first t (l ∷ ls) = Some (tree_before t (l ∷ ls))

-- the layers from the mark's own on
abbrev pub from_mark : ℕ → List Layer → List Layer
from_mark m [] = []
from_mark m (l ∷ ls) = if nat_eq m l.mark then l ∷ ls else from_mark m ls

-- the tree that was the newest one at the mark, while the mark isn't forgotten
abbrev pub tree_at : LayeredTree → ℕ → Option Tree
tree_at tree m = tree_of_first tree.map (from_mark m tree.layers)

-- how many records the layers have
abbrev pub records : List Layer → ℕ
records [] = 0
records (l ∷ ls) = len l.befores + records ls

-- x was at p before, unless p is recorded already
abbrev pub with_before : Befores → Names → Option Element → Befores
with_before befores p x = if contains_key befores p then befores else insert befores p x

-- the newest layer records that x was at p
abbrev pub noted : List Layer → Names → Option Element → List Layer
noted [] p x = []
noted (l ∷ []) p x = record l { befores = with_before l.befores p x } ∷ []
noted (l ∷ k ∷ ls) p x = l ∷ noted (k ∷ ls) p x

-- the later records, and over them the earlier ones
abbrev pub over : Befores → List (Names × Option Element) → Befores
over later [] = later
over later (e ∷ es) = insert (over later es) e.0 e.1

-- what both layers recorded, as one layer that begins with the first
abbrev pub joined : Layer → Layer → Layer
joined earlier later = record earlier { befores = over later.befores (entries earlier.befores) }

-- the mark's layer is joined to the one before it, if there is one
abbrev pub joined_into : Layer → ℕ → List Layer → List Layer
joined_into k m [] = k ∷ []
joined_into k m (l ∷ ls) = if nat_eq m l.mark then joined k l ∷ ls else k ∷ joined_into l m ls

-- the layers where the mark is forgotten: its own is joined to the one before it, and the first is left out
abbrev pub without_mark : ℕ → List Layer → List Layer
without_mark m [] = []
without_mark m (l ∷ ls) = if nat_eq m l.mark then ls else joined_into l m ls
