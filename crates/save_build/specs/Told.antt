-- What a state text tells.
use Rattle.std.specs.Prelude.{◌≡◌, ℕ, List, [], ◌∷◌, Option, Some, None, IfSome}
use Rattle.std.specs.Option.{option_map}
use Rattle.std.specs.List.{AllByRecursion}
use Rattle.std.specs.FinMap.{get}
use Rattle.res_path.specs.Names.{IsName}
use Rattle.res_path.specs.Paths.{Names, IsPath}
use Rattle.ws_elem.specs.declared.element.Element.{Element}
use Rattle.ws_elem.specs.Trees.{Tree}
use Rattle.ws_durable.specs.Saved.{Saved, SavedBuilt, SavedKept}
use Rattle.save_elem.specs.Fits.{FitsElem}
use Rattle.save_elem.specs.Sound.{IsSound}
use Rattle.save_elem.specs.Telling.{told, IsNarrow}
use Rattle.save_state.specs.declared.change.Change.{Change}
use Rattle.save_state.specs.declared.records.Built.{Built}
use Rattle.save_state.specs.declared.records.Kept.{Kept}
use Rattle.save_state.specs.declared.state.State.{State}
use Rattle.save_state.specs.Changed.{changed}
use Rattle.save_state.specs.Entries.{Entries}

-- ---- trees

-- what a tree tells at each path
abbrev pub told_tree : Tree → Entries
told_tree t p = option_map told (get t p)

-- the changes lead from the base to the tree
abbrev pub Tells : Tree → List Change → Tree → Type 0
Tells base cs t = (p : Names) → told_tree t p ≡ changed (told_tree base) cs p

-- An element of a tree is sound by itself, has a spelling, and stands at a path.
pub record IsFit (p : Names) (e : Element) : Type 0 where
  pub sound : IsSound e
  pub spelled : FitsElem (told e)
  pub path : IsPath p

abbrev pub AreFit : Tree → Type 0
AreFit t = (p : Names) → IfSome (get t p) (IsFit p)

-- each element can be written
abbrev pub AllNarrow : Tree → Type 0
AllNarrow t = (p : Names) → IfSome (get t p) (λ e. IsNarrow (told e))

-- ---- lists

-- each of the first is so told by the one of the second at its place
abbrev pub AllTold : {A B : Type 0} → (B → A → Type 0) → List A → List B → Type 0
AllTold is [] [] = Unit {0}
AllTold is [] (y ∷ ys) = ⊥
AllTold is (x ∷ xs) [] = ⊥
AllTold is (x ∷ xs) (y ∷ ys) = is y x × AllTold is xs ys

-- these texts, each a name
abbrev pub AreNames : List (List ℕ) → List (List ℕ) → Type 0
AreNames texts names = (names ≡ texts) × AllByRecursion IsName names

-- ---- records

-- a built record, whose tree is told from this one
pub record IsBuiltOf (tree : Tree) (told : Built) (b : SavedBuilt) : Type 0 where
  pub project : (b.project ≡ told.project) × IsName b.project
  pub index : b.index ≡ told.index
  pub command : b.command ≡ told.command
  pub references : AreNames told.references b.references
  pub changes : Tells tree told.changes b.tree
  pub fit : AreFit b.tree

-- a kept tree, where one is told, and none else
abbrev pub IsKeptTree : Tree → Option (List Change) → Option Tree → Type 0
IsKeptTree tree None None = Unit {0}
IsKeptTree tree None (Some t) = ⊥
IsKeptTree tree (Some cs) None = ⊥
IsKeptTree tree (Some cs) (Some t) = Tells tree cs t × AreFit t

pub record IsKeptOf (tree : Tree) (told : Kept) (k : SavedKept) : Type 0 where
  pub participant : (k.participant ≡ told.participant) × IsName k.participant
  pub bytes : k.bytes ≡ told.bytes
  pub tree_told : IsKeptTree tree told.changes k.tree

-- ---- all

-- The state tells what is kept, its tree and its shelf from these.
pub record IsTold (base base_shelf : Tree) (s : State) (d : Saved) : Type 0 where
  pub next_node : d.next_node ≡ s.next_node
  pub next_stamp : d.next_stamp ≡ s.next_stamp
  pub next_marker : d.next_marker ≡ s.next_marker
  pub partners : AreNames s.partners d.partners
  pub tree_told : Tells base s.tree d.tree × AreFit d.tree
  pub shelf_told : Tells base_shelf s.shelf d.shelf × AreFit d.shelf
  pub built : AllTold (IsBuiltOf d.tree) d.built s.built
  pub kept : AllTold (IsKeptOf d.tree) d.kept s.kept
