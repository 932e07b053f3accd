-- What a state that is kept must be besides.
use Rattle.std.specs.Prelude.{◌≢◌, ℕ, ◌<◌, List, [], ◌∷◌, length, map, IfSome}
use denote.Ref.{Bor}
use Rattle.std.specs.List.{AllByRecursion}
use Rattle.std.specs.FinMap.{get, entries, values}
use Rattle.res_path.specs.Paths.{Names}
use Rattle.ws_elem.specs.declared.element.Element.{Element}
use Rattle.ws_elem.specs.declared.elem_map.ElemMap.{ElemMap}
use Rattle.ws_elem.specs.Trees.{Tree}
use Rattle.ws_durable.specs.Saved.{Saved}

-- what holds of each element of a tree
abbrev pub Each : (Names → Element → Type 0) → Tree → Type 0
Each is t = (p : Names) → IfSome (get t p) (is p)

-- the numbers that are drawn next, and how many partners there are
pub record Counters : Type 0 where
  pub node : ℕ
  pub stamp : ℕ
  pub marker : ℕ
  pub partners : ℕ

abbrev pub counters_of : Saved → Counters
counters_of d = record { node = d.next_node; stamp = d.next_stamp; marker = d.next_marker; partners = length d.partners }

-- Every number of an element was drawn, and its partners are registered.
pub record IsBelow (c : Counters) (e : Element) : Type 0 where
  pub node : e.node < c.node
  pub stamp : e.stamp < c.stamp
  pub desc_stamp : e.attached.desc_stamp < c.stamp
  pub marks : AllByRecursion (λ m. m.id < c.marker) (values e.attached.marks)
  pub syncs : AllByRecursion (λ s. s.0 < c.partners) (entries e.attached.syncs)

-- no two of them are equal
abbrev pub AllDiffer : {X : Type 0} → List X → Type 0
AllDiffer [] = Unit {0}
AllDiffer (x ∷ xs) = AllByRecursion (λ y. y ≢ x) xs × AllDiffer xs

-- the node numbers of a tree
abbrev pub nodes_of : Tree → List ℕ
nodes_of t = map (λ e. e.1.node) (entries t)

-- the trees that these refer to
abbrev pub maps_at : List (Bor ElemMap) → List Tree
maps_at = map (λ m. m.now.map)
