-- Numbers that tell resources and contents apart.
use Rattle.std.specs.Prelude.{ℕ, ◌<◌, length, IfSome}
use Rattle.std.specs.FinMap.{get}
use Rattle.res_path.specs.Paths.{Names}
use Rattle.ws_elem.specs.Trees.{Tree}
use Rattle.ws_elem.specs.declared.element.Element.{Element}
use Rattle.ws_elem.specs.Stamps.{SameContents}
use Rattle.op_kind.specs.Resources.{Resources}

-- the element's numbers are below the counters that they were drawn from, and its partners are registered
pub record IsDrawn (r : Resources) (e : Element) : Type 0 where
  pub node : e.node < r.next_node
  pub stamp : e.stamp < r.next_stamp
  pub desc_stamp : e.attached.desc_stamp < r.next_stamp
  pub marks : (id : ℕ) → IfSome (get e.attached.marks id) (λ _. id < r.next_marker)
  pub syncs : (number : ℕ) → IfSome (get e.attached.syncs number) (λ _. number < length r.partners)

-- so are those of all elements
abbrev pub AllDrawn : Resources → Tree → Type 0
AllDrawn r t = (p : Names) → IfSome (get t p) (IsDrawn r)

-- a tree of these resources, now or before: its numbers are drawn, and where its files and those that are there now
-- have equal stamps they have equal contents
pub record IsKnown (r : Resources) (t : Tree) : Type 0 where
  pub drawn : AllDrawn r t
  pub tree : SameContents t r.tree
  pub shelf : SameContents t r.shelf
