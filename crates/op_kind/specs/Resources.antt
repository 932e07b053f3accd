-- What operations see and change.
use Rattle.std.specs.Prelude.{ℕ}
use Rattle.ws_elem.specs.Trees.{Tree}
use Rattle.op_kind.specs.declared.side.Side.{Side}
use Rattle.op_kind.specs.Partners.{Partners}

-- the resources of a workspace: those that are there, the members of closed projects, the counters, and the names of the
-- synchronisation partners
pub record Resources : Type 0 where
  pub tree : Tree
  pub shelf : Tree
  pub next_node : ℕ
  pub next_stamp : ℕ
  pub next_marker : ℕ
  pub partners : Partners

-- a tree, with what stands beside it
abbrev pub resources : Tree → Side → Resources
resources tree side = record {
  tree = tree;
  shelf = side.shelf.map;
  next_node = side.next_node;
  next_stamp = side.next_stamp;
  next_marker = side.next_marker;
  partners = side.partners;
}
