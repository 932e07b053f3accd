-- What a workspace keeps, the room of its trees aside.
use Rattle.std.specs.Prelude.{ℕ, List, [], ◌∷◌, ◌++◌, map, Option, Some, None}
use Rattle.std.specs.Option.{option_map}
use Rattle.ws_elem.specs.Trees.{Tree}
use Rattle.ws_durable.specs.declared.built.Built.{Built}
use Rattle.ws_durable.specs.declared.kept.Kept.{Kept}
use Rattle.ws_durable.specs.declared.durable.Durable.{Durable}

pub record SavedBuilt : Type 0 where
  pub project : List ℕ
  pub index : ℕ
  pub command : List ℕ
  pub references : List (List ℕ)
  pub tree : Tree

pub record SavedKept : Type 0 where
  pub participant : List ℕ
  pub bytes : List ℕ
  pub tree : Option Tree

pub record Saved : Type 0 where
  pub next_node : ℕ
  pub next_stamp : ℕ
  pub next_marker : ℕ
  pub partners : List (List ℕ)
  pub tree : Tree
  pub shelf : Tree
  pub built : List SavedBuilt
  pub kept : List SavedKept

abbrev pub saved_built : Built → SavedBuilt
saved_built b = record { project = b.project; index = b.index; command = b.command; references = b.references; tree = b.tree.map }

abbrev pub saved_kept : Kept → SavedKept
saved_kept k = record { participant = k.participant; bytes = k.bytes; tree = option_map (λ t. t.map) k.tree }

-- what a durable state keeps
abbrev pub saved : Durable → Saved
saved d = record {
  next_node = d.next_node;
  next_stamp = d.next_stamp;
  next_marker = d.next_marker;
  partners = d.partners;
  tree = d.tree.map;
  shelf = d.shelf.map;
  built = map saved_built d.built;
  kept = map saved_kept d.kept;
}

-- ---- its trees: the tree, those of built records and those of kept states

abbrev pub built_trees : List SavedBuilt → List Tree
built_trees = map (λ b. b.tree)

abbrev pub with_tree : Option Tree → List Tree → List Tree
with_tree None ts = ts
with_tree (Some t) ts = t ∷ ts

abbrev pub kept_trees : List SavedKept → List Tree
kept_trees [] = []
kept_trees (k ∷ ks) = with_tree k.tree (kept_trees ks)

abbrev pub trees : Saved → List Tree
trees d = d.tree ∷ built_trees d.built ++ kept_trees d.kept

-- and its shelf
abbrev pub maps : Saved → List Tree
maps d = d.shelf ∷ trees d
