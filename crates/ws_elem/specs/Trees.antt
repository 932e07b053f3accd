-- Trees, as finite maps from path to element.
use Rattle.std.specs.Prelude.{◌≡◌, ◌≢◌, ◌↔◌, false, true, not, if◌then◌else◌, List, [], filter, find, length, Option, None, Some, IfSome, IsSomeAnd}
use Rattle.std.specs.Ordering.{is_lt}
use Rattle.std.specs.FinMap.{FinMap, empty, get, contains_key, insert, remove, entries, keys, retain_keys}
use Rattle.res_path.specs.Paths.{Names, path_cmp, parent, is_prefix}
use Rattle.ws_elem.specs.declared.element.Element.{Element}
use Rattle.ws_elem.specs.declared.kind.Kind.TheVariants.{File, Project, Root}
use Rattle.ws_elem.specs.Elements.{bare}

-- what is at each path, if anything
abbrev pub Tree : Type 0
Tree = FinMap path_cmp Element

-- the root alone, as node 1
abbrev pub fresh_tree : Tree
fresh_tree = insert empty [] (bare Root 1)

-- the tree with this at p, an element or nothing
abbrev pub set_at : Tree → Names → Option Element → Tree
set_at t p None = remove t p
set_at t p (Some e) = insert t p e

-- the tree with e at p, unless something is there
abbrev pub with_new : Tree → Names → Element → Tree
with_new t p e = if contains_key t p then t else insert t p e

-- the first entry above p, in path order
abbrev pub entry_after : Tree → Names → Option (Names × Element)
entry_after t p = find (λ e. is_lt (path_cmp p e.0)) (entries t)

-- the tree's paths at or below p, in path order
abbrev pub paths_below : Tree → Names → List Names
paths_below t p = filter (is_prefix p) (keys t)

-- all at or below p, in path order
abbrev pub branch : Tree → Names → List (Names × Element)
branch t p = filter (λ e. is_prefix p e.0) (entries t)

-- the tree without p and all below it
abbrev pub without : Tree → Names → Tree
without t p = retain_keys t (λ q. not (is_prefix p q))

-- a tree in which each element has its place
pub record Whole (t : Tree) : Type 0 where
  -- the root is there, and nothing else is a ROOT
  pub root : IsSomeAnd (get t []) (λ e. e.kind ≡ Root)
  pub only_root : (p : Names) → IfSome (get t p) (λ e. e.kind ≡ Root → p ≡ [])
  -- the parent of every other path is there, and is no file
  pub parents : (p : Names) → p ≢ [] → IfSome (get t p) (λ _. IsSomeAnd (get t (parent p)) (λ e. e.kind ≢ File))
  -- exactly the paths of one name are projects
  pub projects : (p : Names) → IfSome (get t p) (λ e. (e.kind ≡ Project) ↔ (length p ≡ 1))
  -- a closed project has no members
  pub closed : (p q : Names) → IfSome (get t p) (λ e. e.kind ≡ Project → e.opened ≡ false → is_prefix p q ≡ true → q ≢ p → get t q ≡ None)
  -- node numbers differ
  pub nodes : (p q : Names) → IfSome (get t p) (λ e. IfSome (get t q) (λ f. e.node ≡ f.node → p ≡ q))
