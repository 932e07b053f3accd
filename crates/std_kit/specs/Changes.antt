-- Edits that make files of others.
use Rattle.std.specs.Prelude.{◌≡◌, ◌≢◌, ℕ, if◌then◌else◌, List, [], ◌∷◌, ◌++◌, Option, Some, None, is_some}
use Rattle.std.specs.FinMap.{get, find}
use Rattle.std.specs.List.{AllByRecursion, AllPairs}
use Rattle.std.specs.Option.{option_eq}
use Rattle.std.specs.Str.{bytes_eq}
use Rattle.res_path.specs.Paths.{Names, path_cmp}
use Rattle.delta_kind.specs.declared.node.DeltaNode.{DeltaNode}
use Rattle.delta_kind.specs.Deltas.{node_with}
use Rattle.builder_api.specs.Files.{Files}
use Rattle.builder_api.specs.Edits.{Edit, edit_paths}

-- what is to be done at a path: nothing where it has what is made there, and else that is put, or what is there removed
abbrev pub change_of : Option (List ℕ) → Option (List ℕ) → Option (Option (List ℕ))
change_of was made = if option_eq bytes_eq was made then None else Some made

-- exactly the files below o that differ from those made are edited, each once, to what is made
pub record AreChanges (o : Names) (view made : Files) (edits : List Edit) : Type 0 where
  pub at : (name : List ℕ) (r : Names) → find path_cmp (name ∷ r) edits ≡ change_of (get view (o ++ name ∷ r)) (get made (name ∷ r))
  pub named : AllByRecursion (λ p. p ≢ []) (edit_paths edits)
  pub once : AllPairs (λ p q. p ≢ q) (edit_paths edits)

-- where the root's file has a node, the file at its path below o becomes that one, if it isn't; no other is edited
pub record AreChangesAt (o root : Names) (view : Files) (nodes : List DeltaNode) (edits : List Edit) : Type 0 where
  pub at : (name : List ℕ) (r : Names) → find path_cmp (name ∷ r) edits
      ≡ (if is_some (node_with (root ++ name ∷ r) nodes) then change_of (get view (o ++ name ∷ r)) (get view (root ++ name ∷ r)) else None)
  pub named : AllByRecursion (λ p. p ≢ []) (edit_paths edits)
  pub once : AllPairs (λ p q. p ≢ q) (edit_paths edits)
