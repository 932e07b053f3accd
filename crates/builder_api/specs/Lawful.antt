-- What a lawful builder owes.
use Rattle.std.specs.Prelude.{◌≡◌, ◌≢◌, ℕ, true, List, [], ◌∷◌, map, Option, Some, None, IfSome}
use Rattle.std.specs.List.{AllByRecursion, AllPairs}
use Rattle.res_path.specs.Paths.{Names}
use Rattle.ws_elem.specs.Trees.{Tree}
use Rattle.ws_elem.specs.Stamps.{AgreeByStamps}
use Rattle.delta_kind.specs.declared.node.DeltaNode.{DeltaNode}
use Rattle.delta_kind.specs.Deltas.{delta, cut}
use Rattle.proj_desc.specs.declared.command.Command.{Command}
use Rattle.builder_api.specs.declared.handed.Handed.{Handed}
use Rattle.builder_api.specs.declared.edits.Edits.{Edits}
use Rattle.builder_api.specs.Places.{is_within}
use Rattle.builder_api.specs.Files.{Files, files_of, HasBelow}
use Rattle.builder_api.specs.Tasks.{Task, task_of, inputs_of, view_of}
use Rattle.builder_api.specs.Edits.{edit_paths, committed}
use Rattle.builder_api.specs.Meanings.{Meaning, Meanings}

-- a project and the projects that it refers to, as paths
abbrev pub scope : List ℕ → List (List ℕ) → List Names
scope project references = map (λ name. name ∷ []) (project ∷ references)

-- the nodes tell what became of the trees in a project and its references, in which the task reads and writes
pub record IsDelta (c : Task) (nodes : List DeltaNode) (last now : Tree) : Type 0 where
  pub project : List ℕ
  pub references : List (List ℕ)
  pub inside : AllByRecursion (λ p. is_within (scope project references) p ≡ true) (c.output ∷ c.inputs)
  pub told : nodes ≡ cut (scope project references) (delta last now)

-- a delta is handed: it leads from a tree with equal contents under equal stamps, in which lay what the task made
pub record IsSince (m : Meaning) (c : Task) (nodes : List DeltaNode) (last now : Tree) : Type 0 where
  pub stamps : AgreeByStamps (last ∷ now ∷ [])
  pub delta : IsDelta c nodes last now
  pub built : HasBelow c.output (files_of last) (m c (inputs_of c (files_of last))).files

-- no delta is handed, or it is one since such a tree
abbrev pub IsPromised : Meaning → Task → Option (List DeltaNode) → Tree → Tree → Type 0
IsPromised m c None last now = Unit {0}
IsPromised m c (Some nodes) last now = IsSince m c nodes last now

-- the edits make of the files below the output those of the meaning
pub record Fulfils (m : Meaning) (c : Task) (f : Files) (e : Edits) : Type 0 where
  pub files : HasBelow c.output (committed c.output f e.files) (m c (inputs_of c f)).files
  pub problems : e.problems ≡ (m c (inputs_of c f)).problems
  -- each path has a name, and comes once
  pub named : AllByRecursion (λ p. p ≢ []) (edit_paths e.files)
  pub once : AllPairs (λ p q. p ≢ q) (edit_paths e.files)

-- so they do in every tree of which the view was handed, where the promise holds
abbrev pub Does : Meaning → Command → Handed → Edits → Type 0
Does m command h e = let c = task_of command h in (last now : Tree) → h.view ≡ view_of c (files_of now)
    → IsPromised m c h.delta last now → Fulfils m c (files_of now) e

-- no delta was handed, or below the output lay in the tree built last what the task made
abbrev pub IsOwed : Meaning → Task → Option (List DeltaNode) → Option Tree → Type 0
IsOwed m c None last = Unit {0}
IsOwed m c (Some nodes) None = ⊥
IsOwed m c (Some nodes) (Some last) = HasBelow c.output (files_of last) (m c (inputs_of c (files_of last))).files

-- edits that were committed are right: they make what the builder's meaning says, where there is one that is owed
abbrev pub Right : Meanings → Task → Option (List DeltaNode) → Option Tree → Tree → Edits → Type 0
Right ms c nodes last now e = IfSome (ms c.builder) (λ m. IsOwed m c nodes last → Fulfils m c (files_of now) e)

-- a delta that is handed leads from the tree built last, with equal contents under equal stamps
abbrev pub IsHanded : Task → Option (List DeltaNode) → Option Tree → Tree → Type 0
IsHanded c None last now = Unit {0}
IsHanded c (Some nodes) None now = ⊥
IsHanded c (Some nodes) (Some last) now = AgreeByStamps (last ∷ now ∷ []) × IsDelta c nodes last now
