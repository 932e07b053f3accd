-- Descriptions of projects, and built records of their commands.
use Rattle.std.specs.Prelude.{◌≡◌, ℕ, ◌<◌, ◌≤◌, List, [], ◌∷◌, length, None, Some, IfSome, IsSomeAnd}
use Rattle.std.specs.FinMap.{get}
use Rattle.proj_desc.specs.Canonical.{described, canonical_of, IsCommandText}
use Rattle.proj_desc.specs.Causes.{desc_cause}
use Rattle.res_path.specs.Names.{IsName}
use Rattle.res_path.specs.Paths.{Names, last_name}
use Rattle.ws_durable.specs.Saved.{SavedBuilt}
use Rattle.ws_elem.specs.declared.element.Element.{Element}
use Rattle.ws_elem.specs.declared.kind.Kind.TheVariants.{Project}
use Rattle.ws_elem.specs.Trees.{Tree}

-- the text is the canonical text of a description of the project
abbrev pub IsCanonical : List ℕ → List ℕ → Type 0
IsCanonical project text = (desc_cause project text ≡ None) × (canonical_of text ≡ Some text)

-- the text is a description of the project, which has a command of this number
abbrev pub HasCommand : List ℕ → List ℕ → ℕ → Type 0
HasCommand project text index = (desc_cause project text ≡ None) × IsSomeAnd (described text) (λ desc. index < length desc.commands)

-- a project's description is a canonical one of it
abbrev pub IsDescribed : Names → Element → Type 0
IsDescribed p e = e.kind ≡ Project → IfSome (last_name p) (λ name. IsName name × IsCanonical name e.attached.desc)

-- A built record names a project of the tree, which has a command of its number, and its own command's text is the canonical
-- text of a command of the project. It has no more references than a description may have.
pub record IsBuiltIn (tree : Tree) (b : SavedBuilt) : Type 0 where
  pub there : IsSomeAnd (get tree (b.project ∷ [])) (λ e. (e.kind ≡ Project) × HasCommand b.project e.attached.desc b.index)
  pub command : IsCommandText b.project b.command
  pub references : length b.references ≤ 256
