-- Where elements may stand.
use Rattle.std.specs.Prelude.{◌≡◌, ◌≢◌, ◌⊎◌, ◌↔◌, ◌≤◌, true, false, [], ◌∷◌, length, IsSomeAnd}
use Rattle.std.specs.FinMap.{get}
use Rattle.res_path.specs.Paths.{Names, parent}
use Rattle.ws_elem.specs.declared.element.Element.{Element}
use Rattle.ws_elem.specs.declared.kind.Kind.TheVariants.{File, Folder, Project, Root}
use Rattle.ws_elem.specs.Trees.{Tree}

-- something may stand below it: it is no file, and no closed project
abbrev pub IsOpen : Element → Type 0
IsOpen e = (e.kind ≢ File) × (e.kind ≡ Project → e.opened ≡ true)

-- the root is no project; any other is no root, stands below what is open, and is a project exactly at a path of one name
abbrev pub IsPlaced : Tree → Names → Element → Type 0
IsPlaced t [] e = e.kind ≢ Project
IsPlaced t (name ∷ p) e = (e.kind ≢ Root) × IsSomeAnd (get t (parent (name ∷ p))) IsOpen × ((e.kind ≡ Project) ↔ (length (name ∷ p) ≡ 1))

-- a closed project
abbrev pub IsClosed : Element → Type 0
IsClosed e = (e.kind ≡ Project) × (e.opened ≡ false)

-- A file or a folder, at a path of two or more names, whose parent is a closed project or a folder on the shelf.
pub record IsShelved (tree shelf : Tree) (p : Names) (e : Element) : Type 0 where
  pub deep : 2 ≤ length p
  pub kind : (e.kind ≡ File) ⊎ (e.kind ≡ Folder)
  pub parent_there : IsSomeAnd (get tree (parent p)) IsClosed ⊎ IsSomeAnd (get shelf (parent p)) (λ f. f.kind ≡ Folder)
