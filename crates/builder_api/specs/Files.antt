-- Files, as a finite map from path to bytes.
use Rattle.std.specs.Prelude.{◌≡◌, ℕ, true, if◌then◌else◌, List, [], ◌∷◌, ◌++◌, IfSome, IsSome}
use Rattle.std.specs.List.{flat_map}
use Rattle.std.specs.FinMap.{FinMap, get, entries, from_entries, retain_keys}
use Rattle.res_path.specs.Paths.{Names, path_cmp}
use Rattle.ws_elem.specs.Kinds.{is_file}
use Rattle.ws_elem.specs.declared.element.Element.{Element}
use Rattle.ws_elem.specs.declared.kind.Kind.TheVariants.{Folder}
use Rattle.ws_elem.specs.Trees.{Tree}
use Rattle.builder_api.specs.Places.{is_within, is_below}

abbrev pub Files : Type 0
Files = FinMap path_cmp (List ℕ)

-- an entry of a tree with its bytes, where it is a file
abbrev pub file_entry : Names × Element → List (Names × List ℕ)
file_entry e = if is_file e.1.kind then (e.0, e.1.bytes) ∷ [] else []

-- the files of a tree
abbrev pub files_of : Tree → Files
files_of t = from_entries (flat_map file_entry (entries t))

-- the files at or below the roots
abbrev pub files_in : List Names → Files → Files
files_in roots f = retain_keys f (is_within roots)

-- strictly below o lie exactly the files of m, which have their paths from there
pub record HasBelow (o : Names) (f m : Files) : Type 0 where
  pub at : (name : List ℕ) (r : Names) → get f (o ++ name ∷ r) ≡ get m (name ∷ r)

-- each folder strictly below o has something below it
pub record HasNoEmptyFolder (o : Names) (t : Tree) : Type 0 where
  pub filled : (q : Names) → is_below o q ≡ true → IfSome (get t q) (λ e. e.kind ≡ Folder → (r : Names) × (is_below q r ≡ true) × IsSome (get t r))
