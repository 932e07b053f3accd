-- Paths, as lists of names.
use Rattle.std.specs.Prelude.{ℕ, ◌≤◌, Bool, true, false, ◌&&◌, ◌||◌, List, [], ◌∷◌, length, Option, Some, None}
use Rattle.std.specs.declared.cmp.Ordering.{Ordering}
use Rattle.std.specs.Ordering.{nat_cmp}
use Rattle.std.specs.Cmp.Lexicographic.{slice_cmp, pointwise}
use Rattle.std.specs.List.{flat_map, AllByRecursion}
use Rattle.std.specs.Str.{bytes_eq}
use Rattle.res_path.specs.Names.{IsName}

-- a path as its names, each as its bytes
abbrev pub Names : Type 0
Names = List (List ℕ)

-- name by name, each by its bytes, a prefix first
abbrev pub path_cmp : Names → Names → Ordering
path_cmp = slice_cmp (slice_cmp nat_cmp)

-- the same names, in the same order
abbrev pub path_eq : Names → Names → Bool
path_eq = pointwise bytes_eq

-- a slash before each name
abbrev pub slashed : Names → List ℕ
slashed = flat_map (λ name. 47 ∷ name)

-- a slash before each name, and a slash alone for the root
abbrev pub path_text : Names → List ℕ
path_text [] = 47 ∷ []
path_text (name ∷ names) = slashed (name ∷ names)

-- at most 64 names, and at most 4,096 bytes of text
pub record IsPath (path : Names) : Type 0 where
  pub names : AllByRecursion IsName path
  pub deep : length path ≤ 64
  pub long : length (path_text path) ≤ 4096

-- q is p followed by names, possibly none
abbrev pub is_prefix : Names → Names → Bool
is_prefix [] q = true
is_prefix (name ∷ p) [] = false
is_prefix (name ∷ p) (other ∷ q) = bytes_eq name other && is_prefix p q

-- one of the paths is a prefix of the other
abbrev pub overlap : Names → Names → Bool
overlap p q = is_prefix p q || is_prefix q p

-- all names but the last
abbrev pub parent : Names → Names
parent [] = []
parent (name ∷ []) = []
parent (name ∷ other ∷ names) = name ∷ parent (other ∷ names)

-- the parent, which the root alone hasn't
abbrev pub parent_of : Names → Option Names
parent_of [] = None
parent_of (name ∷ names) = Some (parent (name ∷ names))

-- the last name, which the root alone hasn't
abbrev pub last_name : Names → Option (List ℕ)
last_name [] = None
last_name (name ∷ []) = Some name
last_name (name ∷ other ∷ names) = last_name (other ∷ names)
