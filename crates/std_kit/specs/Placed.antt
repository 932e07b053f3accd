-- Files placed one after another.
use Rattle.std.specs.Prelude.{◌≡◌, ℕ, Bool, true, false, not, if◌then◌else◌, List, [], ◌∷◌, None, IsSome}
use Rattle.std.specs.FinMap.{get, insert, keys}
use Rattle.std.specs.List.{list_any}
use Rattle.res_path.specs.Paths.{Names, overlap}
use Rattle.builder_api.specs.Files.{Files}

-- each path has a name, and no two overlap
pub record AreMade (m : Files) : Type 0 where
  pub named : get m [] ≡ None
  pub apart : (p q : Names) → IsSome (get m p) → IsSome (get m q) → overlap p q ≡ true → p ≡ q

-- the path has a name, and overlaps that of no file
abbrev pub is_free : Files → Names → Bool
is_free m [] = false
is_free m (name ∷ p) = not (list_any (overlap (name ∷ p)) (keys m))

-- the files, and one more where its path is free
abbrev pub with_placed : Files → Names → List ℕ → Files
with_placed m p bytes = if is_free m p then insert m p bytes else m
