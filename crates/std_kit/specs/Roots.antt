-- The files of input roots.
use Rattle.std.specs.Prelude.{◌≡◌, ℕ, true, if◌then◌else◌, List, ◌++◌, map, filter, length, drop, None, IsSome}
use Rattle.std.specs.FinMap.{get, entries}
use Rattle.res_path.specs.Paths.{Names, path_eq, is_prefix, parent}
use Rattle.builder_api.specs.Files.{Files}

-- the files at or below a root, in path order
abbrev pub files_of_root : Names → Files → List (Names × List ℕ)
files_of_root root f = filter (λ e. is_prefix root e.0) (entries f)

-- the roots, each with its files
abbrev pub rooted : List Names → Files → List (Names × List (Names × List ℕ))
rooted roots f = map (λ root. (root, files_of_root root f)) roots

-- the path of a root's file from there, or its last name where it is the root itself
abbrev pub relative : Names → Names → Names
relative root q = if path_eq root q then drop (length (parent q)) q else drop (length root) q

-- no file lies at the root, and none below another
pub record IsClear (root : Names) (f : Files) : Type 0 where
  pub none : get f root ≡ None
  pub apart : (p q : Names) → IsSome (get f (root ++ p)) → IsSome (get f (root ++ q)) → is_prefix p q ≡ true → p ≡ q
