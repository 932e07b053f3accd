-- The path of a project.
use Rattle.std.proofs.Common.{◌≡◌, ℕ, List, [], ◌∷◌, append-nil}
use Rattle.res_path.specs.Paths.{path_text}

-- a slash and the name
pub project_text : (name : List ℕ) → path_text (name ∷ []) ≡ 47 ∷ name
project_text name = append-nil (47 ∷ name)
