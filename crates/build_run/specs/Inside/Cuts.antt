-- Where the next group of a plan ends.
use Rattle.std.specs.Prelude.{ℕ, Bool, false, List, [], ◌∷◌}
use Rattle.std.specs.Str.{bytes_eq}
use Rattle.res_path.specs.Paths.{Names}

-- the project is the first of the first knot
abbrev pub is_first : List Names → List ℕ → Bool
is_first [] project = false
is_first ([] ∷ knots) project = false
is_first ((name ∷ names) ∷ knots) project = bytes_eq name project
