-- What stands behind a front.
use Rattle.std.specs.Prelude.{◌≡◌, ℕ, ◌==◌, List, [], ◌∷◌, ◌++◌, Bool, true, false, Option, Some, None, refl, if◌then◌else◌, cond}

-- what stands behind these bytes, where they are the front
abbrev pub behind_front : List ℕ → List ℕ → Option (List ℕ)
behind_front left [] = Some left
behind_front [] (b ∷ bytes) = None
behind_front (l ∷ left) (b ∷ bytes) = if l == b then behind_front left bytes else None

-- what is still to come after these bytes, where all that came was to come
abbrev pub without_front : Option (List ℕ) → List ℕ → Option (List ℕ)
without_front None bytes = None
without_front (Some left) bytes = behind_front left bytes

join_by : (t : Bool) (x y : Option (List ℕ)) (b : List ℕ) → without_front x b ≡ y → without_front (cond t x None) b ≡ cond t y None
join_by true x y b e = e
join_by false x y b e = refl

behind_front-joined : (left a b : List ℕ) → without_front (behind_front left a) b ≡ behind_front left (a ++ b)
behind_front-joined left [] b = refl
behind_front-joined [] (x ∷ a) b = refl
behind_front-joined (l ∷ left) (x ∷ a) b = join_by (l == x) (behind_front left a) (behind_front left (a ++ b)) b (behind_front-joined left a b)

-- two pieces are as both in one
pub without_front-joined : (s : Option (List ℕ)) (a b : List ℕ) → without_front (without_front s a) b ≡ without_front s (a ++ b)
without_front-joined None a b = refl
without_front-joined (Some left) a b = behind_front-joined left a b

-- and an empty piece is as none
pub without_front-kept : (s : Option (List ℕ)) → without_front s [] ≡ s
without_front-kept None = refl
without_front-kept (Some left) = refl
