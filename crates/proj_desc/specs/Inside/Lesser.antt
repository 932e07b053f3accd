-- The least name, found name by name.
use Rattle.std.specs.Prelude.{ℕ, if◌then◌else◌, List, [], ◌∷◌, Option, Some, None}
use Rattle.std.specs.Ordering.{nat_cmp, is_lt}
use Rattle.std.specs.Cmp.Lexicographic.{slice_cmp}

abbrev pub lesser : List ℕ → List ℕ → List ℕ
lesser a b = if is_lt (slice_cmp nat_cmp b a) then b else a

abbrev pub least_with : List ℕ → List (List ℕ) → List ℕ
least_with name [] = name
least_with name (k ∷ ks) = least_with (lesser name k) ks

abbrev pub least_by_one : List (List ℕ) → Option (List ℕ)
least_by_one [] = None
least_by_one (k ∷ ks) = Some (least_with k ks)
