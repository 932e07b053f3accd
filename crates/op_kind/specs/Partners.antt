-- Synchronisation partners, by the order in which they were registered.
use Rattle.std.specs.Prelude.{ℕ, Bool, List, [], ◌∷◌, ◌++◌, Option, Some, None, is_some, unwrap_or}
use Rattle.std.specs.List.{position}
use Rattle.std.specs.Str.{bytes_eq}

abbrev pub Partners : Type 0
Partners = List (List ℕ)

-- the place of the partner of this name, counted from 0
abbrev pub place_of : Partners → List ℕ → Option ℕ
place_of partners name = position (λ other. bytes_eq other name) partners

abbrev pub is_partner : Partners → List ℕ → Bool
is_partner partners name = is_some (place_of partners name)

-- the number of the partner of this name: its place
abbrev pub number_of : Partners → List ℕ → ℕ
number_of partners name = unwrap_or (place_of partners name) 0

-- with one more as the last, if there is one
abbrev pub with_partner : Partners → Option (List ℕ) → Partners
with_partner partners None = partners
with_partner partners (Some name) = partners ++ name ∷ []
