-- Which files are expanded.
use Rattle.std.specs.Prelude.{ℕ, ◌-◌, Bool, false, not, ◌&&◌, ◌||◌, if◌then◌else◌, List, [], ◌∷◌, length, take, drop, codes, Option, Some, None}
use Rattle.std.specs.Option.{option_and_then}
use Rattle.std.specs.Str.{bytes_eq}
use Rattle.res_path.specs.Paths.{Names, last_name}

-- what is left of a name is one: it isn't empty, `.` or `..`
abbrev pub is_left : List ℕ → Bool
is_left [] = false
is_left (b ∷ bytes) = not (bytes_eq (b ∷ bytes) (codes ".") || bytes_eq (b ∷ bytes) (codes ".."))

-- a name without the `.in` at its end, where that is there and a name is left
abbrev pub stem_of : List ℕ → Option (List ℕ)
stem_of name = let stem = take (length name - 3) name in if bytes_eq (drop (length name - 3) name) (codes ".in") && is_left stem then Some stem else None

-- the last name of a file that counts, without `.in`
abbrev pub source_stem : Names → Option (List ℕ)
source_stem q = option_and_then stem_of (last_name q)
