-- Names, as lists of bytes.
use Rattle.std.specs.Prelude.{ℕ, Bool, not, ◌&&◌, ◌||◌, ◌==◌, nat_le, List, [], ◌∷◌, length, IsTrue, IsUtf8}
use Rattle.std.specs.List.{list_all}
use Rattle.std.specs.Str.{bytes_eq}

-- no slash and no control character
abbrev pub is_name_byte : ℕ → Bool
is_name_byte b = nat_le 32 b && not (b == 127) && not (b == 47)

-- `.` or `..`
abbrev pub is_dots : List ℕ → Bool
is_dots bytes = bytes_eq bytes (46 ∷ []) || bytes_eq bytes (46 ∷ 46 ∷ [])

abbrev pub has_name_length : List ℕ → Bool
has_name_length bytes = nat_le 1 (length bytes) && nat_le (length bytes) 255

-- 1 to 255 such bytes, other than `.` and `..`
abbrev pub is_name : List ℕ → Bool
is_name bytes = has_name_length bytes && list_all is_name_byte bytes && not (is_dots bytes)

-- a text of that form
pub record IsName (bytes : List ℕ) : Type 0 where
  pub utf8 : IsUtf8 bytes
  pub form : IsTrue (is_name bytes)
