-- Where paths lie.
use Rattle.std.specs.Prelude.{Bool, true, false, ◌&&◌, List, [], ◌∷◌}
use Rattle.std.specs.List.{list_any}
use Rattle.std.specs.Str.{bytes_eq}
use Rattle.res_path.specs.Paths.{Names, is_prefix}

-- q lies at or below one of the roots
abbrev pub is_within : List Names → Names → Bool
is_within roots q = list_any (λ p. is_prefix p q) roots

-- q lies below o, and isn't o
abbrev pub is_below : Names → Names → Bool
is_below [] [] = false
is_below [] (name ∷ q) = true
is_below (name ∷ o) [] = false
is_below (name ∷ o) (other ∷ q) = bytes_eq name other && is_below o q
