-- The lines of a file, and those that include another.
use Rattle.std.specs.Prelude.{ℕ, if◌then◌else◌, ◌==◌, List, [], ◌∷◌, take, drop, codes, Option, Some, None}
use Rattle.std.specs.List.{onto_first}
use Rattle.std.specs.Str.{bytes_eq}

-- each line up to its line feed, which belongs to it; the last one may have none
abbrev pub lines_of : List ℕ → List (List ℕ)
lines_of [] = []
lines_of (b ∷ bytes) = if b == 10 then (b ∷ []) ∷ lines_of bytes else onto_first b (lines_of bytes)

-- a line without the line feed at its end
abbrev pub without_line_feed : List ℕ → List ℕ
without_line_feed [] = []
without_line_feed (b ∷ []) = if b == 10 then [] else b ∷ []
without_line_feed (b ∷ next ∷ bytes) = b ∷ without_line_feed (next ∷ bytes)

-- the name in a line `@include NAME`
abbrev pub include_name : List ℕ → Option (List ℕ)
include_name line = if bytes_eq (take 9 line) (codes "@include ") then Some (without_line_feed (drop 9 line)) else None
