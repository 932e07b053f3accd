-- What is told of a file that isn't there.
use Rattle.std.specs.Prelude.{ℕ, zero, suc, ◌+◌, ◌==◌, if◌then◌else◌, List, ◌∷◌, ◌++◌, length, take, drop, codes}
use Rattle.std.specs.Str.Lossy.{utf8_valid_len}

-- the longest front that is UTF-8
abbrev pub text_front : List ℕ → List ℕ
text_front bytes = take (utf8_valid_len bytes) bytes

-- the bytes with `?` in place of the first that is part of no character, and of those after it, at most as many as are counted
abbrev pub readable_within : ℕ → List ℕ → List ℕ
readable_within zero bytes = bytes
readable_within (suc count) bytes =
    if utf8_valid_len bytes == length bytes then bytes else text_front bytes ++ 63 ∷ readable_within count (drop (utf8_valid_len bytes + 1) bytes)

-- the bytes with `?` in place of each that is part of no character
abbrev pub readable : List ℕ → List ℕ
readable bytes = readable_within (length bytes) bytes

-- `missing NAME`, cut to at most 200 bytes at a character's end
abbrev pub message : List ℕ → List ℕ
message name = text_front (take 200 (codes "missing " ++ readable name))
