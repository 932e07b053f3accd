-- Fields by their bytes: numbers with the highest byte first, and texts behind their length. Both words are opaque to the
-- crates above, which cite what Laws says of them.
use Rattle.std.specs.Prelude.{◌≡◌, ℕ, ◌+◌, List, ◌++◌, length}
use Rattle.byteorder.specs.Endian.{big_bytes, big_number}

-- a number as it is written: its lowest bytes, as many as the width says, the highest of them first
unfoldable pub number_field : ℕ → ℕ → List ℕ
number_field width n = big_bytes width n

-- a text as it is written: its length in four bytes, then its bytes
unfoldable pub text_field : List ℕ → List ℕ
text_field text = number_field 4 (length text) ++ text

-- how many bytes the text at the front says that it takes, those of its length included
unfoldable pub text_size : List ℕ → ℕ
text_size bytes = 4 + big_number 4 bytes

-- an input that is read from its front: the place that it has come to, counted from its beginning, and the bytes left
pub record Input : Type 0 where
  pub at : ℕ
  pub left : List ℕ

-- reading has taken this field from the front, and nothing else
pub record Takes (old : Input) (field : List ℕ) (new : Input) : Type 0 where
  pub bytes : old.left ≡ field ++ new.left
  pub at : new.at ≡ old.at + length field
