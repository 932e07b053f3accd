-- What a number that was read from a field says of the field's bytes.
use Rattle.std.proofs.Common.{◌≡◌, ℕ, ◌^◌, ◌<◌, List, ◌++◌, sym, ◌∙◌, ap}
use Rattle.byteorder.specs.Endian.{big_number}
use Rattle.byteorder.specs.Numbers.{big_number-reads_back}
use Rattle.ws_wire.specs.Fields.{number_field}

pub number_told : (width n : ℕ) (bytes rest : List ℕ) → n < 256 ^ width → bytes ≡ number_field width n ++ rest → n ≡ big_number width bytes
unfolding number_field
number_told width n bytes rest small is = sym (big_number-reads_back width n rest small) ∙ ap (big_number width) (sym is)
