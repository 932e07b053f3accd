-- A byte as a number is spelled.
use Rattle.std.proofs.Common.{◌≡◌, ℕ, ◌%◌, ◌<◌, [], ◌∷◌, ap, arith}
use Rattle.ws_wire.specs.Fields.{number_field}
use Rattle.save_form.specs.Forms.{number}

pub byte_spelled : (n : ℕ) → n < 256 → (number 1).spell n ≡ n ∷ []
unfolding number number_field
byte_spelled n small = let same : n % 256 ≡ n = omega arith in ap (λ (m : ℕ). m ∷ []) same

pub ruleset bytes_spelled = (byte_spelled)
