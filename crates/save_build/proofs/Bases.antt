-- Whether bytes are an entry's own.
use Rattle.std.proofs.Common.{◌≡◌, ◌↔◌, ℕ, Bool, List, sym}
use Rattle.std.specs.Prelude.{IsTrue, bytes_eq}
use Rattle.std.proofs.lemmas.Bool.Decides.{same_from_decides}
use Rattle.std.proofs.lemmas.Slice.Eq.{bytes_eq-Decides}

pub decided : (r : Bool) (a b : List ℕ) → IsTrue r ↔ (b ≡ a) → r ≡ bytes_eq a b
decided r a b h = same_from_decides r (bytes_eq a b) (λ t. sym (h.0 t), λ e. h.1 (sym e)) (bytes_eq-Decides a b)
