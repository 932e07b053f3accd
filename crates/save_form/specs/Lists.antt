-- Lists, and lists whose keys rise.
use Rattle.std.specs.Prelude.{ℕ, zero, suc, Bool, true, List, [], ◌∷◌, ◌++◌, length, Option, Some, None, Ok}
use Rattle.std.specs.Option.{option_map}
use Rattle.ws_wire.specs.Fields.{Input}
use Rattle.save_form.specs.Forms.{Reading, Form, ◌>>=◌, number, pair, checked}

-- values one behind the other, each by a form that may rest on the value before it
abbrev pub spell_each : {A : Type 0} → (Option A → Form A) → Option A → List A → List ℕ
spell_each item before [] = []
spell_each item before (a ∷ more) = (item before).spell a ++ spell_each item (Some a) more

unfoldable pub read_each : {A : Type 0} → (Option A → Form A) → ℕ → Option A → Input → Reading (List A)
read_each item zero before i = Ok ([], i)
read_each item (suc n) before i = (item before).read i >>= λ x. read_each item n (Some x.0) x.1 >>= λ y. Ok (x.0 ∷ y.0, y.1)

-- a count of four bytes, and that many values
abbrev pub list : {A : Type 0} → (Option A → Form A) → Form (List A)
list item = record {
  spell = λ xs. (number 4).spell (length xs) ++ spell_each item None xs;
  read = λ i. (number 4).read i >>= λ n. read_each item n.0 None n.1;
}

-- a key is above the one before it, where there is one
abbrev pub is_above : {K : Type 0} → (K → K → Bool) → Option K → K → Bool
is_above less None key = true
is_above less (Some before) key = less before key

-- An item of a list whose keys rise: its key and what stands behind it. A key that isn't above the one before it can't
-- stand at its first byte.
abbrev pub rising : {A K B : Type 0} → (K → K → Bool) → (A → K) → Form K → (K → Form B) → Option A → Form (K × B)
rising less key_of key rest before = pair (checked (is_above less (option_map key_of before)) key) rest
