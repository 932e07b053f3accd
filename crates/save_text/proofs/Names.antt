-- Names as texts.
use Rattle.std.proofs.Common.{◌≡◌, ℕ, ◌<◌, ◌^◌, Bool, true, false, ◌&&◌, List, [], ◌∷◌, ◌++◌, length, Option, Some, refl, sym, ap, ◌∙◌, arith}
use Rattle.std.specs.Prelude.{None, not, nat_le}
use Rattle.std.specs.List.{flat_map, list_all}
use Rattle.std.proofs.lemmas.Bool.Decides.{nat_tests}
use Rattle.std.proofs.lemmas.List.Concat.{flat_map-cons}
use Rattle.save_form.specs.Forms.{text}
use Rattle.save_form.specs.Lists.{spell_each}
use Rattle.res_path.specs.Names.{IsName, is_name_byte, is_dots, has_name_length}

one : (a b : Bool) → (a && b) ≡ true → a ≡ true
one true b e = refl
one false b e = absurd cc

two : (a b : Bool) → (a && b) ≡ true → b ≡ true
two true b e = e
two false b e = absurd cc

le : (n : ℕ) → nat_le n 255 ≡ true → n < 2 ^ 32
le n e = grind (arith, nat_tests)

pub short : (name : List ℕ) → IsName name → length name < 2 ^ 32
short name h =
    let e : ((has_name_length name && list_all is_name_byte name) && not (is_dots name)) ≡ true = h.form in
    le (length name) (two (nat_le 1 (length name)) (nat_le (length name) 255) (one (has_name_length name) _ (one _ _ e)))

each_name : (before : Option (List ℕ)) (names : List (List ℕ)) → spell_each (λ _. text) before names ≡ flat_map text.spell names
each_name before [] = refl
each_name before (name ∷ names) = ap (λ (bytes : List ℕ). text.spell name ++ bytes) (each_name (Some name) names) ∙ sym (flat_map-cons text.spell name names)

pub names_spelled : (names : List (List ℕ)) → spell_each (λ _. text) None names ≡ flat_map text.spell names
names_spelled names = each_name None names
