-- On lists whose entries give rising numbers, as the notebook's do.
use Rattle.std.proofs.Common.{Bool, if◌then◌else◌, ◌≡◌, ◌≤◌, ℕ, List, [], ◌∷◌, ◌++◌, true, false, Option, Some, sym, ap, ◌∙◌, arith}
use Rattle.ws_turn.specs.Lists.{given, has, put_before}
use Rattle.ws_turn.proofs.Lists.{by_bool, or_right, given_append, put_one}

module _ {E : Type 0} (gives : E → Option ℕ) where
  rising_more : (lines : List E) (line : E) (last most : ℕ) → ((m : ℕ) → given gives m lines ≡ true → m ≤ last) → last ≤ most → ((m : ℕ) → gives line ≡ Some m → m ≤ most)
      → (m : ℕ) → given gives m (lines ++ line ∷ []) ≡ true → m ≤ most
  rising_more lines line last most old grows new m e = by_bool (has m (put_before (gives line) []))
      (λ z. new m (put_one (gives line) m z))
      (λ z. let k = old m (or_right (given gives m lines) (has m (put_before (gives line) [])) (sym (given_append gives m lines (line ∷ [])) ∙ e) z) in omega (arith, k, grows))

  -- after a push that may have failed
  pub rising_pushed : (b : Bool) (old new : List E) (line : E) (last most : ℕ) → new ≡ (if b then old ++ line ∷ [] else old) → ((m : ℕ) → given gives m old ≡ true → m ≤ last) → last ≤ most
      → ((m : ℕ) → gives line ≡ Some m → m ≤ most) → (m : ℕ) → given gives m new ≡ true → m ≤ most
  rising_pushed true old new line last most e rising grows fits m z = rising_more old line last most rising grows fits m (sym (ap (given gives m) e) ∙ z)
  rising_pushed false old new line last most e rising grows fits m z = let k = rising m (sym (ap (given gives m) e) ∙ z) in omega (arith, k, grows)
