-- A history is split at entries of one pass.
use Rattle.std.proofs.Common.{◌≡◌, ℕ, Bool, true, false, nat_eq, List, [], ◌∷◌, ◌++◌, refl, ap, ◌∙◌, if◌then◌else◌}
use Rattle.ws_turn.specs.Lists.{of}

module _ {E : Type 0} (by : E → ℕ) where
  -- among the entries of number n one is x, with those before it and behind it
  pub record IsSplit (n : ℕ) (h own : List E) (x : E) (more : List E) : Type 0 where
    pub front : List E
    pub back : List E
    pub are : h ≡ front ++ x ∷ back
    pub own_front : of by n front ≡ own
    pub own_back : of by n back ≡ more

  pub split : (n : ℕ) (h own : List E) (x : E) (more : List E) → of by n h ≡ own ++ x ∷ more → IsSplit n h own x more
  split n [] [] x more is = absurd (let no : [] ≡ x ∷ more = is in cc)
  split n [] (y ∷ own) x more is = absurd (let no : [] ≡ y ∷ (own ++ x ∷ more) = is in cc)
  split n (e ∷ h) own x more is = here (nat_eq (by e) n) refl (λ o same. split n h o x more same) is
    where
      first : (y : E) (ys : List E) → e ∷ of by n h ≡ y ∷ ys → e ≡ y
      first y ys same = let same : e ∷ of by n h ≡ y ∷ ys = same in cc

      rest : (y : E) (ys : List E) → e ∷ of by n h ≡ y ∷ ys → of by n h ≡ ys
      rest y ys same = let same : e ∷ of by n h ≡ y ∷ ys = same in cc

      counted : nat_eq (by e) n ≡ true → ((o : List E) → of by n h ≡ o ++ x ∷ more → IsSplit n h o x more) → (own : List E) → e ∷ of by n h ≡ own ++ x ∷ more → IsSplit n (e ∷ h) own x more
      counted same deeper [] is = record { front = []; back = h; are = ap (λ y. y ∷ h) (first x more is); own_front = refl; own_back = rest x more is }
      counted same deeper (y ∷ own) is =
          let d = deeper own (rest y (own ++ x ∷ more) is) in
          record {
            front = e ∷ d.front;
            back = d.back;
            are = ap (λ l. e ∷ l) d.are;
            own_front = ap (λ b. if b then e ∷ of by n d.front else of by n d.front) same ∙ (λ i. first y (own ++ x ∷ more) is i ∷ d.own_front i);
            own_back = d.own_back;
          }

      here : (b : Bool) → nat_eq (by e) n ≡ b → ((o : List E) → of by n h ≡ o ++ x ∷ more → IsSplit n h o x more) → (if b then e ∷ of by n h else of by n h) ≡ own ++ x ∷ more → IsSplit n (e ∷ h) own x more
      here true same deeper is = counted same deeper own is
      here false other deeper is =
          let d = deeper own is in
          record {
            front = e ∷ d.front;
            back = d.back;
            are = ap (λ l. e ∷ l) d.are;
            own_front = ap (λ b. if b then e ∷ of by n d.front else of by n d.front) other ∙ d.own_front;
            own_back = d.own_back;
          }
