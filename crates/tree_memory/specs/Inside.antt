-- What only the crate's own code speaks of.
use Rattle.std.specs.Prelude.{◌≡◌, ℕ, nat_eq, true, false, List, [], ◌∷◌, IsSome, refl}
use Rattle.std.specs.Coded.{Coded, code_by, coded×, coded_ℕ, coded_list}
use Rattle.std.specs.List.{list_any}
use Rattle.tree_memory.specs.Spared.{Remembered, SparedTree}

abbrev pub spared_code : {T : Type 0} → Coded T → Coded (SparedTree T)
spared_code {T} t =
    code_by (T × (List ℕ × ℕ)) (coded× t (coded× (coded_list coded_ℕ) coded_ℕ)) (λ s. (s.tree, (s.spent, s.places))) (λ p. record { tree = p.0; spent = p.1.0; places = p.1.1 }) (λ _. refl)

-- no number comes twice
abbrev pub Apart : List ℕ → Type 0
Apart [] = Unit
Apart (n ∷ ns) = (list_any (nat_eq n) ns ≡ false) × Apart ns

-- these are remembered, each once
pub record AreSpent (remembered : Remembered) (spent : List ℕ) : Type 0 where
  pub there : (k : ℕ) → list_any (nat_eq k) spent ≡ true → IsSome (remembered k)
  pub apart : Apart spent
