-- What is asked of every kind of atom.
use Rattle.std.specs.Prelude.{◌≡◌, Bool, true}

-- the laws of containment and conflict
pub record IsLawful {A : Type 0} (contains conflicts : A → A → Bool) : Type 0 where
  pub contains_itself : (a : A) → contains a a ≡ true
  pub contains_both : (a b : A) → contains a b ≡ true → contains b a ≡ true → a ≡ b
  pub contains_through : (a b c : A) → contains a b ≡ true → contains b c ≡ true → contains a c ≡ true
  pub conflicts_itself : (a : A) → conflicts a a ≡ true
  pub conflicts_back : (a b : A) → conflicts a b ≡ conflicts b a
  pub contained_conflicts : (a b : A) → contains a b ≡ true → conflicts a b ≡ true
  pub wider_conflicts : (a b c : A) → contains a b ≡ true → conflicts b c ≡ true → conflicts a c ≡ true
