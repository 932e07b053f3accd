-- A test that decides equality.
use Rattle.std.specs.Prelude.{◌≡◌, Bool as Truth, refl}
use Rattle.std.specs.Bool.{Decides}
use Rattle.std.specs.Cmp.{IsEquivalence}
use Rattle.std.proofs.Common.{ap, sym}
use Rattle.std.proofs.lemmas.Bool.Decides.{same_from_decides}

-- it is an equivalence
pub decided-IsEquivalence : {K : Type 0} {same : K → K → Truth} → ((a b : K) → Decides (same a b) (a ≡ b)) → IsEquivalence same
decided-IsEquivalence {K} {same} is = record {
  refl = λ a. (is a a).1 refl;
  symm = λ a b. same_from_decides _ _ (is a b) (λ t. sym ((is b a).0 t), λ e. (is b a).1 (sym e));
  congr = λ a b c t. ap (λ (x : K). same x c) ((is a b).0 t);
}
