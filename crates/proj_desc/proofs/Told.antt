-- What an error tells of one, it tells of all.
use Rattle.std.proofs.Common.{◌≡◌, ℕ, zero, suc, ◌<◌, Bool, true, false, not, List, [], ◌∷◌, length, get_or, map, arith, Some, refl, ap, ◌∙◌, subst}
use Rattle.std.specs.List.{list_all}
use Rattle.serde_json.specs.Data.{Data}
use Rattle.serde_json.specs.View.{view}
use Rattle.serde_json.specs.declared.value.Value.{Value}
use Rattle.res_path.proofs.Spelled.{both}
use Rattle.proj_desc.specs.declared.cause.DescCause.{DescCause}
use Rattle.proj_desc.specs.declared.cause.DescError.{DescError}
use Rattle.proj_desc.specs.declared.cause.DescError.TheVariants.{Bad, Memory}
use Rattle.proj_desc.specs.Causes.{Tells}
use Rattle.proj_desc.specs.FirstCause.{when}
use Rattle.proj_desc.proofs.Lists.{all_false, list_all-map}

tested : (b d : Bool) (c told : DescCause) → (b ≡ false → d ≡ false) → when (not b) c ≡ Some told → when (not d) c ≡ Some told
tested true d c told h e = cc
tested false d c told h e = ap (λ b. when (not b) c) (h refl) ∙ e

-- a test that fails where another one does
pub told_by : (b d : Bool) (c : DescCause) (e : DescError) → (b ≡ false → d ≡ false) → Tells (when (not b) c) e → Tells (when (not d) c) e
told_by b d c Memory h t = tt
told_by b d c (Bad told) h t = tested b d c told h t

pub told_of_all : {A : Type 0} (f : A → Bool) (c : DescCause) (xs : List A) (i : ℕ) (x : A) (e : DescError) → i < length xs → x ≡ get_or xs i x
    → Tells (when (not (f x)) c) e → Tells (when (not (list_all f xs)) c) e
told_of_all f c xs i x e h is t = told_by (f x) (list_all f xs) c e (all_false f xs i x h is) t

-- the same over a list of values that were taken for something
pub told_of_values : {A : Type 0} (test : A → Bool) (g : Data → A) (c : DescCause) (vs : List Value) (i : ℕ) (v : Value) (e : DescError) → i < length vs → v ≡ get_or vs i v
    → Tells (when (not (test (g (view v)))) c) e → Tells (when (not (list_all test (map g (map view vs)))) c) e
told_of_values test g c vs i v e h is t =
    subst (λ b. Tells (when (not b) c) e) (list_all-map (λ d. test (g d)) view vs ∙ list_all-map test g (map view vs))
    (told_of_all (λ v. test (g (view v))) c vs i v e h is t)

pub true_of_values : {A : Type 0} (test : A → Bool) (g : Data → A) (vs : List Value) (i : ℕ) (v : Value) → i < length vs → v ≡ get_or vs i v
    → list_all test (map g (map view vs)) ≡ true → test (g (view v)) ≡ true
true_of_values test g [] i v h is t = absurd (omega arith)
true_of_values test g (w ∷ vs) zero v h is t = ap (λ v. test (g (view v))) is ∙ (both (test (g (view w))) (list_all test (map g (map view vs))) t).0
true_of_values test g (w ∷ vs) (suc i) v h is t = true_of_values test g vs i v (omega arith) is (both (test (g (view w))) (list_all test (map g (map view vs))) t).1
