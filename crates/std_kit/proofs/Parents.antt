-- A path and its parent.
use Rattle.std.proofs.Common.{◌≡◌, Bool, true, false, cond, not, ◌&&◌, [], ◌∷◌, length, drop, refl, sym, ap, ◌∙◌}
use Rattle.std.specs.Prelude.{Some}
use Rattle.res_path.specs.Paths.{Names, path_eq, is_prefix, parent, parent_of}
use Rattle.builder_api.proofs.Places.{itself}
use Rattle.std_kit.specs.Roots.{relative}

above_itself : (q : Names) → is_prefix (parent q) q ≡ true
above_itself [] = refl
above_itself (n ∷ []) = refl
above_itself (n ∷ m ∷ q) = ap (λ b. b && is_prefix (parent (m ∷ q)) (m ∷ q)) (itself n) ∙ above_itself (m ∷ q)

pub parent_is : (q x : Names) → Some x ≡ parent_of q → x ≡ parent q
parent_is [] x h = cc
parent_is (n ∷ q) x h = cc

pub parent_above : (q x : Names) → Some x ≡ parent_of q → is_prefix x q ≡ true
parent_above q x h = ap (λ p. is_prefix p q) (parent_is q x h) ∙ above_itself q

negated : (r b : Bool) → r ≡ not b → r ≡ false → b ≡ true
negated r true is h = refl
negated r false is h = let no : true ≡ false = sym is ∙ h in cc

pub relative_itself : (root q x : Names) (r : Bool) → r ≡ not (path_eq root q) → r ≡ false → Some x ≡ parent_of q → drop (length x) q ≡ relative root q
relative_itself root q x r is same h =
    ap (λ p. drop (length p) q) (parent_is q x h) ∙ sym (ap (λ b. cond b (drop (length (parent q)) q) (drop (length root) q)) (negated r (path_eq root q) is same))
