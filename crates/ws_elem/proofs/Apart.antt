-- A path that is kept apart, and the others.
use Rattle.std.proofs.Common.{◌≡◌, Bool, true, false, cond, ◌||◌, List, ◌∷◌, refl, sym, ap, ◌∙◌, subst}
use Rattle.std.specs.Prelude.{Option, Some, None, is_some, IfSome}
use Rattle.std.specs.BTreeMap.{is_at}
use Rattle.res_path.specs.Paths.{Names, path_cmp}
use Rattle.ws_elem.specs.Inside.Slots.{is_among, one_and, is_kept_apart, SetsRoom}
use Rattle.ws_elem.proofs.Cuts.{same_at}
use Rattle.ws_elem.proofs.Kept.{symm, sets_no_room}

-- the path has room already
pub sets_again : (one : Option Names) (others : List Names) (p : Names) → is_kept_apart one p ≡ true → SetsRoom (one_and one others) (one_and one others) p true
sets_again None others p h = cc
sets_again (Some x) others p h = subst (SetsRoom (x ∷ others) (x ∷ others) p) (ap (λ b. b || is_among others p) h) (sets_no_room (x ∷ others) p)

pub sets_one : (one : Option Names) (others : List Names) (p : Names) → is_some one ≡ false → SetsRoom (one_and one others) (p ∷ others) p true
sets_one None others p h q = ap (λ b. b || is_among others q) (sym (symm p q)) ∙ by (is_at (path_cmp p) q) (is_among others q)
  where
    by : (b c : Bool) → (b || c) ≡ cond b true c
    by true c = refl
    by false c = refl
sets_one (Some x) others p h q = cc

pub takes_one : (others : List Names) (p : Names) → is_among others p ≡ false → SetsRoom (p ∷ others) others p false
takes_one others p h q = by (is_at (path_cmp p) q) refl ∙ ap (λ b. cond (is_at (path_cmp p) q) false (b || is_among others q)) (symm p q)
  where
    by : (b : Bool) → is_at (path_cmp p) q ≡ b → is_among others q ≡ cond b false (b || is_among others q)
    by true i = ap (is_among others) (sym (same_at p q i)) ∙ h
    by false i = refl

pub takes_apart : (one : Option Names) (others : List Names) (p : Names) → IfSome one (λ x. is_among others x ≡ false) → is_kept_apart one p ≡ true
    → SetsRoom (one_and one others) others p false
takes_apart None others p a h = cc
takes_apart (Some x) others p a h = subst (λ y. SetsRoom (x ∷ others) others y false) (sym (same_at p x h)) (takes_one others x a)

pub takes_other : (one : Option Names) (others left : List Names) (p : Names) → is_kept_apart one p ≡ false → SetsRoom others left p false
    → SetsRoom (one_and one others) (one_and one left) p false
takes_other None others left p h g q = g q
takes_other (Some x) others left p h g q = ap (λ b. is_at (path_cmp q) x || b) (g q) ∙ by (is_at (path_cmp p) q) refl
  where
    by : (b : Bool) → is_at (path_cmp p) q ≡ b → (is_at (path_cmp q) x || cond b false (is_among others q)) ≡ cond b false (is_at (path_cmp q) x || is_among others q)
    by true i = ap (λ b. b || false) (ap (λ y. is_at (path_cmp y) x) (sym (same_at p q i)) ∙ h)
    by false i = refl
