-- Paths, what stands above them, and what below.
use Rattle.std.proofs.Common.{◌≡◌, ◌≢◌, ◌≤◌, ◌<◌, ℕ, Bool, true, false, ◌&&◌, List, [], ◌∷◌, ◌++◌, length, take, drop, refl, sym, ap, ◌∙◌, subst, arith}
use Rattle.std.specs.Str.{bytes_eq}
use Rattle.std.specs.Cmp.Lexicographic.{bytes_decides}
use Rattle.res_path.specs.Paths.{Names, parent, is_prefix}

pub never : true ≡ false → ⊥
never h = cc

pub both : (a b : Bool) → (a && b) ≡ true → (a ≡ true) × (b ≡ true)
both true b h = (refl, h)
both false b h = absurd (never (sym h))

pub not_true : (b : Bool) → (b ≡ true → ⊥) → b ≡ false
not_true true h = absurd (h refl)
not_true false h = refl

-- names that are equal byte by byte are one
same_name : (n m : List ℕ) → bytes_eq n m ≡ true → n ≡ m
same_name n m h = (bytes_decides n m).0 h

name_itself : (n : List ℕ) → bytes_eq n n ≡ true
name_itself n = (bytes_decides n n).1 refl

-- ---- prefixes

-- what is below p is p followed by names
pub prefix_is : (p q : Names) → is_prefix p q ≡ true → p ++ drop (length p) q ≡ q
prefix_is [] q h = refl
prefix_is (n ∷ p) [] h = absurd (never (sym h))
prefix_is (n ∷ p) (m ∷ q) h =
    let parts = both (bytes_eq n m) (is_prefix p q) h in
    λ i. same_name n m parts.0 i ∷ prefix_is p q parts.1 i

pub prefix_front : (p s : Names) → is_prefix p (p ++ s) ≡ true
prefix_front [] s = refl
prefix_front (n ∷ p) s = ap (λ b. b && is_prefix p (p ++ s)) (name_itself n) ∙ prefix_front p s

pub prefix_itself : (p : Names) → is_prefix p p ≡ true
prefix_itself [] = refl
prefix_itself (n ∷ p) = ap (λ b. b && is_prefix p p) (name_itself n) ∙ prefix_itself p

pub prefix_length : (p q : Names) → is_prefix p q ≡ true → length p ≤ length q
prefix_length [] q h = omega arith
prefix_length (n ∷ p) [] h = absurd (never (sym h))
prefix_length (n ∷ p) (m ∷ q) h = let less : length p ≤ length q = prefix_length p q (both (bytes_eq n m) (is_prefix p q) h).1 in omega arith

-- two paths that are each below the other are one
pub prefix_turned : (p q : Names) → is_prefix p q ≡ true → is_prefix q p ≡ true → p ≡ q
prefix_turned [] [] h g = refl
prefix_turned [] (m ∷ q) h g = absurd (never (sym g))
prefix_turned (n ∷ p) [] h g = absurd (never (sym h))
prefix_turned (n ∷ p) (m ∷ q) h g =
    let parts = both (bytes_eq n m) (is_prefix p q) h in
    λ i. same_name n m parts.0 i ∷ prefix_turned p q parts.1 (both (bytes_eq m n) (is_prefix q p) g).1 i

-- what is above the root alone is the root
pub root_above : (p : Names) → is_prefix p [] ≡ true → p ≡ []
root_above [] h = refl
root_above (n ∷ p) h = absurd (never (sym h))

-- ---- parents

-- the parent has fewer names
pub parent_shorter : (p : Names) → p ≢ [] → length (parent p) < length p
parent_shorter [] h = absurd (h refl)
parent_shorter (n ∷ []) h = omega arith
parent_shorter (n ∷ m ∷ p) h = let less : length (parent (m ∷ p)) < length (m ∷ p) = parent_shorter (m ∷ p) (λ e. cc) in omega arith

-- what is below the parent of a path is below no more than the path is
pub prefix_parent : (p q : Names) → is_prefix p (parent q) ≡ true → is_prefix p q ≡ true
prefix_parent [] q h = refl
prefix_parent (n ∷ p) [] h = h
prefix_parent (n ∷ p) (m ∷ []) h = absurd (never (sym h))
prefix_parent (n ∷ p) (m ∷ k ∷ q) h = elim (bytes_eq n m) as (λ b. (b && is_prefix p (parent (k ∷ q))) ≡ true → (b && is_prefix p (k ∷ q)) ≡ true) [
  | true ↦ prefix_parent p (k ∷ q)
  | false ↦ λ e. e
] h

-- the parent of what is below p is at p or below it
pub parent_below : (p q : Names) → is_prefix p q ≡ true → q ≢ p → is_prefix p (parent q) ≡ true
parent_below [] q h g = refl
parent_below (n ∷ p) [] h g = absurd (never (sym h))
parent_below (n ∷ []) (m ∷ []) h g = absurd (g (ap (λ x. x ∷ []) (sym (same_name n m (both (bytes_eq n m) true h).0))))
parent_below (n ∷ k ∷ p) (m ∷ []) h g = absurd (never (sym (both (bytes_eq n m) false h).1))
parent_below (n ∷ p) (m ∷ k ∷ q) h g =
    let parts = both (bytes_eq n m) (is_prefix p (k ∷ q)) h in
    ap (λ b. b && is_prefix p (parent (k ∷ q))) parts.0
    ∙ parent_below p (k ∷ q) parts.1 (λ e. g (λ i. sym (same_name n m parts.0) i ∷ e i))

-- nothing is below its parent but the root
pub parent_above : (p : Names) → p ≢ [] → is_prefix p (parent p) ≡ false
parent_above p h = not_true (is_prefix p (parent p)) (λ e.
    let less : length (parent p) < length p = parent_shorter p h in
    let more : length p ≤ length (parent p) = prefix_length p (parent p) e in
    absurd (omega arith))

pub parent_append : (p s : Names) → s ≢ [] → parent (p ++ s) ≡ p ++ parent s
parent_append [] s h = refl
parent_append (n ∷ []) [] h = absurd (h refl)
parent_append (n ∷ []) (m ∷ s) h = refl
parent_append (n ∷ k ∷ p) s h = ap (λ x. n ∷ x) (parent_append (k ∷ p) s h)

-- ---- projects

-- the projects of a path and of one below it are one
pub project_below : (p q : Names) → p ≢ [] → is_prefix p q ≡ true → take 1 q ≡ take 1 p
project_below [] q h g = absurd (h refl)
project_below (n ∷ p) [] h g = absurd (never (sym g))
project_below (n ∷ p) (m ∷ q) h g = ap (λ x. x ∷ []) (sym (same_name n m (both (bytes_eq n m) (is_prefix p q) g).0))

-- what is below p is in a project that is below p, or p is in one
pub prefix_project : (p q : Names) → is_prefix p (take 1 q) ≡ true → is_prefix p q ≡ true
prefix_project [] q h = refl
prefix_project (n ∷ p) [] h = h
prefix_project (n ∷ []) (m ∷ q) h = h
prefix_project (n ∷ k ∷ p) (m ∷ q) h = absurd (never (sym (both (bytes_eq n m) false h).1))

pub project_prefix : (q : Names) → is_prefix (take 1 q) q ≡ true
project_prefix [] = refl
project_prefix (n ∷ q) = ap (λ b. b && true) (name_itself n)

pub project_length : (q : Names) → length (take 1 q) ≤ 1
project_length [] = omega arith
project_length (n ∷ q) = omega arith

pub project_itself : (p : Names) → length p ≤ 1 → take 1 p ≡ p
project_itself [] h = refl
project_itself (n ∷ []) h = refl
project_itself (n ∷ m ∷ p) h = absurd (omega arith)

pub one_short : (p : Names) → length p ≡ 1 → length p ≤ 1
one_short p h = omega arith

-- a path in the project of one name is at it or below it
pub in_project : (p q : Names) → take 1 q ≡ p → is_prefix p q ≡ true
in_project p q h = subst (λ x. is_prefix x q ≡ true) h (project_prefix q)
