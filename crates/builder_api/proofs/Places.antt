-- Paths that overlap, and paths that don't.
use Rattle.std.proofs.Common.{◌≡◌, ℕ, Bool, true, false, not, ◌&&◌, ◌||◌, List, [], ◌∷◌, ◌++◌, refl, sym, ap, ◌∙◌}
use Rattle.std.specs.Cmp.Lexicographic.{bytes_decides}
use Rattle.std.specs.List.{AllByRecursion}
use Rattle.std.specs.Str.{bytes_eq}
use Rattle.res_path.specs.Paths.{Names, path_eq, is_prefix, overlap}
use Rattle.builder_api.specs.Places.{is_within, is_below}

pub same_name : (n m : List ℕ) → bytes_eq n m ≡ true → n ≡ m
same_name n m h = (bytes_decides n m).0 h

pub itself : (n : List ℕ) → bytes_eq n n ≡ true
itself n = (bytes_decides n n).1 refl

flipped : (n m : List ℕ) → bytes_eq n m ≡ true → bytes_eq m n ≡ true
flipped n m h = (bytes_decides m n).1 (sym (same_name n m h))

turned : (n m : List ℕ) → bytes_eq n m ≡ bytes_eq m n
turned n m = by (bytes_eq n m) (bytes_eq m n) refl refl
  where
    by : (a b : Bool) → bytes_eq n m ≡ a → bytes_eq m n ≡ b → a ≡ b
    by true true p q = refl
    by false false p q = refl
    by true false p q = sym (flipped n m p) ∙ q
    by false true p q = sym p ∙ flipped m n q

pub both : (a b : Bool) → (a && b) ≡ true → (a ≡ true) × (b ≡ true)
both true b h = (refl, h)
both false b h = cc

pub neither : (a b : Bool) → (a || b) ≡ false → (a ≡ false) × (b ≡ false)
neither true b h = cc
neither false b h = (refl, h)

pub or_true : (a : Bool) → (a || true) ≡ true
or_true true = refl
or_true false = refl

overlap_step : (n m : List ℕ) (p q : Names) → overlap (n ∷ p) (m ∷ q) ≡ (bytes_eq n m && overlap p q)
overlap_step n m p q = ap (λ b. (bytes_eq n m && is_prefix p q) || (b && is_prefix q p)) (sym (turned n m)) ∙ by (bytes_eq n m) (is_prefix p q) (is_prefix q p)
  where
    by : (a b c : Bool) → ((a && b) || (a && c)) ≡ (a && (b || c))
    by true b c = refl
    by false b c = refl

-- what lies at or below a path that is clear of o is clear of o
pub clear_below : (p q o : Names) → overlap p o ≡ false → is_prefix p q ≡ true → overlap q o ≡ false
clear_below [] q o h f = cc
clear_below (n ∷ p) [] o h f = cc
clear_below (n ∷ p) (k ∷ q) [] h f = cc
clear_below (n ∷ p) (k ∷ q) (m ∷ o) h f =
    let parts = both (bytes_eq n k) (is_prefix p q) f in
    overlap_step k m q o ∙ by (bytes_eq n m) (bytes_eq k m) (ap (λ x. bytes_eq x m) (sym (same_name n k parts.0))) (sym (overlap_step n m p o) ∙ h) (λ x. clear_below p q o x parts.1)
  where
    by : (a b : Bool) → b ≡ a → (a && overlap p o) ≡ false → (overlap p o ≡ false → overlap q o ≡ false) → (b && overlap q o) ≡ false
    by true true e h next = next h
    by a false e h next = refl
    by false true e h next = cc

pub prefix_of_below : (o q : Names) → is_below o q ≡ true → is_prefix o q ≡ true
prefix_of_below [] q h = refl
prefix_of_below (n ∷ o) [] h = cc
prefix_of_below (n ∷ o) (m ∷ q) h =
    let parts = both (bytes_eq n m) (is_below o q) h in
    ap (λ b. b && is_prefix o q) parts.0 ∙ prefix_of_below o q parts.1

pub below_append : (o : Names) (n : List ℕ) (r : Names) → is_below o (o ++ n ∷ r) ≡ true
below_append [] n r = refl
below_append (m ∷ o) n r = ap (λ b. b && is_below o (o ++ n ∷ r)) (itself m) ∙ below_append o n r

pub prefix_append : (o r : Names) → is_prefix o (o ++ r) ≡ true
prefix_append [] r = refl
prefix_append (m ∷ o) r = ap (λ b. b && is_prefix o (o ++ r)) (itself m) ∙ prefix_append o r

-- nothing below o is at o or above it
pub not_above : (o : Names) (n : List ℕ) (r : Names) → is_prefix (o ++ n ∷ r) o ≡ false
not_above [] n r = refl
not_above (m ∷ o) n r = ap (λ b. b && is_prefix (o ++ n ∷ r) o) (itself m) ∙ not_above o n r

-- the front cancels
pub cancel : (o p q : Names) → o ++ p ≡ o ++ q → p ≡ q
cancel [] p q e = e
cancel (n ∷ o) p q e = cancel o p q (cc)

-- a path below o, in its two parts
pub record Split (o q : Names) : Type 0 where
  pub name : List ℕ
  pub rest : Names
  pub is : q ≡ o ++ name ∷ rest

pub split : (o q : Names) → is_below o q ≡ true → Split o q
split [] [] h = cc
split [] (n ∷ q) h = record { name = n; rest = q; is = refl }
split (n ∷ o) [] h = cc
split (n ∷ o) (m ∷ q) h =
    let parts = both (bytes_eq n m) (is_below o q) h in
    let s = split o q parts.1 in
    record { name = s.name; rest = s.rest; is = λ i. sym (same_name n m parts.0) i ∷ s.is i }

-- nothing is both clear of o and below it
pub not_below : (q o : Names) → overlap q o ≡ false → is_below o q ≡ false
not_below q o h = by (is_below o q) refl
  where
    by : (b : Bool) → is_below o q ≡ b → b ≡ false
    by false e = refl
    by true e = sym (prefix_of_below o q e) ∙ (neither (is_prefix q o) (is_prefix o q) h).1

-- what lies within roots that are clear of o is clear of o
pub clear_within : (roots : List Names) (q o : Names) → AllByRecursion (λ p. overlap p o ≡ false) roots → is_within roots q ≡ true → overlap q o ≡ false
clear_within [] q o h f = cc
clear_within (p ∷ roots) q o h f = by (is_prefix p q) refl f (clear_within roots q o h.1)
  where
    by : (b : Bool) → is_prefix p q ≡ b → (b || is_within roots q) ≡ true → (is_within roots q ≡ true → overlap q o ≡ false) → overlap q o ≡ false
    by true e f next = clear_below p q o h.0 e
    by false e f next = next f

-- what lies below an output that is clear of o is clear of o
pub clear_output : (out q o : Names) → overlap out o ≡ false → is_below out q ≡ true → overlap q o ≡ false
clear_output out q o h f = clear_below out q o h (prefix_of_below out q f)

-- below is at or below, and not at
below_is : (o q : Names) → is_below o q ≡ (is_prefix o q && not (path_eq o q))
below_is [] [] = refl
below_is [] (n ∷ q) = refl
below_is (n ∷ o) [] = refl
below_is (n ∷ o) (m ∷ q) = by (bytes_eq n m) (below_is o q)
  where
    by : (b : Bool) → is_below o q ≡ (is_prefix o q && not (path_eq o q)) → (b && is_below o q) ≡ ((b && is_prefix o q) && not (b && path_eq o q))
    by true h = h
    by false h = refl

pub below_then : (o q : Names) (p b : Bool) → p ≡ is_prefix o q → p ≡ true → b ≡ not (path_eq o q) → b ≡ is_below o q
below_then o q p b h t n = n ∙ ap (λ x. x && not (path_eq o q)) (sym t ∙ h) ∙ sym (below_is o q)

pub below_else : (o q : Names) (p : Bool) → p ≡ is_prefix o q → p ≡ false → p ≡ is_below o q
below_else o q p h t = t ∙ ap (λ x. x && not (path_eq o q)) (sym t ∙ h) ∙ sym (below_is o q)
