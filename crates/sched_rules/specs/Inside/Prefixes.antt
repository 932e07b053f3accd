-- Prefixes, and paths that overlap.
use Rattle.std.proofs.Common.{◌≡◌, ℕ, Bool, true, false, ◌&&◌, ◌||◌, List, [], ◌∷◌, refl, sym, ap, ◌∙◌}
use Rattle.std.specs.Str.{bytes_eq}
use Rattle.std.specs.Cmp.Lexicographic.{bytes_decides}
use Rattle.res_path.specs.Paths.{Names, is_prefix, overlap}
use Rattle.res_path.proofs.Spelled.{both}

pub name_itself : (n : List ℕ) → bytes_eq n n ≡ true
name_itself n = (bytes_decides n n).1 refl

pub same_name : (n m : List ℕ) → bytes_eq n m ≡ true → n ≡ m
same_name n m h = (bytes_decides n m).0 h

together : (a b : Bool) → a ≡ true → b ≡ true → (a && b) ≡ true
together a b h g = ap (λ x. x && b) h ∙ g

pub or_left : (a b : Bool) → a ≡ true → (a || b) ≡ true
or_left a b h = ap (λ x. x || b) h

pub or_right : (a b : Bool) → b ≡ true → (a || b) ≡ true
or_right true b h = refl
or_right false b h = h

pub or_back : (a b : Bool) → (a || b) ≡ (b || a)
or_back true true = refl
or_back true false = refl
or_back false true = refl
or_back false false = refl

pub prefix_itself : (p : Names) → is_prefix p p ≡ true
prefix_itself [] = refl
prefix_itself (name ∷ p) = together (bytes_eq name name) (is_prefix p p) (name_itself name) (prefix_itself p)

pub prefix_both : (p q : Names) → is_prefix p q ≡ true → is_prefix q p ≡ true → p ≡ q
prefix_both [] [] h g = refl
prefix_both [] (m ∷ q) h g = cc
prefix_both (n ∷ p) [] h g = cc
prefix_both (n ∷ p) (m ∷ q) h g =
    let one = both (bytes_eq n m) (is_prefix p q) h in
    let two = both (bytes_eq m n) (is_prefix q p) g in
    let names = same_name n m one.0 in
    let rest = prefix_both p q one.1 two.1 in
    cc

pub prefix_through : (p q r : Names) → is_prefix p q ≡ true → is_prefix q r ≡ true → is_prefix p r ≡ true
prefix_through [] q r h g = refl
prefix_through (n ∷ p) [] r h g = cc
prefix_through (n ∷ p) (m ∷ q) [] h g = cc
prefix_through (n ∷ p) (m ∷ q) (k ∷ r) h g =
    let one = both (bytes_eq n m) (is_prefix p q) h in
    let two = both (bytes_eq m k) (is_prefix q r) g in
    together (bytes_eq n k) (is_prefix p r) ((bytes_decides n k).1 (same_name n m one.0 ∙ same_name m k two.0)) (prefix_through p q r one.1 two.1)

-- two prefixes of one path overlap
pub prefixes_overlap : (p q r : Names) → is_prefix p r ≡ true → is_prefix q r ≡ true → overlap p q ≡ true
prefixes_overlap [] q r h g = refl
prefixes_overlap (n ∷ p) [] r h g = refl
prefixes_overlap (n ∷ p) (m ∷ q) [] h g = cc
prefixes_overlap (n ∷ p) (m ∷ q) (k ∷ r) h g =
    let one = both (bytes_eq n k) (is_prefix p r) h in
    let two = both (bytes_eq m k) (is_prefix q r) g in
    let names : n ≡ m = same_name n k one.0 ∙ sym (same_name m k two.0) in
    let at : bytes_eq n m ≡ true = (bytes_decides n m).1 names in
    let back : bytes_eq m n ≡ true = (bytes_decides m n).1 (sym names) in
    (λ i. (at i && is_prefix p q) || (back i && is_prefix q p)) ∙ prefixes_overlap p q r one.1 two.1

-- what overlaps a path overlaps each prefix of it
pub wider_overlap : (p q r : Names) → is_prefix p q ≡ true → overlap q r ≡ true → overlap p r ≡ true
wider_overlap p q r h g = by (is_prefix q r) refl
  where
    by : (b : Bool) → is_prefix q r ≡ b → overlap p r ≡ true
    by true e = or_left (is_prefix p r) (is_prefix r p) (prefix_through p q r h e)
    by false e = prefixes_overlap p r q h (ap (λ b. b || is_prefix r q) (sym e) ∙ g)
