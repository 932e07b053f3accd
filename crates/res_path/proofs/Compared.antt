-- Paths are compared by the texts that they are kept in.
use Rattle.std.proofs.Common.{◌≡◌, ℕ, ◌+◌, Bool, true, false, ◌&&◌, ◌==◌, List, [], ◌∷◌, ◌++◌, refl, ◌∙◌, ap, arith, add-one, Less, Equal, Greater}
use Prim.Native.Nat.compare
use Rattle.std.specs.declared.cmp.Ordering.{Ordering}
use Rattle.std.specs.Ordering.{nat_cmp, ordering_then}
use Rattle.std.specs.Cmp.Lexicographic.{slice_cmp}
use Rattle.std.specs.List.{list_all, AllByRecursion}
use Rattle.std.specs.Str.{bytes_eq}
use Rattle.std.proofs.lemmas.Bool.Decides.{nat_tests}
use Rattle.res_path.specs.Names.{is_name_byte, IsName}
use Rattle.res_path.specs.Paths.{Names, path_cmp, is_prefix, slashed}
use Rattle.res_path.specs.Inside.Order.{rank, text_cmp, text_prefix}
use Rattle.res_path.proofs.Spelled.{both, no_slash, form_bytes, true_form}

then_then : (a b c : Ordering) → ordering_then a (ordering_then b c) ≡ ordering_then (ordering_then a b) c
then_then Less b c = refl
then_then Equal b c = refl
then_then Greater b c = refl

-- ---- order

ranked : (x : ℕ) → is_name_byte x ≡ true → rank x ≡ x + 1
ranked x h = rw (no_slash x h) refl

next_cmp : (x y : ℕ) → nat_cmp (x + 1) (y + 1) ≡ nat_cmp x y
next_cmp x y = rw (add-one x, add-one y, compare.suc-suc, compare.suc-suc) refl

slash_first : (y : ℕ) → nat_cmp 0 (y + 1) ≡ Less
slash_first y = grind (arith, nat_tests)

slash_second : (x : ℕ) → nat_cmp (x + 1) 0 ≡ Greater
slash_second x = grind (arith, nat_tests)

-- two names in front of the rest of two paths
names_cmp : (n m : List ℕ) (p q : Names) → list_all is_name_byte n ≡ true → list_all is_name_byte m ≡ true
    → text_cmp (n ++ slashed p) (m ++ slashed q) ≡ ordering_then (slice_cmp nat_cmp n m) (text_cmp (slashed p) (slashed q))
names_cmp [] [] p q h g = refl
names_cmp [] (y ∷ m) [] q h g = refl
names_cmp [] (y ∷ m) (name ∷ p) q h g =
    let here = both (is_name_byte y) (list_all is_name_byte m) g in
    ap (λ o. ordering_then o (text_cmp (name ++ slashed p) (m ++ slashed q))) (ap (nat_cmp 0) (ranked y here.0) ∙ slash_first y)
names_cmp (x ∷ n) [] p [] h g = refl
names_cmp (x ∷ n) [] p (name ∷ q) h g =
    let here = both (is_name_byte x) (list_all is_name_byte n) h in
    ap (λ o. ordering_then o (text_cmp (n ++ slashed p) (name ++ slashed q))) (ap (λ r. nat_cmp r 0) (ranked x here.0) ∙ slash_second x)
names_cmp (x ∷ n) (y ∷ m) p q h g =
    let one = both (is_name_byte x) (list_all is_name_byte n) h in
    let two = both (is_name_byte y) (list_all is_name_byte m) g in
    let here : nat_cmp (rank x) (rank y) ≡ nat_cmp x y = (λ i. nat_cmp (ranked x one.0 i) (ranked y two.0 i)) ∙ next_cmp x y in
    let rest = names_cmp n m p q one.1 two.1 in
    (λ i. ordering_then (here i) (rest i)) ∙ then_then (nat_cmp x y) (slice_cmp nat_cmp n m) (text_cmp (slashed p) (slashed q))

pub text_cmp-slashed : (p q : Names) → AllByRecursion IsName p → AllByRecursion IsName q → text_cmp (slashed p) (slashed q) ≡ path_cmp p q
text_cmp-slashed [] [] h g = refl
text_cmp-slashed [] (m ∷ q) h g = refl
text_cmp-slashed (n ∷ p) [] h g = refl
text_cmp-slashed (n ∷ p) (m ∷ q) h g =
    names_cmp n m p q (form_bytes n (true_form n h.0)) (form_bytes m (true_form m g.0))
    ∙ ap (ordering_then (slice_cmp nat_cmp n m)) (text_cmp-slashed p q h.1 g.1)

-- ---- prefixes

and_and : (a b c : Bool) → (a && (b && c)) ≡ ((a && b) && c)
and_and true b c = refl
and_and false b c = refl

other_way : (y : ℕ) → (y == 47) ≡ false → (47 == y) ≡ false
other_way y h = grind (arith, nat_tests)

names_prefix : (n m : List ℕ) (p q : Names) → list_all is_name_byte n ≡ true → list_all is_name_byte m ≡ true
    → text_prefix (n ++ slashed p) (m ++ slashed q) ≡ (bytes_eq n m && text_prefix (slashed p) (slashed q))
names_prefix [] [] p q h g = refl
names_prefix [] (y ∷ m) [] q h g = no_slash y (both (is_name_byte y) (list_all is_name_byte m) g).0
names_prefix [] (y ∷ m) (name ∷ p) q h g =
    let here = no_slash y (both (is_name_byte y) (list_all is_name_byte m) g).0 in
    ap (λ b. b && text_prefix (name ++ slashed p) (m ++ slashed q)) (other_way y here)
names_prefix (x ∷ n) [] p [] h g = refl
names_prefix (x ∷ n) [] p (name ∷ q) h g =
    let here = no_slash x (both (is_name_byte x) (list_all is_name_byte n) h).0 in
    ap (λ b. b && text_prefix (n ++ slashed p) (name ++ slashed q)) here
names_prefix (x ∷ n) (y ∷ m) p q h g =
    let one = both (is_name_byte x) (list_all is_name_byte n) h in
    let two = both (is_name_byte y) (list_all is_name_byte m) g in
    ap (λ b. (x == y) && b) (names_prefix n m p q one.1 two.1) ∙ and_and (x == y) (bytes_eq n m) (text_prefix (slashed p) (slashed q))

pub text_prefix-slashed : (p q : Names) → AllByRecursion IsName p → AllByRecursion IsName q → text_prefix (slashed p) (slashed q) ≡ is_prefix p q
text_prefix-slashed [] [] h g = refl
text_prefix-slashed [] (m ∷ q) h g = refl
text_prefix-slashed (n ∷ p) [] h g = refl
text_prefix-slashed (n ∷ p) (m ∷ q) h g =
    names_prefix n m p q (form_bytes n (true_form n h.0)) (form_bytes m (true_form m g.0))
    ∙ ap (λ b. bytes_eq n m && b) (text_prefix-slashed p q h.1 g.1)
