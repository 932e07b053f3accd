-- A run of entries in path order.
use Rattle.std.proofs.Common.{◌≡◌, ℕ, zero, suc, ◌≤◌, ◌<◌, Bool, true, false, cond, not, ◌&&◌, List, [], ◌∷◌, length, take, drop, T, refl, sym, ap, ◌∙◌, arith}
use Rattle.std.specs.Prelude.{filter, slice_index_or}
use Rattle.std.specs.declared.cmp.Ordering.{Ordering}
use Rattle.std.specs.declared.cmp.Ordering.TheVariants.{Less, Equal, Greater}
use Rattle.std.specs.Ordering.{is_lt, is_gt}
use Rattle.std.specs.List.{AllWithin, list_all}
use Rattle.std.specs.List.Sorted.{IsPartitionPoint, IsPartitionedBy}
use Rattle.std.specs.FinMap.{is_sorted}
use Rattle.std.specs.FinMap.Entries.{below_all, is_sorted-where_key}
use Rattle.res_path.specs.Paths.{Names, path_cmp, is_prefix}
use Rattle.res_path.specs.PathLaws.{path_cmp_total}
use Rattle.res_path.proofs.Prefixes.{path_cmp_exact, path_itself, prefix_le, prefix_between}
use Rattle.builder_api.proofs.Places.{both}
use Rattle.std_kit.proofs.Neighbours.{not_over, not_under}

-- ---- the parts at a partition point

module _ {X : Type 0} (test : X → Bool) where
  none_pass : (xs : List X) → AllWithin (λ x. test x ≡ false) xs 0 (length xs) → ([] ≡ filter test xs) × (xs ≡ filter (λ x. not (test x)) xs)
  none_pass [] h = (refl, refl)
  none_pass (x ∷ xs) h = by (test x) (h 0 x (omega arith) (omega arith)) (none_pass xs (λ k d low high. h (suc k) d (omega arith) (omega (arith, high))))
    where
      by : (b : Bool) → b ≡ false → ([] ≡ filter test xs) × (xs ≡ filter (λ x. not (test x)) xs)
          → ([] ≡ cond b (x ∷ filter test xs) (filter test xs)) × (x ∷ xs ≡ cond (not b) (x ∷ filter (λ x. not (test x)) xs) (filter (λ x. not (test x)) xs))
      by true h rest = cc
      by false h rest = (rest.0, ap (λ ys. x ∷ ys) rest.1)

  pub parts : (xs : List X) (i : ℕ) → i ≤ length xs → IsPartitionPoint (λ x. test x ≡ true) (λ x. test x ≡ false) xs i → (take i xs ≡ filter test xs) × (drop i xs ≡ filter (λ x. not (test x)) xs)
  parts [] zero h at = (refl, refl)
  parts [] (suc i) h at = absurd (omega (arith, h))
  parts (x ∷ xs) zero h at = none_pass (x ∷ xs) at.1
  parts (x ∷ xs) (suc i) h at =
      by (test x) (at.0 0 x (omega arith) (omega arith))
      (parts xs i (omega (arith, h)) ((λ k d low high. at.0 (suc k) d (omega arith) (omega (arith, high))), (λ k d low high. at.1 (suc k) d (omega (arith, low)) (omega (arith, high)))))
    where
      by : (b : Bool) → b ≡ true → (take i xs ≡ filter test xs) × (drop i xs ≡ filter (λ x. not (test x)) xs)
          → (x ∷ take i xs ≡ cond b (x ∷ filter test xs) (filter test xs)) × (drop i xs ≡ cond (not b) (x ∷ filter (λ x. not (test x)) xs) (filter (λ x. not (test x)) xs))
      by true h rest = (ap (λ ys. x ∷ ys) rest.0, rest.1)
      by false h rest = cc

-- ---- entries in path order, by their places

first : (a b : Bool) → T (a && b) → T a
first true b h = tt
first false b h = h

second : (a b : Bool) → T (a && b) → T b
second true b h = h
second false b h = absurd h

low : (o : Ordering) → T (is_lt o) → is_gt o ≡ false
low Less h = refl
low Equal h = absurd h
low Greater h = absurd h

after_first : (p : Names) (es : List (Names × List ℕ)) (j : ℕ) (d : Names × List ℕ) → T (below_all path_cmp p es) → j < length es → is_gt (path_cmp p (slice_index_or es j d).0) ≡ false
after_first p [] j d h g = absurd (omega (arith, g))
after_first p (e ∷ es) zero d h g = low (path_cmp p e.0) (first _ _ h)
after_first p (e ∷ es) (suc j) d h g = after_first p es j d (second _ _ h) (omega (arith, g))

in_order : (es : List (Names × List ℕ)) (i j : ℕ) (d : Names × List ℕ) → T (is_sorted path_cmp es) → i ≤ j → j < length es → is_gt (path_cmp (slice_index_or es i d).0 (slice_index_or es j d).0) ≡ false
in_order [] i j d h le lt = absurd (omega (arith, lt))
in_order (e ∷ es) zero zero d h le lt = ap is_gt (path_itself e.0)
in_order (e ∷ es) zero (suc j) d h le lt = after_first e.0 es j d (first _ _ h) (omega (arith, lt))
in_order (e ∷ es) (suc i) zero d h le lt = absurd (omega (arith, le))
in_order (e ∷ es) (suc i) (suc j) d h le lt = in_order es i j d (second _ _ h) (omega (arith, le)) (omega (arith, lt))

still_lower : (p q r : Names) → is_gt (path_cmp p q) ≡ false → is_lt (path_cmp q r) ≡ true → is_lt (path_cmp p r) ≡ true
still_lower p q r h g = by (path_cmp p q) refl h
  where
    less : (o : Ordering) → is_lt o ≡ true → o ≡ Less
    less Less h = refl
    less Equal h = cc
    less Greater h = cc

    by : (o : Ordering) → path_cmp p q ≡ o → is_gt o ≡ false → is_lt (path_cmp p r) ≡ true
    by Less e h = ap is_lt (path_cmp_total.trans p q r e (less (path_cmp q r) g))
    by Equal e h = ap (λ x. is_lt (path_cmp x r)) (path_cmp_exact p q e) ∙ g
    by Greater e h = cc

abbrev pub is_before : Names → Names × List ℕ → Bool
is_before root e = is_lt (path_cmp e.0 root)

abbrev pub is_under : Names → Names × List ℕ → Bool
is_under root e = is_prefix root e.0

pub before_first : (root : Names) (es : List (Names × List ℕ)) → T (is_sorted path_cmp es) → IsPartitionedBy (is_before root) es
before_first root es sorted i j d le lt h = still_lower (slice_index_or es i d).0 (slice_index_or es j d).0 root (in_order es i j d sorted le lt) h

at_place : (test : Names × List ℕ → Bool) (es : List (Names × List ℕ)) (i : ℕ) (d : Names × List ℕ) → list_all test es ≡ true → i < length es → test (slice_index_or es i d) ≡ true
at_place test [] i d h lt = absurd (omega (arith, lt))
at_place test (e ∷ es) zero d h lt = (both (test e) (list_all test es) h).0
at_place test (e ∷ es) (suc i) d h lt = at_place test es i d (both (test e) (list_all test es) h).1 (omega (arith, lt))

opposite : (b : Bool) → not b ≡ true → b ≡ false
opposite true h = cc
opposite false h = refl

pub under_first : (root : Names) (es : List (Names × List ℕ)) → T (is_sorted path_cmp es) → list_all (λ e. not (is_before root e)) es ≡ true → IsPartitionedBy (is_under root) es
under_first root es sorted from i j d le lt h =
    prefix_between root (slice_index_or es i d).0 (slice_index_or es j d).0
    (not_over (slice_index_or es i d).0 root (opposite (is_before root (slice_index_or es i d)) (at_place (λ e. not (is_before root e)) es i d from (omega (arith, le, lt)))))
    (in_order es i j d sorted le lt) h

-- ---- those from the root on have all that are under it

pub from_sorted : (root : Names) (es : List (Names × List ℕ)) → T (is_sorted path_cmp es) → T (is_sorted path_cmp (filter (λ e. not (is_before root e)) es))
from_sorted root es h = is_sorted-where_key path_cmp (λ q. not (is_lt (path_cmp q root))) es h

pub from_all : (test : Names × List ℕ → Bool) (es : List (Names × List ℕ)) → list_all test (filter test es) ≡ true
from_all test [] = refl
from_all test (e ∷ es) = by (test e) refl (from_all test es)
  where
    by : (b : Bool) → test e ≡ b → list_all test (filter test es) ≡ true → list_all test (cond b (e ∷ filter test es) (filter test es)) ≡ true
    by true is h = ap (λ b. b && list_all test (filter test es)) is ∙ h
    by false is h = h

-- a filter of what passes it anyway
pub twice : {X : Type 0} (f g : X → Bool) → ((x : X) → f x ≡ true → g x ≡ true) → (xs : List X) → filter f (filter g xs) ≡ filter f xs
twice f g h [] = refl
twice f g h (x ∷ xs) = by (f x) refl (g x) refl (twice f g h xs)
  where
    by : (a : Bool) → f x ≡ a → (b : Bool) → g x ≡ b → filter f (filter g xs) ≡ filter f xs → filter f (cond b (x ∷ filter g xs) (filter g xs)) ≡ cond a (x ∷ filter f xs) (filter f xs)
    by a i true j rest = (λ k. cond (i k) (x ∷ filter f (filter g xs)) (filter f (filter g xs))) ∙ ap (λ ys. cond a (x ∷ ys) ys) rest
    by false i false j rest = rest
    by true i false j rest = let never : true ≡ false = sym (h x i) ∙ j in cc

pub under_from : (root : Names) (es : List (Names × List ℕ)) → filter (is_under root) (filter (λ e. not (is_before root e)) es) ≡ filter (is_under root) es
under_from root es = twice (is_under root) (λ e. not (is_before root e)) (λ e h. ap not (not_under root e.0 (prefix_le root e.0 h))) es
