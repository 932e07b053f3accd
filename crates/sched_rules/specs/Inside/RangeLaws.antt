-- The laws of ranges of lines.
use Rattle.std.proofs.Common.{◌≡◌, ℕ, Bool, true, false, ◌||◌, refl, sym, ap, ◌∙◌, arith}
use Rattle.std.proofs.lemmas.Bool.Decides.{nat_tests}
use Rattle.sched_rules.specs.Inside.Prefixes.{or_right}
use Rattle.sched_rules.specs.Ranges.{same_range, lies_within, share_a_line}

abbrev pub range_contains : ℕ → ℕ → ℕ → ℕ → Bool
range_contains a b c d = same_range a b c d || lies_within a b c d

abbrev pub ranges_conflict : ℕ → ℕ → ℕ → ℕ → Bool
ranges_conflict a b c d = same_range a b c d || share_a_line a b c d

pub range_itself : (a b : ℕ) → same_range a b a b ≡ true
range_itself a b = grind (arith, nat_tests)

pub range_contains_both : (a b c d : ℕ) → range_contains a b c d ≡ true → range_contains c d a b ≡ true → (a ≡ c) × (b ≡ d)
range_contains_both a b c d h g = grind (arith, nat_tests)

pub range_contains_through : (a b c d e f : ℕ) → range_contains a b c d ≡ true → range_contains c d e f ≡ true → range_contains a b e f ≡ true
range_contains_through a b c d e f h g = grind (arith, nat_tests)

pub ranges_conflict_back : (a b c d : ℕ) → ranges_conflict a b c d ≡ ranges_conflict c d a b
ranges_conflict_back a b c d = grind (arith, nat_tests)

pub range_contained_conflicts : (a b c d : ℕ) → range_contains a b c d ≡ true → ranges_conflict a b c d ≡ true
range_contained_conflicts a b c d h = grind (arith, nat_tests)

within_shares : (a b c d e f : ℕ) → lies_within a b c d ≡ true → share_a_line c d e f ≡ true → share_a_line a b e f ≡ true
within_shares a b c d e f h g = grind (arith, nat_tests)

pub wider_range_conflicts : (a b c d e f : ℕ) → range_contains a b c d ≡ true → ranges_conflict c d e f ≡ true → ranges_conflict a b e f ≡ true
wider_range_conflicts a b c d e f h g = by (same_range a b c d) (same_range c d e f) refl refl
  where
    by : (one two : Bool) → same_range a b c d ≡ one → same_range c d e f ≡ two → ranges_conflict a b e f ≡ true
    by true two x y =
        let first : a ≡ c = grind (arith, nat_tests) in
        let last : b ≡ d = grind (arith, nat_tests) in
        (λ i. ranges_conflict (first i) (last i) e f) ∙ g
    by false true x y =
        let within : lies_within a b c d ≡ true = ap (λ t. t || lies_within a b c d) (sym x) ∙ h in
        let first : c ≡ e = grind (arith, nat_tests) in
        let last : d ≡ f = grind (arith, nat_tests) in
        range_contained_conflicts a b e f ((λ i. range_contains a b (sym first i) (sym last i)) ∙ h)
    by false false x y =
        let within : lies_within a b c d ≡ true = ap (λ t. t || lies_within a b c d) (sym x) ∙ h in
        let shared : share_a_line c d e f ≡ true = ap (λ t. t || share_a_line c d e f) (sym y) ∙ g in
        or_right (same_range a b e f) (share_a_line a b e f) (within_shares a b c d e f within shared)
