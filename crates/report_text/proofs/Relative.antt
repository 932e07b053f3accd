-- Paths as they are seen from a base.
use Rattle.std.proofs.Common.{◌≡◌, ℕ, suc, ◌+◌, ◌≤◌, true, List, [], ◌∷◌, ◌++◌, length, drop, refl, ap, ◌∙◌, append-nil, arith, length-append}
use Rattle.std.specs.Prelude.{◌≢◌}
use Rattle.std.specs.List.{join_with_byte}
use Rattle.res_path.specs.Paths.{Names, is_prefix, slashed, path_text}
use Rattle.res_path.proofs.Built.{prefix_split, prefix_slashed}
use Rattle.report_text.specs.Trees.{names_text}

-- the text of a path with names
pub named_text : (p : Names) → length p ≢ 0 → path_text p ≡ slashed p
named_text [] h = absurd (h refl)
named_text (name ∷ p) h = refl

joined : (name : List ℕ) (names : Names) → name ++ slashed names ≡ join_with_byte 47 (name ∷ names)
joined name [] = append-nil name
joined name (other ∷ names) = ap (λ rest. name ++ 47 ∷ rest) (joined other names)

-- the base itself
pub base_text : (base p : Names) → is_prefix base p ≡ true → length p ≡ length base → names_text (drop (length base) p) ≡ names_text []
base_text base p h same = by (drop (length base) p) (ap length (prefix_split base p h) ∙ length-append base (drop (length base) p))
  where
    by : (rest : Names) → length p ≡ length base + length rest → names_text rest ≡ names_text []
    by [] e = refl
    by (name ∷ names) e = let more : length (name ∷ names) ≡ length names + 1 = omega arith in absurd (omega arith)

-- what comes after a front and one more
past : (front : List ℕ) (x : ℕ) (rest : List ℕ) → drop (suc (length front)) (front ++ x ∷ rest) ≡ rest
past [] x rest = refl
past (y ∷ front) x rest = past front x rest

after_slash : (front : List ℕ) (names : Names) → length names ≢ 0 → drop (length front + 1) (front ++ slashed names) ≡ names_text names
after_slash front [] h = absurd (h refl)
after_slash front (name ∷ names) h =
    let more : length front + 1 ≡ suc (length front) = omega arith in
    ap (λ n. drop n (front ++ 47 ∷ (name ++ slashed names))) more ∙ past front 47 (name ++ slashed names) ∙ joined name names

some_slash : (names : Names) → length names ≢ 0 → 1 ≤ length (slashed names)
some_slash [] h = absurd (h refl)
some_slash (name ∷ names) h = omega arith

-- what is below it
module _ (base p : Names) (h : is_prefix base p ≡ true) (apart : length p ≢ length base) where
  lengths : length p ≡ length base + length (drop (length base) p)
  lengths = ap length (prefix_split base p h) ∙ length-append base (drop (length base) p)

  text_is : path_text p ≡ slashed base ++ slashed (drop (length base) p)
  text_is = named_text p (λ none. apart (omega (arith, lengths))) ∙ prefix_slashed base p h

  some_names : length (drop (length base) p) ≢ 0
  some_names none = apart (omega (arith, lengths))

  pub below_text : drop (length (slashed base) + 1) (path_text p) ≡ names_text (drop (length base) p)
  below_text = ap (drop (length (slashed base) + 1)) text_is ∙ after_slash (slashed base) (drop (length base) p) some_names

  pub below_bound : length (slashed base) + 1 ≤ length (path_text p)
  below_bound =
      let all : length (path_text p) ≡ length (slashed base) + length (slashed (drop (length base) p)) = ap length text_is ∙ length-append (slashed base) (slashed (drop (length base) p)) in
      let some = some_slash (drop (length base) p) some_names in omega arith
