-- Files found by name.
use Rattle.std.proofs.Common.{◌≡◌, ℕ, zero, suc, ◌<◌, Bool, true, cond, ◌&&◌, List, [], ◌∷◌, ◌++◌, length, get_or, refl, sym, ap, ◌∙◌, arith}
use Rattle.std.specs.Prelude.{if◌then◌else◌, Option, Some, None}
use Rattle.std.specs.BTreeMap.{is_at}
use Rattle.std.specs.Cmp.Lexicographic.{slice_cmp, texts_ties}
use Rattle.std.specs.List.{list_all}
use Rattle.std.specs.Map.{lookup}
use Rattle.std.specs.Ordering.{nat_cmp}
use Rattle.std.specs.Str.{bytes_eq}
use Rattle.res_path.specs.Paths.{Names}
use Rattle.builder_api.proofs.Places.{both}
use Rattle.std_kit.specs.Roots.{relative}
use Rattle.std_expand.specs.Expand.{relative_text, file_named}
use Rattle.std_expand.specs.Inside.Lookups.{found}

-- entries that differ at one name
pub one_put : (es fs : List (List ℕ × List ℕ)) (name bytes : List ℕ)
    → ((n : List ℕ) → lookup (is_at (slice_cmp nat_cmp n)) fs ≡ cond (is_at (slice_cmp nat_cmp name) n) (Some bytes) (lookup (is_at (slice_cmp nat_cmp n)) es))
    → (n : List ℕ) → found fs n ≡ cond (bytes_eq name n) (Some bytes) (found es n)
one_put es fs name bytes h n = h n ∙ ap (λ b. cond b (Some bytes) (found es n)) (sym (texts_ties name n))

-- the bytes of the first of these files that has the name, and else those given
abbrev pub found_over : Names → List (Names × List ℕ) → List ℕ → Option (List ℕ) → Option (List ℕ)
found_over root [] name others = others
found_over root (e ∷ es) name others = if bytes_eq (relative_text (relative root e.0)) name then Some e.1 else found_over root es name others

pub over_none : (root : Names) (es : List (Names × List ℕ)) (name : List ℕ) → found_over root es name None ≡ file_named root es name
over_none root [] name = refl
over_none root (e ∷ es) name = ap (cond (bytes_eq (relative_text (relative root e.0)) name) (Some e.1)) (over_none root es name)

-- the last one, put over the others
pub over_last : (root : Names) (es : List (Names × List ℕ)) (e : Names × List ℕ) (name : List ℕ) (others : Option (List ℕ))
    → found_over root (es ++ e ∷ []) name others ≡ found_over root es name (cond (bytes_eq (relative_text (relative root e.0)) name) (Some e.1) others)
over_last root [] e name others = refl
over_last root (x ∷ es) e name others = ap (cond (bytes_eq (relative_text (relative root x.0)) name) (Some x.1)) (over_last root es e name others)

-- what passes for all but the last, and for the last
pub all_last : {X : Type 0} (test : X → Bool) (xs : List X) (x : X) → list_all test (xs ++ x ∷ []) ≡ true → (list_all test xs ≡ true) × (test x ≡ true)
all_last test [] x h = (refl, (both (test x) true h).0)
all_last test (y ∷ xs) x h =
    let parts = both (test y) (list_all test (xs ++ x ∷ [])) h in
    let rest = all_last test xs x parts.1 in
    ((λ i. parts.0 i && rest.0 i), rest.1)

-- what passes for all passes for the one at a place
pub all_at : {X : Type 0} (test : X → Bool) (xs : List X) (i : ℕ) (x : X) → list_all test xs ≡ true → i < length xs → x ≡ get_or xs i x → test x ≡ true
all_at test [] i x h within is = absurd (omega (arith, within))
all_at test (y ∷ xs) zero x h within is = ap test is ∙ (both (test y) (list_all test xs) h).0
all_at test (y ∷ xs) (suc i) x h within is = all_at test xs i x (both (test y) (list_all test xs) h).1 (omega (arith, within)) is

-- no entries
pub found_first : (root : Names) (files : List (Names × List ℕ)) (entries : List (List ℕ × List ℕ)) → entries ≡ [] → (n : List ℕ) → found_over root files n (found entries n) ≡ file_named root files n
found_first root files entries none n = ap (λ es. found_over root files n (found es n)) none ∙ over_none root files n

-- one more is put
pub found_more : (root : Names) (rest front : List (Names × List ℕ)) (e : Names × List ℕ) (name bytes : List ℕ) (es fs : List (List ℕ × List ℕ)) (n : List ℕ)
    → rest ≡ front ++ e ∷ [] → name ≡ relative_text (relative root e.0) → bytes ≡ e.1 → found fs n ≡ cond (bytes_eq name n) (Some bytes) (found es n)
    → found_over root front n (found fs n) ≡ found_over root rest n (found es n)
found_more root rest front e name bytes es fs n cut is same put =
    ap (found_over root front n) (put ∙ (λ i. cond (bytes_eq (is i) n) (Some (same i)) (found es n)))
    ∙ sym (over_last root front e n (found es n))
    ∙ ap (λ xs. found_over root xs n (found es n)) (sym cut)

pub found_all : (root : Names) (rest files : List (Names × List ℕ)) (entries : List (List ℕ × List ℕ)) (n : List ℕ) → length rest ≡ 0
    → found_over root rest n (found entries n) ≡ file_named root files n → found entries n ≡ file_named root files n
found_all root [] files entries n none h = h
found_all root (e ∷ rest) files entries n none h = absurd (omega (arith, none))
