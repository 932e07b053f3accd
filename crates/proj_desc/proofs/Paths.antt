-- Texts of paths.
use Rattle.std.proofs.Common.{suc, cond, length-append, ◌≡◌, ◌≢◌, ◌⊎◌, inl, inr, ℕ, ◌+◌, ◌<◌, ◌≤◌, Bool, true, false, not, ◌&&◌, nat_lt, nat_le, Some, None, List, [], ◌∷◌, ◌++◌, length, drop, get_or, refl, sym, ap, ◌∙◌, arith, subst}
use Rattle.std.specs.Prelude.{IsUtf8, IsCharBoundary}
use Rattle.std.specs.List.{list_any, list_all, AllByRecursion}
use Rattle.std.specs.Str.{bytes_eq}
use Rattle.std.proofs.lemmas.Str.{IsCharBoundary-after_ascii}
use Rattle.std.proofs.lemmas.Bool.Decides.{nat_tests}
use Rattle.std.proofs.lemmas.List.Splits.{length-slice_split}
use Rattle.res_path.proofs.Built.{short_text}
use Rattle.proj_desc.specs.declared.input.Input.TheVariants.{Own, Other}
use Rattle.res_path.specs.Names.{IsName, is_name}
use Rattle.res_path.specs.Paths.{Names, IsPath, slashed, path_text}
use Rattle.res_path.specs.Parts.{is_slash, first_bad, path_fault}
use Rattle.res_path.specs.declared.error.PathError.{PathError}
use Rattle.res_path.specs.declared.error.PathError.TheVariants.{BadSegment, TooDeep, TooLong, Memory}
use Rattle.res_path.proofs.Spelled.{both, parts_of-slashed, slashed-slice_split}
use Rattle.proj_desc.specs.Described.{names, begins_with_slash, input_of}
use Rattle.proj_desc.specs.Canonical.{inner_text}
use Rattle.proj_desc.specs.Causes.{lies_in_none, is_path, is_inside, is_placed, Tells}
use Rattle.proj_desc.specs.Inside.Placing.{told_path}
use Rattle.proj_desc.specs.FirstCause.{when}
use Rattle.proj_desc.specs.declared.cause.DescCause.TheVariants.{BadPath}

pub text_begins : (p : Names) → path_text p ≡ 47 ∷ inner_text p
text_begins [] = refl
text_begins (name ∷ p) = refl

-- a path's text may be cut after its first slash
pub cut_after_slash : (p : Names) (text : List ℕ) → text ≡ path_text p → IsUtf8 text → IsCharBoundary text 1
cut_after_slash p text e u =
    let begins : text ≡ 47 ∷ inner_text p = e ∙ text_begins p in
    let long : 0 < length text = omega (arith, ap length begins) in
    let first : get_or text 0 0 ≡ 47 = ap (λ bytes. get_or bytes 0 0) begins in
    IsCharBoundary-after_ascii text 0 u long (omega arith)

-- the names of a path that has some, out of its text
pub inner_names : (p : Names) → IsPath p → 0 < length p → names (inner_text p) ≡ p
inner_names [] h n = absurd (omega arith)
inner_names (name ∷ p) h n = parts_of-slashed (name ∷ p) h.names

pub in_none : (projects : List (List ℕ)) (p rest : Names) (first text : List ℕ) → IsPath p → 0 < length p → text ≡ inner_text p → names text ≡ first ∷ rest
    → not (list_any (bytes_eq first) projects) ≡ lies_in_none projects p
in_none projects p rest first text h n e f =
    let same : first ∷ rest ≡ p = sym f ∙ ap names e ∙ inner_names p h n in
    ap (lies_in_none projects) same

-- ---- texts that are paths, and texts that aren't

all_names : (p : Names) → AllByRecursion IsName p → list_all is_name p ≡ true
all_names [] h = refl
all_names (name ∷ p) h = let named = h.0 in rw named.form (all_names p h.1)

all_three : (a b c : Bool) → a ≡ true → b ≡ true → c ≡ true → (a && b && c) ≡ true
all_three a b c e f g = rw (e, f, g) refl

pub path_is : (p : Names) → IsPath p → is_path p ≡ true
path_is p h =
    all_three (list_all is_name p) (nat_le (length p) 64) (nat_le (length (path_text p)) 4096) (all_names p h.names)
    (let deep = h.deep in grind (arith, nat_tests)) (let long = h.long in grind (arith, nat_tests))

pub slash_first : (text : List ℕ) → begins_with_slash text ≡ true → text ≡ 47 ∷ drop 1 text
slash_first [] h = cc
slash_first (b ∷ bytes) h = let slash : b ≡ 47 = grind (arith, nat_tests) in ap (λ x. x ∷ bytes) slash

-- a path's text other than the root's
pub read_path : (p : Names) (text : List ℕ) → IsPath p → path_text p ≡ text → 1 ≢ length text → (p ≡ names (drop 1 text)) × (is_path (names (drop 1 text)) ≡ true)
read_path [] text h e n = absurd (n (ap length e))
read_path (name ∷ p) text h e n =
    let same : name ∷ p ≡ names (drop 1 text) = sym (inner_names (name ∷ p) h (omega arith)) ∙ ap (λ bytes. names (drop 1 bytes)) e in
    (same, sym (ap is_path same) ∙ path_is (name ∷ p) h)

pub root_text : (text : List ℕ) → begins_with_slash text ≡ true → 1 ≡ length text → is_path (names (drop 1 text)) ≡ false
root_text [] h e = cc
root_text (b ∷ []) h e = refl
root_text (b ∷ c ∷ text) h e = absurd (omega arith)

none_bad : (at : ℕ) (p : Names) → list_all is_name p ≡ true → first_bad at p ≡ None
none_bad at [] h = refl
none_bad at (name ∷ p) h = let parts = both (is_name name) (list_all is_name p) h in rw parts.0 (none_bad (at + length name + 1) p parts.1)

spelled : (p : Names) (bytes : List ℕ) → slashed p ≡ 47 ∷ bytes → path_text p ≡ 47 ∷ bytes
spelled [] bytes h = cc
spelled (name ∷ p) bytes h = h

pub faultless : (rest : List ℕ) → is_path (names rest) ≡ true → path_fault (47 ∷ rest) ≡ None
faultless [] h = cc
faultless (b ∷ bytes) h =
    let p = names (b ∷ bytes) in
    let all = both (list_all is_name p && nat_le (length p) 64) (nat_le (length (path_text p)) 4096) h in
    let named = both (list_all is_name p) (nat_le (length p) 64) all.0 in
    let text : path_text p ≡ 47 ∷ b ∷ bytes = spelled p (b ∷ bytes) (slashed-slice_split (b ∷ bytes)) in
    let short : nat_lt 4096 (length (47 ∷ b ∷ bytes)) ≡ false = (let size = ap length text in let fits = all.1 in grind (arith, nat_tests)) in
    let deep : nat_lt 64 (length p) ≡ false = (let fits = named.1 in grind (arith, nat_tests)) in
    let good : first_bad 1 p ≡ None = none_bad 1 p named.0 in
    rw (short, good, deep) refl

pub faulty : (rest : List ℕ) (e : PathError) → path_fault (47 ∷ rest) ≡ Some e → is_path (names rest) ≡ false
faulty rest e h = by (is_path (names rest)) refl
  where
    by : (b : Bool) → is_path (names rest) ≡ b → b ≡ false
    by true g = absurd (let never : Some e ≡ None = sym h ∙ faultless rest g in cc)
    by false g = refl

pub told_fault : (text : List ℕ) (e : PathError) → begins_with_slash text ≡ true → (e ≡ Memory) ⊎ (path_fault text ≡ Some e)
    → Tells (when (not (is_path (names (drop 1 text)))) BadPath) (told_path e)
told_fault text e h f = by e f
  where
    never : (e : PathError) → (path_fault text ≡ Some e) → when (not (is_path (names (drop 1 text)))) BadPath ≡ Some BadPath
    never e g = ap (λ b. when (not b) BadPath) (faulty (drop 1 text) e (ap path_fault (sym (slash_first text h)) ∙ g))

    by : (e : PathError) → (e ≡ Memory) ⊎ (path_fault text ≡ Some e) → Tells (when (not (is_path (names (drop 1 text)))) BadPath) (told_path e)
    by Memory g = tt
    by (BadSegment at) (inl g) = cc
    by (BadSegment at) (inr g) = never (BadSegment at) g
    by TooDeep (inl g) = cc
    by TooDeep (inr g) = never TooDeep g
    by TooLong (inl g) = cc
    by TooLong (inr g) = never TooLong g

pub some_part : (text : List ℕ) → 0 < length (names text)
some_part text = omega (arith, length-slice_split is_slash text)

pub other_placed : (project text : List ℕ) → begins_with_slash text ≡ true → is_path (names (drop 1 text)) ≡ true → is_placed project (input_of text) ≡ true
other_placed project text h g =
    let some : nat_lt 0 (length (names (drop 1 text))) ≡ true = (let part = some_part (drop 1 text) in grind (arith, nat_tests)) in
    ap (λ b. is_placed project (cond b (Other (names (drop 1 text))) (Own (names text)))) h ∙ (λ i. some i && g i)

-- a path inside a project is one by itself
pub within : (project : List ℕ) (p : Names) → is_path (project ∷ p) ≡ true → is_path p ≡ true
within project p h =
    let all = both (list_all is_name (project ∷ p) && nat_le (length (project ∷ p)) 64) (nat_le (length (path_text (project ∷ p))) 4096) h in
    let named = both (list_all is_name (project ∷ p)) (nat_le (length (project ∷ p)) 64) all.0 in
    let each = both (is_name project) (list_all is_name p) named.0 in
    let size : length (slashed (project ∷ p)) ≡ suc (length project + length (slashed p)) = ap suc (length-append project (slashed p)) in
    let fits : length (slashed (project ∷ p)) ≤ 4096 = (let long = all.1 in grind (arith, nat_tests)) in
    let few : length (project ∷ p) ≤ 64 = (let deep = named.1 in grind (arith, nat_tests)) in
    let short : length (path_text p) ≤ 4096 = short_text p (omega arith) in
    all_three (list_all is_name p) (nat_le (length p) 64) (nat_le (length (path_text p)) 4096) each.1
    (grind (arith, nat_tests)) (grind (arith, nat_tests))

and_false : (b : Bool) → (b && false) ≡ false
and_false true = refl
and_false false = refl

pub not_within : (project : List ℕ) (p : Names) → is_path p ≡ false → is_inside project p ≡ false
not_within project p h = by (is_path (project ∷ p)) refl
  where
    by : (b : Bool) → is_path (project ∷ p) ≡ b → (nat_lt 0 (length p) && b) ≡ false
    by true e = absurd (let never : true ≡ false = sym (within project p e) ∙ h in cc)
    by false e = and_false (nat_lt 0 (length p))

-- ---- a path below a project's

below : (project : List ℕ) (p base from : Names) → base ≡ project ∷ [] → from ≡ [] → base ++ drop (length from) p ≡ project ∷ p
below project p base from e f = λ i. e i ++ drop (length (f i)) p

pub inside_is : (project : List ℕ) (p base from : Names) → is_name project ≡ true → base ≡ project ∷ [] → from ≡ [] → is_path p ≡ true → 0 < length p
    → (64 < length (base ++ drop (length from) p) → ⊥)
    → ((length (base ++ drop (length from) p) ≤ 64) × (4096 < length (path_text (base ++ drop (length from) p))) → ⊥)
    → is_inside project p ≡ true
inside_is project p base from n e f h some not_deep not_long =
    let whole = below project p base from e f in
    let all = both (list_all is_name p && nat_le (length p) 64) (nat_le (length (path_text p)) 4096) h in
    let named = both (list_all is_name p) (nat_le (length p) 64) all.0 in
    let deep : length (project ∷ p) ≤ 64 = (let size = ap length whole in omega arith) in
    let long : 4096 < length (path_text (project ∷ p)) → ⊥ = λ g. not_long (
      subst (λ (q : Names). length q ≤ 64) (sym whole) deep,
      subst (λ (q : Names). 4096 < length (path_text q)) (sym whole) g,
    ) in
    let size : nat_lt 0 (length p) ≡ true = grind (arith, nat_tests) in
    let path : is_path (project ∷ p) ≡ true = all_three (is_name project && list_all is_name p) (nat_le (length (project ∷ p)) 64) (nat_le (length (path_text (project ∷ p))) 4096)
    (λ i. n i && named.0 i) (grind (arith, nat_tests)) (at_most (length (path_text (project ∷ p))) long) in
    λ i. size i && path i
  where
    at_most : (n : ℕ) → (4096 < n → ⊥) → nat_le n 4096 ≡ true
    at_most n h = grind (arith, nat_tests)
