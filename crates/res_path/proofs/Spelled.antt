-- Texts and the names that they spell.
use Rattle.std.proofs.Common.{◌≡◌, ◌≢◌, ℕ, ◌+◌, ◌<◌, ◌≤◌, Bool, true, false, not, cond, nat_lt, nat_le, ◌&&◌, ◌==◌, List, [], ◌∷◌, ◌++◌, length, Option, Some, None, refl, sym, ◌∙◌, ap, subst, arith, append-nil, lit<, get_or}
use Rattle.std.specs.Prelude.{IsUtf8}
use Rattle.std.specs.List.{slice_split, onto_first, list_all, AllByRecursion}
use Rattle.std.proofs.lemmas.Grind.{common_steps}
use Rattle.std.proofs.lemmas.Bool.Decides.{nat_tests}
use Rattle.std.proofs.Math.Seq.{take-append_seam, drop-append_seam, get_or-append_seam}
use Rattle.std.proofs.lemmas.List.Splits.{slice_split-cons_no}
use Rattle.std.proofs.lemmas.Str.{IsUtf8-take, IsUtf8-drop, IsCharBoundary-before_ascii, IsCharBoundary-after_ascii}
use Rattle.res_path.specs.Names.{is_name, is_name_byte, has_name_length, is_dots, IsName}
use Rattle.res_path.specs.Paths.{Names, IsPath, slashed, path_text}
use Rattle.res_path.specs.Parts.{is_slash, parts_of, first_bad, bad_segment, part_count, path_fault, segment_fault, IsKept}
use Rattle.res_path.specs.declared.error.PathError.{PathError}
use Rattle.res_path.specs.declared.error.PathError.TheVariants.{BadSegment, TooDeep, TooLong}

-- ---- a text that is split and spelled again

spelled_part : (x : ℕ) (xs : List ℕ) (parts : Names) → slashed parts ≡ 47 ∷ xs → slashed (onto_first x parts) ≡ 47 ∷ x ∷ xs
spelled_part x xs [] e = cc
spelled_part x xs (part ∷ parts) e = cc

-- the parts, each after a slash, are the text after a slash
pub slashed-slice_split : (xs : List ℕ) → slashed (slice_split is_slash xs) ≡ 47 ∷ xs
slashed-slice_split [] = refl
slashed-slice_split (x ∷ xs) = by (is_slash x) refl (slashed-slice_split xs)
  where
    by : (b : Bool) → is_slash x ≡ b → slashed (slice_split is_slash xs) ≡ 47 ∷ xs → slashed (slice_split is_slash (x ∷ xs)) ≡ 47 ∷ x ∷ xs
    by true e again = let slash : x ≡ 47 = grind (arith, nat_tests) in rw e (ap (λ bytes. 47 ∷ bytes) (again ∙ ap (λ b. b ∷ xs) (sym slash)))
    by false e again = rw e (spelled_part x xs (slice_split is_slash xs) again)

-- ---- what is spelled is split again

pub both : (a b : Bool) → (a && b) ≡ true → (a ≡ true) × (b ≡ true)
both true true h = (refl, refl)
both true false h = cc
both false b h = cc

negated : (a : Bool) → not a ≡ true → a ≡ false
negated true h = cc
negated false h = refl

pub no_slash : (b : ℕ) → is_name_byte b ≡ true → is_slash b ≡ false
no_slash b h = negated (is_slash b) (both (nat_le 32 b && not (b == 127)) (not (is_slash b)) h).1

pub form_bytes : (bytes : List ℕ) → is_name bytes ≡ true → list_all is_name_byte bytes ≡ true
form_bytes bytes h =
    (both (has_name_length bytes) (list_all is_name_byte bytes) (both (has_name_length bytes && list_all is_name_byte bytes) (not (is_dots bytes)) h).0).1

-- a name ends at the slash after it, and else at the end
split_after : (name rest : List ℕ) → list_all is_name_byte name ≡ true → slice_split is_slash (name ++ 47 ∷ rest) ≡ name ∷ slice_split is_slash rest
split_after [] rest h = refl
split_after (b ∷ bs) rest h =
    let parts = both (is_name_byte b) (list_all is_name_byte bs) h in
    slice_split-cons_no is_slash b (bs ++ 47 ∷ rest) (no_slash b parts.0) ∙ ap (onto_first b) (split_after bs rest parts.1)

split_last : (name : List ℕ) → list_all is_name_byte name ≡ true → slice_split is_slash name ≡ name ∷ []
split_last [] h = refl
split_last (b ∷ bs) h =
    let parts = both (is_name_byte b) (list_all is_name_byte bs) h in
    slice_split-cons_no is_slash b bs (no_slash b parts.0) ∙ ap (onto_first b) (split_last bs parts.1)

pub true_form : (name : List ℕ) → IsName name → is_name name ≡ true
true_form name h = h.form

-- the parts of the names, each after a slash, are the names
pub parts_of-slashed : (p : Names) → AllByRecursion IsName p → parts_of (slashed p) ≡ p
parts_of-slashed [] h = refl
parts_of-slashed (name ∷ []) h = ap (slice_split is_slash) (append-nil name) ∙ split_last name (form_bytes name (true_form name h.0))
parts_of-slashed (name ∷ other ∷ p) h =
    split_after name (other ++ slashed p) (form_bytes name (true_form name h.0)) ∙ ap (λ names. name ∷ names) (parts_of-slashed (other ∷ p) h.1)

-- ---- the causes

-- where no part is bad, each has a name's form
good_parts : (at : ℕ) (parts : Names) → first_bad at parts ≡ None → AllByRecursion (λ part. is_name part ≡ true) parts
good_parts at [] h = tt
good_parts at (part ∷ parts) h = by (is_name part) refl (good_parts (at + length part + 1) parts)
  where
    by : (b : Bool) → is_name part ≡ b → (first_bad (at + length part + 1) parts ≡ None → AllByRecursion (λ part. is_name part ≡ true) parts) → AllByRecursion (λ part. is_name part ≡ true) (part ∷ parts)
    by true e go = (e, go (rw e at h))
    by false e go = absurd (let bad : Some at ≡ None = rw e at h in cc)

good_names : (at : ℕ) (p : Names) → AllByRecursion IsName p → first_bad at p ≡ None
good_names at [] h = refl
good_names at (name ∷ p) h = rw (true_form name h.0) (good_names (at + length name + 1) p h.1)

after_slash : (bytes : List ℕ) → IsUtf8 (47 ∷ bytes) → IsUtf8 bytes
after_slash bytes h = IsUtf8-drop (47 ∷ bytes) 1 h (IsCharBoundary-after_ascii (47 ∷ bytes) 0 h (grind (arith, common_steps)) (lit< tt))

-- a text that is cut at a slash
cut_utf8 : (front bytes : List ℕ) → IsUtf8 (front ++ 47 ∷ bytes) → IsUtf8 front × IsUtf8 (47 ∷ bytes)
cut_utf8 front bytes h =
    let here : get_or (front ++ 47 ∷ bytes) (length front) 0 ≡ 47 = get_or-append_seam front 47 bytes 0 in
    let within : length front < length (front ++ 47 ∷ bytes) = grind (arith, common_steps) in
    let boundary = IsCharBoundary-before_ascii (front ++ 47 ∷ bytes) (length front) within (omega arith) in (
      subst IsUtf8 (take-append_seam front (47 ∷ bytes)) (IsUtf8-take (front ++ 47 ∷ bytes) (length front) h boundary),
      subst IsUtf8 (drop-append_seam front (47 ∷ bytes)) (IsUtf8-drop (front ++ 47 ∷ bytes) (length front) h boundary),
    )

-- the parts of a UTF-8 text are UTF-8
utf8_parts : (parts : Names) → IsUtf8 (slashed parts) → AllByRecursion IsUtf8 parts
utf8_parts [] h = tt
utf8_parts (part ∷ []) h = (subst IsUtf8 (append-nil part) (after_slash (part ++ []) h), tt)
utf8_parts (part ∷ other ∷ parts) h =
    let cut = cut_utf8 part (other ++ slashed parts) (after_slash (part ++ 47 ∷ (other ++ slashed parts)) h) in
    (cut.0, utf8_parts (other ∷ parts) cut.1)

both_all : (parts : Names) → AllByRecursion IsUtf8 parts → AllByRecursion (λ part. is_name part ≡ true) parts → AllByRecursion IsName parts
both_all [] u f = tt
both_all (part ∷ parts) u f = (record { utf8 = u.0; form = f.0 }, both_all parts u.1 f.1)

-- ---- a text without a fault is a path's

unchosen : (b : Bool) (e : PathError) → cond b (Some e) None ≡ None → b ≡ false
unchosen true e h = cc
unchosen false e h = refl

pub unfaulted : (b : Bool) (bad : Option ℕ) (count : ℕ) → cond b (Some TooLong) (segment_fault bad count) ≡ None → (b ≡ false) × (bad ≡ None) × (nat_lt 64 count ≡ false)
unfaulted true bad count h = cc
unfaulted false (Some at) count h = cc
unfaulted false None count h = (refl, refl, unchosen (nat_lt 64 count) TooDeep h)

faultless : (b : Bool) (bad : Option ℕ) (count : ℕ) → b ≡ false → bad ≡ None → nat_lt 64 count ≡ false → cond b (Some TooLong) (segment_fault bad count) ≡ None
faultless b bad count e f g = rw (e, f, g) refl

pub begun : (b : Bool) (bad : Option ℕ) → cond b bad (Some 0) ≡ None → (b ≡ true) × (bad ≡ None)
begun true bad h = (refl, h)
begun false bad h = cc

path_text-slashed : (p : Names) (b : ℕ) (bytes : List ℕ) → slashed p ≡ b ∷ bytes → path_text p ≡ b ∷ bytes
path_text-slashed [] b bytes h = cc
path_text-slashed (name ∷ p) b bytes h = h

pub kept_text : (text : List ℕ) → IsUtf8 text → path_fault text ≡ None → 1 ≢ length text → IsKept text
kept_text [] u h n = absurd (let bad : Some (BadSegment 0) ≡ None = h in cc)
kept_text (b ∷ []) u h n = absurd (n refl)
kept_text (b ∷ c ∷ bytes) u h n =
    let parts = slice_split is_slash (c ∷ bytes) in
    let free = unfaulted (nat_lt 4096 (length (b ∷ c ∷ bytes))) (bad_segment (b ∷ c ∷ bytes)) (length (slice_split is_slash (c ∷ bytes))) h in
    let good = begun (is_slash b) (first_bad 1 (slice_split is_slash (c ∷ bytes))) free.1 in
    let slash : b ≡ 47 = grind (arith, nat_tests) in
    let spelled : slashed (slice_split is_slash (c ∷ bytes)) ≡ b ∷ c ∷ bytes = slashed-slice_split (c ∷ bytes) ∙ ap (λ x. x ∷ c ∷ bytes) (sym slash) in
    let text : path_text (slice_split is_slash (c ∷ bytes)) ≡ b ∷ c ∷ bytes = path_text-slashed (slice_split is_slash (c ∷ bytes)) b (c ∷ bytes) spelled in
    let deep : length (slice_split is_slash (c ∷ bytes)) ≤ 64 = grind (arith, nat_tests) in
    let short : length (b ∷ c ∷ bytes) ≤ 4096 = grind (arith, nat_tests) in
    record {
      path = record {
        names = both_all (slice_split is_slash (c ∷ bytes)) (utf8_parts (slice_split is_slash (c ∷ bytes)) (subst IsUtf8 (sym spelled) u)) (good_parts 1 (slice_split is_slash (c ∷ bytes)) good.1);
        deep = deep;
        long = subst (λ (bytes : List ℕ). length bytes ≤ 4096) (sym text) short;
      };
      spelled = spelled;
    }

-- ---- what a path is kept in

pub path_text-parts_of : (text : List ℕ) → IsKept text → 0 < length text → path_text (parts_of text) ≡ text
path_text-parts_of [] k h = absurd (omega arith)
path_text-parts_of (b ∷ bytes) k h = path_text-slashed (parts_of (b ∷ bytes)) b bytes k.spelled

no_empty_name : IsName [] → ⊥
no_empty_name h = let e : false ≡ true = h.form in cc

pub no_fault : (p : Names) → IsPath p → path_fault (path_text p) ≡ None
no_fault [] h = refl
no_fault ([] ∷ p) h = absurd (no_empty_name h.names.0)
no_fault ((c ∷ cs) ∷ p) h =
    let parts = parts_of-slashed ((c ∷ cs) ∷ p) h.names in
    faultless (nat_lt 4096 (length (path_text ((c ∷ cs) ∷ p)))) (bad_segment (path_text ((c ∷ cs) ∷ p))) (part_count (path_text ((c ∷ cs) ∷ p)))
    (let short = h.long in grind (arith, nat_tests))
    (ap (first_bad 1) parts ∙ good_names 1 ((c ∷ cs) ∷ p) h.names)
    (ap (λ (names : Names). nat_lt 64 (length names)) parts ∙ (let deep : length ((c ∷ cs) ∷ p) ≤ 64 = h.deep in grind (arith, nat_tests)))

pub same_text : (p q : Names) → AllByRecursion IsName p → AllByRecursion IsName q → path_text p ≡ path_text q → p ≡ q
same_text [] [] h g e = refl
same_text [] ([] ∷ q) h g e = absurd (no_empty_name g.0)
same_text [] ((c ∷ cs) ∷ q) h g e = cc
same_text ([] ∷ p) q h g e = absurd (no_empty_name h.0)
same_text ((c ∷ cs) ∷ p) [] h g e = cc
same_text ((c ∷ cs) ∷ p) (name ∷ q) h g e = sym (parts_of-slashed ((c ∷ cs) ∷ p) h) ∙ ap parts_of e ∙ parts_of-slashed (name ∷ q) g
