-- Paths that are made of others.
use Rattle.std.proofs.Common.{◌≡◌, ℕ, ◌+◌, ◌-◌, ◌<◌, ◌≤◌, Bool, true, false, not, List, [], ◌∷◌, ◌++◌, length, take, drop, zero, suc, get_or, Some, refl, sym, ◌∙◌, ap, subst, arith, append_assoc, append-nil, add-one, drop-cons, length-append}
use Rattle.std.proofs.lemmas.List.{take-append-drop, length-take, length-drop}
use Rattle.std.specs.Prelude.{IsUtf8}
use Rattle.std.specs.List.{slice_range, count_by, list_all, AllByRecursion}
use Rattle.std.specs.Str.{bytes_eq}
use Rattle.std.specs.Cmp.Lexicographic.{bytes_decides, pointwise_decides}
use Rattle.std.proofs.lemmas.Grind.{flat_map-append}
use Rattle.std.proofs.lemmas.Str.{IsUtf8-append, IsUtf8-nil}
use Rattle.std.proofs.Math.Nat.{sub-zero}
use Rattle.std.proofs.Math.Seq.{drop-append_seam}
use Rattle.res_path.specs.Names.{IsName, is_name_byte}
use Rattle.res_path.specs.Paths.{Names, IsPath, path_eq, is_prefix, parent, parent_of, last_name, slashed, path_text}
use Rattle.res_path.specs.Parts.{is_slash, has_no_slash, parts_of, IsKept}
use Rattle.res_path.proofs.Kept.{count_kept}
use Rattle.res_path.proofs.Spelled.{both, no_slash, form_bytes, true_form, parts_of-slashed}

pub names_append : (p q : Names) → AllByRecursion IsName p → AllByRecursion IsName q → AllByRecursion IsName (p ++ q)
names_append [] q h g = g
names_append (name ∷ p) q h g = (h.0, names_append p q h.1 g)

pub slashed-append : (p q : Names) → slashed (p ++ q) ≡ slashed p ++ slashed q
slashed-append p q = flat_map-append (λ name. 47 ∷ name) p q

-- the root's text is a byte longer than what it is kept in
pub short_text : (p : Names) → length (slashed p) ≤ 4096 → length (path_text p) ≤ 4096
short_text [] h = omega arith
short_text (name ∷ p) h = h

pub short_kept : (p : Names) → length (path_text p) ≤ 4096 → length (slashed p) ≤ 4096
short_kept [] h = omega arith
short_kept (name ∷ p) h = h

pub long_text : (p : Names) → 4096 < length (slashed p) → 4096 < length (path_text p)
long_text [] h = absurd (omega arith)
long_text (name ∷ p) h = h

pub built : (p : Names) → AllByRecursion IsName p → length p ≤ 64 → length (slashed p) ≤ 4096 → IsKept (slashed p)
built p h d s = record {
  path = subst IsPath (sym (parts_of-slashed p h)) (record { names = h; deep = d; long = short_text p s });
  spelled = ap slashed (parts_of-slashed p h);
}

slash_utf8 : IsUtf8 (47 ∷ [])
unfolding lib.Utf8.encode
slash_utf8 = (47 ∷ [], (refl, refl))

utf8_slashed : (p : Names) → AllByRecursion IsName p → IsUtf8 (slashed p)
utf8_slashed [] h = IsUtf8-nil
utf8_slashed (name ∷ p) h = IsUtf8-append (47 ∷ name) (slashed p) (IsUtf8-append (47 ∷ []) name slash_utf8 (let named = h.0 in named.utf8)) (utf8_slashed p h.1)

pub kept_utf8 : (text : List ℕ) → IsKept text → IsUtf8 text
kept_utf8 text k = subst IsUtf8 k.spelled (utf8_slashed (parts_of text) k.path.names)

-- ---- what a prefix leaves

pub prefix_split : (p q : Names) → is_prefix p q ≡ true → q ≡ p ++ drop (length p) q
prefix_split [] q h = refl
prefix_split (name ∷ p) [] h = cc
prefix_split (name ∷ p) (other ∷ q) h =
    let parts = both (bytes_eq name other) (is_prefix p q) h in
    let first = (bytes_decides name other).0 parts.0 in
    let rest = prefix_split p q parts.1 in
    λ i. sym first i ∷ rest i

pub all_drop : (n : ℕ) (p : Names) → AllByRecursion IsName p → AllByRecursion IsName (drop n p)
all_drop zero p h = h
all_drop (suc n) [] h = tt
all_drop (suc n) (name ∷ p) h = all_drop n p h.1

pub prefix_slashed : (p q : Names) → is_prefix p q ≡ true → slashed q ≡ slashed p ++ slashed (drop (length p) q)
prefix_slashed p q h = ap slashed (prefix_split p q h) ∙ slashed-append p (drop (length p) q)

pub kept_rest : (p q : Names) → is_prefix p q ≡ true → drop (length (slashed p)) (slashed q) ≡ slashed (drop (length p) q)
kept_rest p q h =
    ap (drop (length (slashed p))) (prefix_slashed p q h)
    ∙ drop-append_seam (slashed p) (slashed (drop (length p) q))

-- ---- the last name

free_bytes : (bytes : List ℕ) → list_all is_name_byte bytes ≡ true → has_no_slash bytes ≡ true
free_bytes [] h = refl
free_bytes (b ∷ bytes) h =
    let parts = both (is_name_byte b) (list_all is_name_byte bytes) h in
    rw (no_slash b parts.0) (free_bytes bytes parts.1)

has_slash : (a xs : List ℕ) → has_no_slash (a ++ 47 ∷ xs) ≡ true → ⊥
has_slash [] xs h = cc
has_slash (b ∷ a) xs h = has_slash a xs (both (not (is_slash b)) (has_no_slash (a ++ 47 ∷ xs)) h).1

-- what stands before the last slash, and after it, is determined
last_cut : (a b xs ys : List ℕ) → a ++ 47 ∷ xs ≡ b ++ 47 ∷ ys → has_no_slash xs ≡ true → has_no_slash ys ≡ true → (a ≡ b) × (xs ≡ ys)
last_cut [] [] xs ys e h g = (refl, cc)
last_cut [] (z ∷ b) xs ys e h g = absurd (has_slash b ys (let rest : xs ≡ b ++ 47 ∷ ys = cc in subst (λ (bytes : List ℕ). has_no_slash bytes ≡ true) rest h))
last_cut (z ∷ a) [] xs ys e h g = absurd (has_slash a xs (let rest : ys ≡ a ++ 47 ∷ xs = cc in subst (λ (bytes : List ℕ). has_no_slash bytes ≡ true) rest g))
last_cut (z ∷ a) (w ∷ b) xs ys e h g =
    let tails : a ++ 47 ∷ xs ≡ b ++ 47 ∷ ys = cc in
    let rest = last_cut a b xs ys tails h g in
    let first : z ≡ w = cc in
    ((λ i. first i ∷ rest.0 i), rest.1)

-- a path with a name is its parent and its last name
ends : (name : List ℕ) (p : Names) → (last : List ℕ) × (last_name (name ∷ p) ≡ Some last) × (name ∷ p ≡ parent (name ∷ p) ++ last ∷ [])
ends name [] = (name, refl, refl)
ends name (other ∷ p) = let e = ends other p in (e.0, e.1, ap (λ names. name ∷ names) e.2)

names_front : (p q : Names) → AllByRecursion IsName (p ++ q) → AllByRecursion IsName p
names_front [] q h = tt
names_front (name ∷ p) q h = (h.0, names_front p q h.1)

names_back : (p q : Names) → AllByRecursion IsName (p ++ q) → AllByRecursion IsName q
names_back [] q h = h
names_back (name ∷ p) q h = names_back p q h.1

-- a path with a name, whose text has its last slash before `rest`
pub record Ends (p : Names) (front rest : List ℕ) : Type 0 where
  pub before : front ≡ slashed (parent p)
  pub above : parent_of p ≡ Some (parent p)
  pub last : last_name p ≡ Some rest

pub ends_at : (p : Names) → AllByRecursion IsName p → (front rest : List ℕ) → slashed p ≡ front ++ 47 ∷ rest → has_no_slash rest ≡ true → Ends p front rest
ends_at [] h [] rest e f = cc
ends_at [] h (b ∷ front) rest e f = cc
ends_at (name ∷ p) h front rest e f =
    let end = ends name p in
    let whole : slashed (name ∷ p) ≡ slashed (parent (name ∷ p)) ++ 47 ∷ (end.0 ++ []) = ap slashed end.2 ∙ slashed-append (parent (name ∷ p)) (end.0 ∷ []) in
    let lasts = names_back (parent (name ∷ p)) (end.0 ∷ []) (subst (AllByRecursion IsName) end.2 h) in
    let free = free_bytes end.0 (form_bytes end.0 (true_form end.0 lasts.0)) in
    let cut = last_cut front (slashed (parent (name ∷ p))) rest (end.0 ++ []) (sym e ∙ whole) f (subst (λ (bytes : List ℕ). has_no_slash bytes ≡ true) (sym (append-nil end.0)) free) in
    record { before = cut.0; above = refl; last = end.1 ∙ ap Some (sym (cut.1 ∙ append-nil end.0)) }

cut_at : (text : List ℕ) (at : ℕ) → at < length text → get_or text at 0 ≡ 47 → text ≡ take at text ++ 47 ∷ drop (at + 1) text
cut_at text at h e =
    sym (take-append-drop at text) ∙ ap (λ rest. take at text ++ rest) (drop-cons text at 0 h ∙ (λ i. e i ∷ drop (sym (add-one at) i) text))

pub kept_ends : (text : List ℕ) (at : ℕ) → IsKept text → at < length text → get_or text at 0 ≡ 47 → has_no_slash (drop (at + 1) text) ≡ true
    → Ends (parts_of text) (take at text) (drop (at + 1) text)
kept_ends text at k h e f = ends_at (parts_of text) k.path.names (take at text) (drop (at + 1) text) (k.spelled ∙ cut_at text at h e) f

parent_names : (p : Names) → AllByRecursion IsName p → AllByRecursion IsName (parent p)
parent_names [] h = tt
parent_names (name ∷ p) h = let end = ends name p in names_front (parent (name ∷ p)) (end.0 ∷ []) (subst (AllByRecursion IsName) end.2 h)

parent_depth : (p : Names) → length (parent p) ≤ length p
parent_depth [] = omega arith
parent_depth (name ∷ p) = let end = ends name p in omega (arith, ap length end.2, length-append (parent (name ∷ p)) (end.0 ∷ []))

shorter : (text : List ℕ) (at : ℕ) (p : Names) → IsKept text → Ends (parts_of text) (take at text) (drop (at + 1) text) → length (slashed (parent (parts_of text))) ≤ 4096
shorter text at p k end =
    let all = subst (λ (bytes : List ℕ). length bytes ≤ 4096) k.spelled (short_kept (parts_of text) k.path.long) in
    let front = ap length end.before in
    let part = length-take at text in
    omega (arith, all, front, part)

pub kept_parent : (text : List ℕ) (at : ℕ) → IsKept text → Ends (parts_of text) (take at text) (drop (at + 1) text) → IsKept (take at text)
kept_parent text at k end =
    let short : length (slashed (parent (parts_of text))) ≤ 4096 = shorter text at (parts_of text) k end in
    subst IsKept (sym end.before) (built (parent (parts_of text)) (parent_names (parts_of text) k.path.names) (let a = parent_depth (parts_of text) in let b = k.path.deep in omega arith) short)

pub parts_of-parent : (text : List ℕ) (at : ℕ) → IsKept text → Ends (parts_of text) (take at text) (drop (at + 1) text) → parent_of (parts_of text) ≡ Some (parts_of (take at text))
parts_of-parent text at k end = end.above ∙ ap Some (sym (ap parts_of end.before ∙ parts_of-slashed (parent (parts_of text)) (parent_names (parts_of text) k.path.names)))

-- what a text that was cut before its last slash tells of the path
pub parent_taken : (p : Names) (text bytes front : List ℕ) (at : ℕ) → IsKept text → parts_of text ≡ p → bytes ≡ text → at < length bytes → get_or bytes at 0 ≡ 47
    → has_no_slash (drop (at + 1) bytes) ≡ true → front ≡ slice_range bytes 0 at → IsKept front × (parent_of p ≡ Some (parts_of front))
parent_taken p text bytes front at k v b h e f g =
    let whole = kept_ends text at k (subst (λ (bytes : List ℕ). at < length bytes) b h) (ap (λ bytes. get_or bytes at 0) (sym b) ∙ e)
    (ap (λ bytes. has_no_slash (drop (at + 1) bytes)) (sym b) ∙ f) in
    let taken : front ≡ take at text = g ∙ ap (λ bytes. slice_range bytes 0 at) b ∙ ap (λ n. take n text) (sub-zero at) in (
      subst IsKept (sym taken) (kept_parent text at k whole),
      ap parent_of (sym v) ∙ parts_of-parent text at k whole ∙ ap (λ bytes. Some (parts_of bytes)) (sym taken),
    )

pub last_taken : (p : Names) (text bytes : List ℕ) (at : ℕ) → IsKept text → parts_of text ≡ p → bytes ≡ text → at < length bytes → get_or bytes at 0 ≡ 47
    → has_no_slash (drop (at + 1) bytes) ≡ true → last_name p ≡ Some (drop (at + 1) bytes)
last_taken p text bytes at k v b h e f =
    let whole = kept_ends text at k (subst (λ (bytes : List ℕ). at < length bytes) b h) (ap (λ bytes. get_or bytes at 0) (sym b) ∙ e)
    (ap (λ bytes. has_no_slash (drop (at + 1) bytes)) (sym b) ∙ f) in
    ap last_name (sym v) ∙ whole.last ∙ ap (λ bytes. Some (drop (at + 1) bytes)) (sym b)

-- a text without a slash is the root's
pub kept_root : (text : List ℕ) → IsKept text → has_no_slash text ≡ true → text ≡ []
kept_root text k h = by (parts_of text) k.spelled
  where
    by : (p : Names) → slashed p ≡ text → text ≡ []
    by [] e = sym e
    by (name ∷ p) e = absurd (has_slash [] (name ++ slashed p) (subst (λ (bytes : List ℕ). has_no_slash bytes ≡ true) (sym e) h))

-- ---- equality

bool_same : (a b : Bool) → (a ≡ true → b ≡ true) → (b ≡ true → a ≡ true) → a ≡ b
bool_same true b f g = sym (f refl)
bool_same false true f g = g refl
bool_same false false f g = refl

pub bytes_eq-slashed : (p q : Names) → AllByRecursion IsName p → AllByRecursion IsName q → bytes_eq (slashed p) (slashed q) ≡ path_eq p q
bytes_eq-slashed p q h g =
    bool_same (bytes_eq (slashed p) (slashed q)) (path_eq p q)
    (λ e. (pointwise_decides bytes_decides p q).1 (sym (parts_of-slashed p h) ∙ ap parts_of ((bytes_decides (slashed p) (slashed q)).0 e) ∙ parts_of-slashed q g))
    (λ e. (bytes_decides (slashed p) (slashed q)).1 (ap slashed ((pointwise_decides bytes_decides p q).0 e)))

pub count-slashed : (p : Names) → AllByRecursion IsName p → length p ≤ 64 → length (slashed p) ≤ 4096 → count_by is_slash (slashed p) ≡ length p
count-slashed p h d s = count_kept (slashed p) (built p h d s) ∙ ap length (parts_of-slashed p h)

-- ---- joining

pub pushed : (p : Names) (name : List ℕ) → slashed (p ++ name ∷ []) ≡ (slashed p ++ 47 ∷ []) ++ name
pushed p name =
    slashed-append p (name ∷ []) ∙ ap (λ last. slashed p ++ 47 ∷ last) (append-nil name) ∙ sym (append_assoc (slashed p) (47 ∷ []) name)

pub pushed_kept : (p : Names) (name : List ℕ) → IsPath p → IsName name → length p < 64 → length (slashed p) + 1 + length name ≤ 4096 → IsKept (slashed (p ++ name ∷ []))
pushed_kept p name h n d s =
    built (p ++ name ∷ []) (names_append p (name ∷ []) h.names (n, tt)) (simp length-append (omega arith))
    (subst (λ (bytes : List ℕ). length bytes ≤ 4096) (sym (pushed p name)) (simp length-append (omega arith)))

pub rebased : (front rest text : List ℕ) (to : Names) (left : Names) → front ≡ slashed to → rest ≡ slashed left → text ≡ (front ++ []) ++ rest → text ≡ slashed (to ++ left)
rebased front rest text to left f r e = e ∙ (λ i. (append-nil front ∙ f) i ++ r i) ∙ sym (slashed-append to left)

pub rebased_kept : (to self : Names) (n : ℕ) → IsPath to → IsPath self → length to + (length self - n) ≤ 64 → length (slashed to) + length (slashed (drop n self)) ≤ 4096 → IsKept (slashed (to ++ drop n self))
rebased_kept to self n h g d s =
    built (to ++ drop n self) (names_append to (drop n self) h.names (all_drop n self g.names)) (simp (length-append, length-drop) (omega arith))
    (subst (λ (bytes : List ℕ). length bytes ≤ 4096) (sym (slashed-append to (drop n self))) (simp length-append (omega arith)))

-- the same of a path's names: what is kept before the last slash is the parent's
pub parent_kept : (p : Names) (bytes front : List ℕ) (at : ℕ) → IsPath p → bytes ≡ slashed p → at < length bytes → get_or bytes at 0 ≡ 47
    → has_no_slash (drop (at + 1) bytes) ≡ true → front ≡ take at bytes → (front ≡ slashed (parent p)) × AllByRecursion IsName (parent p)
parent_kept p bytes front at h b l e f g =
    let kept = subst (λ ps. IsPath ps × (slashed ps ≡ slashed p)) (sym (parts_of-slashed p h.names)) (h, refl) in
    let whole = parent_taken p (slashed p) bytes front at (record { path = kept.0; spelled = kept.1 }) (parts_of-slashed p h.names) b l e f (g ∙ ap (λ n. take n bytes) (sym (sub-zero at))) in
    (sym whole.0.spelled ∙ ap slashed (named p (parts_of front) whole.1), subst (AllByRecursion IsName) (named p (parts_of front) whole.1) whole.0.path.names)
  where
    named : (p q : Names) → parent_of p ≡ Some q → q ≡ parent p
    named [] q h = cc
    named (name ∷ p) q h = cc
