-- A walk that goes on past what lies too deep.
use Rattle.std.proofs.Common.{◌≡◌, ◌+◌, ◌≤◌, ◌<◌, Bool, true, false, cond, not, ◌&&◌, [], ◌∷◌, ◌++◌, length, arith, refl, sym, ap, ◌∙◌, append-nil}
use Rattle.std.specs.Prelude.{filter, nat_le, nat_lt}
use Rattle.std.specs.declared.cmp.Ordering.{Ordering}
use Rattle.std.specs.declared.cmp.Ordering.TheVariants.{Less, Equal, Greater}
use Rattle.std.specs.Cmp.Lexicographic.{bytes_decides}
use Rattle.std.specs.Ordering.{is_gt, is_lt, ordering_reverse}
use Rattle.std.specs.FinMap.{entries, get}
use Rattle.std.specs.Str.{bytes_eq}
use Rattle.std.proofs.lemmas.Bool.Decides.{nat_tests}
use Rattle.res_path.specs.Paths.{Names, path_cmp, is_prefix}
use Rattle.res_path.specs.PathLaws.{path_cmp_total}
use Rattle.res_path.proofs.Prefixes.{path_cmp_exact, prefix_le, prefix_between}
use Rattle.res_path.proofs.Spelled.{both}
use Rattle.ws_elem.specs.Depths.{is_within}
use Rattle.ws_elem.specs.Trees.{Tree}
use Rattle.ws_elem.specs.declared.depth.Depth.{Depth}
use Rattle.ws_elem.specs.declared.depth.Depth.TheVariants.{Zero, One, Infinite}
use Rattle.ws_elem.specs.declared.element.Element.{Element}
use Rattle.op_kind.specs.Entries.{Entries}
use Rattle.op_kind.specs.Marking.{reached}
use Rattle.op_kind.specs.Members.{found_at, is_below, members}
use Rattle.op_plan.specs.Inside.Walks.{members_after}
use Rattle.op_plan.proofs.Reached.{reached_split}
use Rattle.op_plan.proofs.Walked.{prefix_itself, under}

never : {A : Type 0} → true ≡ false → A
never h = cc

less_of : (o : Ordering) → is_lt o ≡ true → o ≡ Less
less_of Less h = refl
less_of Equal h = cc
less_of Greater h = cc

not_greater : (o : Ordering) → is_lt o ≡ true → is_gt o ≡ false
not_greater Less h = refl
not_greater Equal h = cc
not_greater Greater h = cc

turned : (o : Ordering) → is_lt o ≡ false → is_gt (ordering_reverse o) ≡ false
turned Less h = never h
turned Equal h = refl
turned Greater h = refl

and_false : (b : Bool) → (b && false) ≡ false
and_false true = refl
and_false false = refl

-- ---- lengths

-- a path that another one begins with, and that is no shorter, is that other
prefix_whole : (p q : Names) → is_prefix p q ≡ true → length q ≤ length p → p ≡ q
prefix_whole [] [] h l = refl
prefix_whole [] (m ∷ q) h l = absurd (omega arith)
prefix_whole (n ∷ p) [] h l = cc
prefix_whole (n ∷ p) (m ∷ q) h l =
    let parts = both (bytes_eq n m) (is_prefix p q) h in
    let same : n ≡ m = (bytes_decides n m).0 parts.0 in
    let rest : p ≡ q = prefix_whole p q parts.1 (omega arith) in
    λ i. same i ∷ rest i

-- what is below has more names
pub below_longer : (p q : Names) → is_below p q ≡ true → length p < length q
below_longer p q h = by (nat_lt (length p) (length q)) refl
  where
    parts : (is_prefix p q ≡ true) × (not (is_prefix q p) ≡ true)
    parts = both (is_prefix p q) (not (is_prefix q p)) h

    by : (b : Bool) → nat_lt (length p) (length q) ≡ b → length p < length q
    by true e = grind (arith, nat_tests)
    by false e =
        let le : length q ≤ length p = grind (arith, nat_tests) in
        let same : p ≡ q = prefix_whole p q parts.0 le in
        never (sym parts.1 ∙ ap not (ap (is_prefix q) same ∙ prefix_itself q))

-- what is below what is below the top is out of reach, and at no depth all that is below it
too_deep : (top a x : Names) → is_below top a ≡ true → is_below a x ≡ true → is_within One top x ≡ false
too_deep top a x h g =
    let one : length top < length a = below_longer top a h in
    let two : length a < length x = below_longer a x g in
    let out : nat_le (length x) (length top + 1) ≡ false = grind (arith, nat_tests) in
    ap (λ b. is_prefix top x && b) out ∙ and_false (is_prefix top x)

too_deep_at_once : (top a x : Names) → is_below top a ≡ true → is_below a x ≡ true → is_within Zero top x ≡ false
too_deep_at_once top a x h g =
    let one : length top < length a = below_longer top a h in
    let two : length a < length x = below_longer a x g in
    let out : nat_le (length x) (length top) ≡ false = grind (arith, nat_tests) in
    ap (λ b. is_prefix top x && b) out ∙ and_false (is_prefix top x)

at_no_depth : (top x : Names) → is_below top x ≡ true → is_within Zero top x ≡ false
at_no_depth top x h =
    let one : length top < length x = below_longer top x h in
    let out : nat_le (length x) (length top) ≡ false = grind (arith, nat_tests) in
    ap (λ b. is_prefix top x && b) out ∙ and_false (is_prefix top x)

-- ---- what is skipped

-- what stands above a, but not above a path that begins with a, is below a
skipped_below : (a q x : Names) → is_prefix a q ≡ true → is_lt (path_cmp a x) ≡ true → is_lt (path_cmp q x) ≡ false → is_below a x ≡ true
skipped_below a q x h l n = under a x (less_of (path_cmp a x) l)
    (prefix_between a x q (not_greater (path_cmp a x) l) (ap is_gt (path_cmp_total.antisymm x q) ∙ turned (path_cmp q x) n) h)

-- what is above a path that begins with a is above a
above_both : (a q x : Names) → is_prefix a q ≡ true → is_lt (path_cmp q x) ≡ true → is_lt (path_cmp a x) ≡ true
above_both a q x h l = by (path_cmp a q) refl (prefix_le a q h)
  where
    by : (o : Ordering) → path_cmp a q ≡ o → is_gt o ≡ false → is_lt (path_cmp a x) ≡ true
    by Less e g = ap is_lt (path_cmp_total.trans a q x e (less_of (path_cmp q x) l))
    by Equal e g = ap (λ y. is_lt (path_cmp y x)) (path_cmp_exact a q e) ∙ l
    by Greater e g = never g

module _ (top a q : Names) (h : is_prefix a q ≡ true) where
  abbrev below_after : Names → Entries → Entries
  below_after p es = filter (λ e. is_below top e.0) (filter (λ e. is_lt (path_cmp p e.0)) es)

  fewer : (es : Entries) → length (below_after q es) ≤ length (below_after a es)
  fewer [] = omega arith
  fewer (e ∷ es) = by (is_lt (path_cmp a e.0)) refl (is_lt (path_cmp q e.0)) refl (fewer es)
    where
      kept : Names → Entries
      kept p = below_after p es

      one : (b : Bool) (xs ys : Entries) → length xs ≤ length ys → length (cond b (e ∷ xs) xs) ≤ length (cond b (e ∷ ys) ys)
      one true xs ys l = omega arith
      one false xs ys l = l

      more : (b : Bool) (xs ys : Entries) → length xs ≤ length ys → length xs ≤ length (cond b (e ∷ ys) ys)
      more true xs ys l = omega arith
      more false xs ys l = l

      by : (b : Bool) → is_lt (path_cmp a e.0) ≡ b → (c : Bool) → is_lt (path_cmp q e.0) ≡ c → length (kept q) ≤ length (kept a)
          → length (filter (λ x. is_below top x.0) (cond c (e ∷ filter (λ x. is_lt (path_cmp q x.0)) es) (filter (λ x. is_lt (path_cmp q x.0)) es)))
          ≤ length (filter (λ x. is_below top x.0) (cond b (e ∷ filter (λ x. is_lt (path_cmp a x.0)) es) (filter (λ x. is_lt (path_cmp a x.0)) es)))
      by true l true m rest = one (is_below top e.0) (kept q) (kept a) rest
      by true l false m rest = more (is_below top e.0) (kept q) (kept a) rest
      by false l true m rest = never (sym (above_both a q e.0 h m) ∙ l)
      by false l false m rest = rest

  module _ (test : Names × Element → Bool) (far : (e : Names × Element) → is_below a e.0 ≡ true → test e ≡ false) where
    skipped : (es : Entries) → filter test (below_after q es) ≡ filter test (below_after a es)
    skipped [] = refl
    skipped (e ∷ es) = by (is_lt (path_cmp a e.0)) refl (is_lt (path_cmp q e.0)) refl (skipped es)
      where
        kept : Names → Entries
        kept p = below_after p es

        one : (b : Bool) (xs ys : Entries) → filter test xs ≡ filter test ys → filter test (cond b (e ∷ xs) xs) ≡ filter test (cond b (e ∷ ys) ys)
        one true xs ys l = ap (λ zs. cond (test e) (e ∷ zs) zs) l
        one false xs ys l = l

        more : (b : Bool) (xs ys : Entries) → test e ≡ false → filter test xs ≡ filter test ys → filter test xs ≡ filter test (cond b (e ∷ ys) ys)
        more true xs ys f l = l ∙ ap (λ c. cond c (e ∷ filter test ys) (filter test ys)) (sym f)
        more false xs ys f l = l

        by : (b : Bool) → is_lt (path_cmp a e.0) ≡ b → (c : Bool) → is_lt (path_cmp q e.0) ≡ c → filter test (kept q) ≡ filter test (kept a)
            → filter test (filter (λ x. is_below top x.0) (cond c (e ∷ filter (λ x. is_lt (path_cmp q x.0)) es) (filter (λ x. is_lt (path_cmp q x.0)) es)))
            ≡ filter test (filter (λ x. is_below top x.0) (cond b (e ∷ filter (λ x. is_lt (path_cmp a x.0)) es) (filter (λ x. is_lt (path_cmp a x.0)) es)))
        by true l true m rest = one (is_below top e.0) (kept q) (kept a) rest
        by true l false m rest = more (is_below top e.0) (kept q) (kept a) (far e (skipped_below a q e.0 h l m)) rest
        by false l true m rest = never (sym (above_both a q e.0 h m) ∙ l)
        by false l false m rest = rest

-- past a path below the top the same is in reach, from each path that begins with it
pub same_reach : (depth : Depth) (t : Tree) (top a q : Names) → is_below top a ≡ true → is_prefix a q ≡ true → (depth ≡ Infinite → q ≡ a)
    → filter (λ e. is_within depth top e.0) (members_after t top q) ≡ filter (λ e. is_within depth top e.0) (members_after t top a)
same_reach Infinite t top a q b h all = ap (λ x. filter (λ e. is_within Infinite top e.0) (members_after t top x)) (all refl)
same_reach One t top a q b h all = skipped top a q h (λ e. is_within One top e.0) (λ e g. too_deep top a e.0 b g) (entries t)
same_reach Zero t top a q b h all = skipped top a q h (λ e. is_within Zero top e.0) (λ e g. too_deep_at_once top a e.0 b g) (entries t)

-- no more is left
pub none_more : (t : Tree) (top a q : Names) → is_prefix a q ≡ true → length (members_after t top q) ≤ length (members_after t top a)
none_more t top a q h = fewer top a q h (entries t)

-- what is first among some is one of them
pub first_kept : (test : Names × Element → Bool) (es : Entries) (x : Names × Element) (xs : Entries) → filter test es ≡ x ∷ xs → test x ≡ true
first_kept test [] x xs h = absurd (let no : [] ≡ x ∷ xs = h in cc)
first_kept test (e ∷ es) x xs h = by (test e) refl (first_kept test es x xs) h
  where
    by : (b : Bool) → test e ≡ b → (filter test es ≡ x ∷ xs → test x ≡ true) → cond b (e ∷ filter test es) (filter test es) ≡ x ∷ xs → test x ≡ true
    by true t rest g = let same : e ≡ x = cc in ap test (sym same) ∙ t
    by false t rest g = rest g

-- at no depth nothing that is below is in reach
pub none_at_no_depth : (t : Tree) (p : Names) → filter (λ e. is_within Zero p e.0) (members t p) ≡ []
none_at_no_depth t p = go (entries t)
  where
    go : (es : Entries) → filter (λ e. is_within Zero p e.0) (filter (λ e. is_below p e.0) es) ≡ []
    go [] = refl
    go (e ∷ es) = by (is_below p e.0) refl (go es)
      where
        by : (b : Bool) → is_below p e.0 ≡ b → filter (λ x. is_within Zero p x.0) (filter (λ x. is_below p x.0) es) ≡ []
            → filter (λ x. is_within Zero p x.0) (cond b (e ∷ filter (λ x. is_below p x.0) es) (filter (λ x. is_below p x.0) es)) ≡ []
        by true g rest = ap (λ c. cond c (e ∷ filter (λ x. is_within Zero p x.0) (filter (λ x. is_below p x.0) es)) (filter (λ x. is_within Zero p x.0) (filter (λ x. is_below p x.0) es))) (at_no_depth p e.0 g) ∙ rest
        by false g rest = rest

-- to no depth what is at the path alone is reached
reached_alone : (t : Tree) (p : Names) → reached t p Zero ≡ found_at p (get t p)
reached_alone t p = reached_split t p Zero ∙ ap (λ es. found_at p (get t p) ++ es) (none_at_no_depth t p) ∙ append-nil (found_at p (get t p))

pub found_alone : (t : Tree) (p : Names) (depth : Depth) (found : Entries) → depth ≡ Zero → found ≡ found_at p (get t p) → found ≡ reached t p depth
found_alone t p depth found h f = f ∙ sym (reached_alone t p) ∙ ap (reached t p) (sym h)

-- ---- paths that begin with others

begins : (p r : Names) → is_prefix p (p ++ r) ≡ true
begins [] r = refl
begins (n ∷ p) r = λ i. (bytes_decides n n).1 refl i && begins p r i

pub begins_joined : (p q r : Names) → q ≡ p ++ r → is_prefix p q ≡ true
begins_joined p q r h = ap (is_prefix p) h ∙ begins p r

pub begins_itself : (p q : Names) → q ≡ p → is_prefix p q ≡ true
begins_itself p q h = ap (is_prefix p) h ∙ prefix_itself p

pub begins_through : (p q r : Names) → is_prefix p q ≡ true → is_prefix q r ≡ true → is_prefix p r ≡ true
begins_through [] q r h g = refl
begins_through (n ∷ p) [] r h g = cc
begins_through (n ∷ p) (m ∷ q) [] h g = cc
begins_through (n ∷ p) (m ∷ q) (k ∷ r) h g =
    let one = both (bytes_eq n m) (is_prefix p q) h in
    let two = both (bytes_eq m k) (is_prefix q r) g in
    let same : n ≡ k = (bytes_decides n m).0 one.0 ∙ (bytes_decides m k).0 two.0 in
    λ i. (bytes_decides n k).1 same i && begins_through p q r one.1 two.1 i
