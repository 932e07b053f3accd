-- The trees of marks, while the newest tree changes.
use Rattle.std.proofs.Common.{◌≡◌, ◌≢◌, ◌<◌, ℕ, arith, rules, Bool, true, false, nat_eq, if◌then◌else◌, List, [], ◌∷◌, ◌++◌, refl, sym, ap, ◌∙◌, subst}
use Rattle.std.specs.Prelude.{Option, Some, None, is_some, IfSome}
use Rattle.std.specs.FinMap.{get, insert, contains_key, empty, get-empty, same_map}
use Rattle.std.specs.List.{AllByRecursion}
use Rattle.res_path.specs.Paths.{Names, path_cmp}
use Rattle.res_path.specs.PathLaws.{path_cmp_total}
use Rattle.res_path.proofs.Prefixes.{path_cmp_exact}
use Rattle.ws_elem.specs.Trees.{Tree}
use Rattle.ws_elem.specs.declared.element.Element.{Element}
use Rattle.layer_log.proofs.Looks.{put_here, put_elsewhere, path_cases}
use Rattle.elem_tree.specs.Layers.{Befores, Layer, undone, tree_before, tree_of_first, from_mark, with_before, noted}
use Rattle.elem_tree.proofs.Gathers.{or_now, get-undone}

-- ---- one layer

before_here : (b : Befores) (p : Names) (x : Option Element) → or_now (get (with_before b p x) p) x ≡ or_now (get b p) x
before_here b p x = by (get b p) refl
  where
    by : (k : Option (Option Element)) → get b p ≡ k → or_now (get (if is_some k then b else insert b p x) p) x ≡ or_now k x
    by None e = ap (λ k. or_now k x) (put_here b p x)
    by (Some y) e = ap (λ k. or_now k x) e

before_elsewhere : (b : Befores) (p q : Names) (x : Option Element) → q ≢ p → get (with_before b p x) q ≡ get b q
before_elsewhere b p q x h = by (contains_key b p)
  where
    by : (c : Bool) → get (if c then b else insert b p x) q ≡ get b q
    by true = refl
    by false = put_elsewhere b p q x h

known_before : (k : Option (Option Element)) (x y : Option Element) → is_some k ≡ true → or_now k x ≡ or_now k y
known_before None x y h = cc
known_before (Some z) x y h = refl

before_known : (b : Befores) (p : Names) (x : Option Element) → is_some (get (with_before b p x) p) ≡ true
before_known b p x = by (get b p) refl
  where
    by : (k : Option (Option Element)) → get b p ≡ k → is_some (get (if is_some k then b else insert b p x) p) ≡ true
    by None e = ap is_some (put_here b p x)
    by (Some y) e = ap is_some e

-- a path changes, and its entry before is recorded
pub undone_same : (t u : Tree) (b c : Befores) (p : Names) → ((q : Names) → q ≢ p → get u q ≡ get t q) → c ≡ with_before b p (get t p) → undone u c ≡ undone t b
undone_same t u b c p others is = same_map path_cmp_total path_cmp_exact _ _ (λ q. get-undone u c q ∙ path_cases q p
    (λ same. subst (λ z. or_now (get c z) (get u z) ≡ or_now (get b z) (get t z)) (sym same)
    (ap (λ m. or_now (get m p) (get u p)) is ∙ known_before (get (with_before b p (get t p)) p) (get u p) (get t p) (before_known b p (get t p)) ∙ before_here b p (get t p)))
    (λ other. ap (λ m. or_now (get m q) (get u q)) is ∙ (λ i. or_now (before_elsewhere b p q (get t p) other i) (others q other i)))
    ∙ sym (get-undone t b q))

undone_none : (t : Tree) → undone t empty ≡ t
undone_none t = same_map path_cmp_total path_cmp_exact _ _ (λ q. get-undone t empty q ∙ ap (λ k. or_now k (get t q)) (get-empty path_cmp q))

-- ---- the last layer changes

before_last : (t u : Tree) (l k : Layer) → undone u k.befores ≡ undone t l.befores → (ls : List Layer) → tree_before u (ls ++ k ∷ []) ≡ tree_before t (ls ++ l ∷ [])
before_last t u l k is [] = is
before_last t u l k is (j ∷ ls) = ap (λ v. undone v j.befores) (before_last t u l k is ls)

pub marks_same : (t u : Tree) (l k : Layer) → k.mark ≡ l.mark → undone u k.befores ≡ undone t l.befores → (ls : List Layer) (m : ℕ)
    → tree_of_first u (from_mark m (ls ++ k ∷ [])) ≡ tree_of_first t (from_mark m (ls ++ l ∷ []))
marks_same t u l k mark is [] m = ap (λ n. tree_of_first u (if nat_eq m n then k ∷ [] else [])) mark ∙ by (nat_eq m l.mark)
  where
    by : (b : Bool) → tree_of_first u (if b then k ∷ [] else []) ≡ tree_of_first t (if b then l ∷ [] else [])
    by true = ap Some is
    by false = refl
marks_same t u l k mark is (j ∷ ls) m = by (nat_eq m j.mark) (marks_same t u l k mark is ls m)
  where
    by : (b : Bool) → tree_of_first u (from_mark m (ls ++ k ∷ [])) ≡ tree_of_first t (from_mark m (ls ++ l ∷ []))
        → tree_of_first u (if b then j ∷ ls ++ k ∷ [] else from_mark m (ls ++ k ∷ [])) ≡ tree_of_first t (if b then j ∷ ls ++ l ∷ [] else from_mark m (ls ++ l ∷ []))
    by true h = ap (λ v. Some (undone v j.befores)) (before_last t u l k is ls)
    by false h = h

pub noted_last : (ls : List Layer) (l : Layer) (p : Names) (x : Option Element) → noted (ls ++ l ∷ []) p x ≡ ls ++ record l { befores = with_before l.befores p x } ∷ []
noted_last [] l p x = refl
noted_last (j ∷ []) l p x = refl
noted_last (j ∷ i ∷ ls) l p x = ap (λ ks. j ∷ ks) (noted_last (i ∷ ls) l p x)

-- ---- a layer more

before_more : (t : Tree) (l : Layer) → l.befores ≡ empty → (ls : List Layer) → tree_before t (ls ++ l ∷ []) ≡ tree_before t ls
before_more t l none [] = ap (undone t) none ∙ undone_none t
before_more t l none (j ∷ ls) = ap (λ v. undone v j.befores) (before_more t l none ls)

first_more : (t : Tree) (l : Layer) → l.befores ≡ empty → (ls : List Layer) → IfSome (tree_of_first t ls) (λ u. tree_of_first t (ls ++ l ∷ []) ≡ Some u)
first_more t l none [] = tt
first_more t l none (j ∷ ls) = ap (λ v. Some (undone v j.befores)) (before_more t l none ls)

pub marks_more : (t : Tree) (l : Layer) → l.befores ≡ empty → (ls : List Layer) (m : ℕ) → IfSome (tree_of_first t (from_mark m ls)) (λ u. tree_of_first t (from_mark m (ls ++ l ∷ [])) ≡ Some u)
marks_more t l none [] m = tt
marks_more t l none (j ∷ ls) m = by (nat_eq m j.mark) (marks_more t l none ls m)
  where
    by : (b : Bool) → IfSome (tree_of_first t (from_mark m ls)) (λ u. tree_of_first t (from_mark m (ls ++ l ∷ [])) ≡ Some u)
        → IfSome (tree_of_first t (if b then j ∷ ls else from_mark m ls)) (λ u. tree_of_first t (if b then j ∷ ls ++ l ∷ [] else from_mark m (ls ++ l ∷ [])) ≡ Some u)
    by true h = first_more t l none (j ∷ ls)
    by false h = h

itself : (n : ℕ) → nat_eq n n ≡ true
itself n = search rules

same_number : (n k : ℕ) → nat_eq n k ≡ true → n ≡ k
same_number n k h = search (rules, h)

not_equal : (n k : ℕ) → k < n → nat_eq n k ≡ false
not_equal n k h = elim (nat_eq n k) as (λ b. nat_eq n k ≡ b → b ≡ false) [
  | true ↦ λ e. absurd (omega (arith, h, same_number n k e))
  | false ↦ λ e. refl
] refl

pub no_mark : (n : ℕ) (ls : List Layer) → AllByRecursion (λ l. l.mark < n) ls → from_mark n ls ≡ []
no_mark n [] h = refl
no_mark n (l ∷ ls) h = ap (λ b. if b then l ∷ ls else from_mark n ls) (not_equal n l.mark h.0) ∙ no_mark n ls h.1

pub own_mark : (t : Tree) (n : ℕ) (l : Layer) → l.mark ≡ n → l.befores ≡ empty → (ls : List Layer) → AllByRecursion (λ k. k.mark < n) ls
    → tree_of_first t (from_mark n (ls ++ l ∷ [])) ≡ Some t
own_mark t n l is none [] h =
    ap (λ b. tree_of_first t (if b then l ∷ [] else [])) (ap (nat_eq n) is ∙ itself n) ∙ ap Some (ap (undone t) none ∙ undone_none t)
own_mark t n l is none (j ∷ ls) h =
    ap (λ b. tree_of_first t (if b then j ∷ ls ++ l ∷ [] else from_mark n (ls ++ l ∷ []))) (not_equal n j.mark h.0) ∙ own_mark t n l is none ls h.1
