-- What differs, by what was seen before.
use Rattle.std.proofs.Common.{◌≡◌, ◌≢◌, ◌↔◌, Bool, true, false, cond, List, [], ◌∷◌, ◌++◌, refl, sym, ap, ◌∙◌, subst}
use Rattle.std.specs.Prelude.{Option, Some, None, is_some, IsTrue, Result, Ok, Err, IfOk}
use Rattle.std.specs.declared.alloc.AllocError.{AllocError}
use Rattle.std.specs.declared.cmp.Ordering.{Ordering}
use Rattle.std.specs.declared.cmp.Ordering.TheVariants.{Less, Equal, Greater}
use Rattle.std.specs.List.{AllByRecursion}
use Rattle.std.specs.FinMap.{IsAntisymmetric, get, insert, empty, contains_key, find, from_entries, get-insert, get-from_entries, get-empty, same_map}
use Rattle.std.specs.Ordering.{eq_by_cmp, is_eq}
use Rattle.std.specs.Cmp.{IsTotalOrder, eq_by_cmp_equiv, tied_itself}
use Rattle.std.specs.BTreeMap.{is_at}
use Rattle.std.specs.Option.{option_copied}
use denote.Ref.{Bor}
use Rattle.std.specs.Map.{lookup}
use Rattle.save_valid.specs.Rules.{AllDiffer}
use Rattle.save_valid.specs.Inside.Fresh.{Set, Fresh, with_all}

-- ---- a map, as it is kept

module _ {K X : Type 0} {R : K → K → Ordering} (o : IsTotalOrder R) (exact : IsAntisymmetric R) where
  find_is : (es : List (K × X)) (q : K) → find R q es ≡ lookup (is_at (R q)) es
  find_is [] q = refl
  find_is (e ∷ es) q = ap (cond (is_at (R q) e.0) (Some e.1)) (find_is es q)

  pub get_is : (es : List (K × X)) (q : K) → get (from_entries {R = R} es) q ≡ lookup (is_at (R q)) es
  get_is es q = get-from_entries o es q ∙ find_is es q

  pub one_put : (es fs : List (K × X)) (n : K) (p : X) → ((q : K) → lookup (is_at (R q)) fs ≡ cond (is_at (R n) q) (Some p) (lookup (is_at (R q)) es))
      → from_entries {R = R} fs ≡ insert (from_entries es) n p
  one_put es fs n p h = same_map o exact _ _ (λ q.
      get_is fs q ∙ h q ∙ ap (λ b. cond b (Some p) (lookup (is_at (R q)) es)) ((eq_by_cmp_equiv o).symm n q)
      ∙ sym (get-insert o (from_entries es) n p q ∙ ap (cond (eq_by_cmp R q n) (Some p)) (get_is es q)))

-- ---- what is fresh differs

module _ {K : Type 0} {R : K → K → Ordering} (o : IsTotalOrder R) (exact : IsAntisymmetric R) where
  abbrev Unseen : Set R → List K → Type 0
  Unseen seen = AllByRecursion (λ n. contains_key seen n ≡ false)

  is_equal : (r : Ordering) → is_eq r ≡ true → r ≡ Equal
  is_equal Less h = absurd cc
  is_equal Equal h = refl
  is_equal Greater h = absurd cc

  same : (k n : K) → eq_by_cmp R k n ≡ true → k ≡ n
  same k n h = exact k n (is_equal (R k n) h)

  itself : (n : K) → eq_by_cmp R n n ≡ true
  itself n = ap is_eq (tied_itself o n)

  has_insert : (seen : Set R) (n k : K) → contains_key (insert seen n tt) k ≡ is_some (cond (eq_by_cmp R k n) (Some tt) (get seen k))
  has_insert seen n k = ap is_some (get-insert o seen n tt k)

  parts : (t : Bool) (x : Option (Unit {0})) → is_some (cond t (Some tt) x) ≡ false → (t ≡ false) × (is_some x ≡ false)
  parts true x h = absurd cc
  parts false x h = (refl, h)

  whole : (t : Bool) (x : Option (Unit {0})) → t ≡ false → is_some x ≡ false → is_some (cond t (Some tt) x) ≡ false
  whole true x h g = absurd cc
  whole false x h g = g

  other : (n k : K) → eq_by_cmp R k n ≡ false → k ≢ n
  other n k h e = let t : true ≡ false = sym (itself n) ∙ ap (λ x. eq_by_cmp R x n) (sym e) ∙ h in absurd cc

  not_same : (n k : K) → k ≢ n → eq_by_cmp R k n ≡ false
  not_same n k h = by (eq_by_cmp R k n) refl where
    by : (t : Bool) → eq_by_cmp R k n ≡ t → t ≡ false
    by true e = absurd (h (same k n e))
    by false e = refl

  unseen_parts : (seen : Set R) (n : K) (ks : List K) → Unseen (insert seen n tt) ks → Unseen seen ks × AllByRecursion (λ k. k ≢ n) ks
  unseen_parts seen n [] h = (tt, tt)
  unseen_parts seen n (k ∷ ks) h =
      let p = parts (eq_by_cmp R k n) (get seen k) (sym (has_insert seen n k) ∙ h.0) in
      let r = unseen_parts seen n ks h.1 in
      ((p.1, r.0), (other n k p.0, r.1))

  unseen_whole : (seen : Set R) (n : K) (ks : List K) → Unseen seen ks → AllByRecursion (λ k. k ≢ n) ks → Unseen (insert seen n tt) ks
  unseen_whole seen n [] h g = tt
  unseen_whole seen n (k ∷ ks) h g = (has_insert seen n k ∙ whole (eq_by_cmp R k n) (get seen k) (not_same n k g.0) h.0, unseen_whole seen n ks h.1 g.1)

  fresh_differ : (seen : Set R) (ns : List K) → Fresh seen ns → Unseen seen ns × AllDiffer ns
  fresh_differ seen [] h = (tt, tt)
  fresh_differ seen (n ∷ ns) h =
      let r = fresh_differ (insert seen n tt) ns h.1 in
      let p = unseen_parts seen n ns r.0 in
      ((h.0, p.0), (p.1, r.1))

  differ_fresh : (seen : Set R) (ns : List K) → Unseen seen ns → AllDiffer ns → Fresh seen ns
  differ_fresh seen [] h g = tt
  differ_fresh seen (n ∷ ns) h g = (h.0, differ_fresh (insert seen n tt) ns (unseen_whole seen n ns h.1 g.0) g.1)

  none_seen : (ns : List K) → Unseen empty ns
  none_seen [] = tt
  none_seen (n ∷ ns) = (ap is_some (get-empty {X = Unit {0}} R n), none_seen ns)

  fresh_join : (seen : Set R) (xs ys : List K) → Fresh seen xs → Fresh (with_all seen xs) ys → Fresh seen (xs ++ ys)
  fresh_join seen [] ys h g = g
  fresh_join seen (x ∷ xs) ys h g = (h.0, fresh_join (insert seen x tt) xs ys h.1 g)

  fresh_split : (seen : Set R) (xs ys : List K) → Fresh seen (xs ++ ys) → Fresh seen xs × Fresh (with_all seen xs) ys
  fresh_split seen [] ys h = (tt, h)
  fresh_split seen (x ∷ xs) ys h = let r = fresh_split (insert seen x tt) xs ys h.1 in ((h.0, r.0), r.1)

  pub first_fails : (xs ys : List K) (seen : Set R) (b : Bool) → seen ≡ empty → b ≡ false → (IsTrue b ↔ Fresh seen xs) → IsTrue false ↔ AllDiffer (xs ++ ys)
  first_fails xs ys seen b start is h = (
    λ u. absurd (let f : false ≡ true = u in cc),
    λ d. absurd (let f : b ≡ true = h.1 (subst (λ s. Fresh s xs) (sym start) (fresh_split empty xs ys (differ_fresh empty (xs ++ ys) (none_seen (xs ++ ys)) d)).0) in cc),
  )

  both_decide : (xs ys : List K) (seen : Set R) (r : Result Bool AllocError) → Fresh {R = R} empty xs → seen ≡ with_all empty xs → IfOk r (λ b. IsTrue b ↔ Fresh seen ys) → IfOk r (λ b. IsTrue b ↔ AllDiffer (xs ++ ys))
  both_decide xs ys seen (Err e) f is h = tt
  both_decide xs ys seen (Ok b) f is h = (
    λ u. (fresh_differ empty (xs ++ ys) (fresh_join empty xs ys f (subst (λ s. Fresh s ys) is (h.0 u)))).1,
    λ d. h.1 (subst (λ s. Fresh s ys) (sym is) (fresh_split empty xs ys (differ_fresh empty (xs ++ ys) (none_seen (xs ++ ys)) d)).1),
  )

  pub second_decides : (xs ys : List K) (old new : Set R) (b : Bool) (first r : Result Bool AllocError) → old ≡ empty → first ≡ Ok b → b ≡ true → (IsTrue b ↔ Fresh old xs) → (first ≡ Ok true → new ≡ with_all old xs)
      → IfOk r (λ b. IsTrue b ↔ Fresh new ys) → IfOk r (λ b. IsTrue b ↔ AllDiffer (xs ++ ys))
  second_decides xs ys old new b first r start was is h all next =
      both_decide xs ys new r (subst (λ s. Fresh s xs) start (h.0 is)) (all (was ∙ ap (λ (t : Bool). Ok t) is) ∙ ap (λ s. with_all s xs) start) next

  pub one_decides : (ns : List K) (seen : Set R) (r : Result Bool AllocError) → seen ≡ empty → IfOk r (λ b. IsTrue b ↔ Fresh seen ns) → IfOk r (λ b. IsTrue b ↔ AllDiffer ns)
  one_decides ns seen (Err e) start h = tt
  one_decides ns seen (Ok b) start h = (
    λ u. (fresh_differ empty ns (subst (λ s. Fresh s ns) start (h.0 u))).1,
    λ d. h.1 (subst (λ s. Fresh s ns) (sym start) (differ_fresh empty ns (none_seen ns) d)),
  )

-- ---- what is looked up

pub copied_there : {X : Type 0} (o : Option (Bor X)) → is_some o ≡ is_some (option_copied o)
copied_there None = refl
copied_there (Some x) = refl
