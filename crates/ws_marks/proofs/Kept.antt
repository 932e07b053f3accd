-- States by name, and what undoes their changes.
use Rattle.std.proofs.Common.{◌≡◌, ℕ, Bool, true, false, cond, ◌&&◌, T, List, [], ◌∷◌, ◌++◌, refl, sym, ap, ◌∙◌, subst}
use Rattle.std.specs.Prelude.{Option, Some, None, IsSome, is_some, IfSome, filter, find as first_that}
use Rattle.std.specs.List.{AllByRecursion, slice_get}
use Rattle.std.specs.List.Sorted.{IsStrictlySortedBy}
use Rattle.std.specs.Map.{lookup, keys_of}
use Rattle.std.specs.BTreeMap.{is_at}
use Rattle.std.specs.BTreeMap.Range.{range_contains}
use Rattle.std.specs.declared.ops.Bound.TheVariants.{Excluded, Unbounded}
use Rattle.std.specs.Ordering.{eq_by_cmp, is_eq, is_lt}
use Rattle.std.specs.Cmp.{IsTotalOrder, eq_by_cmp_equiv, tied_itself}
use Rattle.std.specs.Option.{option_map}
use Rattle.std.specs.declared.cmp.Ordering.{Ordering}
use Rattle.std.specs.declared.cmp.Ordering.TheVariants.{Less, Equal, Greater}
use Rattle.std.specs.FinMap.{IsAntisymmetric, get, empty, insert, remove, entries, from_entries, entries-from_sorted, get-from_sorted, is_sorted, find, get-from_entries, get-empty, get-insert, get-remove, same_map}
use Rattle.std.specs.FinMap.Entries.{below_all}
use Rattle.std.proofs.lemmas.Map.Keys.{sorted_head, sorted_tail}
use Rattle.ws_marks.specs.declared.state.Replaced.{Replaced}
use Rattle.ws_marks.specs.declared.state.State.{State}
use Rattle.ws_marks.specs.Places.{States, name_cmp}
use Rattle.ws_marks.specs.Marked.{name_is_above, set_at, state_after, undone}
use Rattle.ws_marks.specs.Inside.{AllNamed, AllThere}
use Rattle.ws_marks.proofs.Places.{name_cmp_total, name_cmp_exact}

both : (a b : Bool) → T a → T b → T (a && b)
both true b h g = g
both false b h g = h

-- ---- the map that entries make

module _ {K X : Type 0} {R : K → K → Ordering} (o : IsTotalOrder R) where
  find_is : (es : List (K × X)) (q : K) → find R q es ≡ lookup (is_at (R q)) es
  find_is [] q = refl
  find_is (e ∷ es) q = ap (cond (is_at (R q) e.0) (Some e.1)) (find_is es q)

  pub get_is : (es : List (K × X)) (q : K) → get (from_entries {R = R} es) q ≡ lookup (is_at (R q)) es
  get_is es q = get-from_entries o es q ∙ find_is es q

  pub one_put : IsAntisymmetric R → (es fs : List (K × X)) (k : K) (x : X) → ((q : K) → lookup (is_at (R q)) fs ≡ cond (is_at (R k) q) (Some x) (lookup (is_at (R q)) es))
      → from_entries {R = R} fs ≡ insert (from_entries es) k x
  one_put same es fs k x h = same_map o same _ _ (λ q.
      get_is fs q ∙ h q ∙ ap (λ b. cond b (Some x) (lookup (is_at (R q)) es)) ((eq_by_cmp_equiv o).symm k q)
      ∙ sym (get-insert o (from_entries es) k x q ∙ ap (cond (eq_by_cmp R q k) (Some x)) (get_is es q)))

  pub one_taken : IsAntisymmetric R → (es fs : List (K × X)) (k : K) → ((q : K) → lookup (is_at (R q)) fs ≡ cond (is_at (R k) q) None (lookup (is_at (R q)) es))
      → from_entries {R = R} fs ≡ remove (from_entries es) k
  one_taken same es fs k h = same_map o same _ _ (λ q.
      get_is fs q ∙ h q ∙ ap (λ b. cond b None (lookup (is_at (R q)) es)) ((eq_by_cmp_equiv o).symm k q)
      ∙ sym (get-remove o (from_entries es) k q ∙ ap (cond (eq_by_cmp R q k) None) (get_is es q)))

  below : (k : K) (es : List (K × X)) → AllByRecursion (λ q. R k q ≡ Less) (keys_of es) → T (below_all R k es)
  below k [] h = tt
  below k (e ∷ es) h = subst (λ r. T (is_lt r && below_all R k es)) (sym h.0) (below k es h.1)

  pub sorted : (es : List (K × X)) → IsStrictlySortedBy R (keys_of es) → T (is_sorted R es)
  sorted [] h = tt
  sorted (e ∷ es) h = both _ _ (below e.0 es (sorted_head R e.0 (keys_of es) h)) (sorted es (sorted_tail R e.0 (keys_of es) h))

  -- entries in order are those of the map
  pub entries_is : IsAntisymmetric R → (es : List (K × X)) → IsStrictlySortedBy R (keys_of es) → entries (from_entries {R = R} es) ≡ es
  entries_is same es h =
      ap entries (same_map o same _ _ (λ q. get-from_entries o es q ∙ sym (get-from_sorted R es q (sorted es h)))) ∙ entries-from_sorted R es (sorted es h)

pub head_filter : {X : Type 0} (p : X → Bool) (es : List X) → slice_get (filter p es) 0 ≡ first_that p es
head_filter p [] = refl
head_filter p (e ∷ es) = by (p e) (head_filter p es)
  where
    by : (b : Bool) → slice_get (filter p es) 0 ≡ first_that p es → slice_get (cond b (e ∷ filter p es) (filter p es)) 0 ≡ cond b (Some e) (first_that p es)
    by true h = refl
    by false h = h

-- ---- what is found

first : (a b : Bool) → T (a && b) → T a
first true b h = tt
first false b h = h

second : (a b : Bool) → T (a && b) → T b
second true b h = h
second false b h = absurd h

less : (r : Ordering) → T (is_lt r) → r ≡ Less
less Less h = refl
less Equal h = absurd h
less Greater h = absurd h

module _ {K X : Type 0} {R : K → K → Ordering} (o : IsTotalOrder R) (same : IsAntisymmetric R) where
  above_none : (k : K) (es : List (K × X)) → T (below_all R k es) → find R k es ≡ None
  above_none k [] b = refl
  above_none k (e ∷ es) b = ap (λ r. cond (is_eq r) (Some e.1) (find R k es)) (less _ (first _ _ b)) ∙ above_none k es (second (is_lt (R k e.0)) _ b)

  found_at : (P : K → Bool) (es : List (K × X)) → T (is_sorted R es) → (x : X) → option_map (λ e. e.1) (first_that (λ e. P e.0) es) ≡ Some x → (k : K) × (find R k es ≡ Some x)
  found_at P [] s x is = cc
  found_at P (e ∷ es) s x is = by (P e.0) (found_at P es (second (below_all R e.0 es) _ s) x) is
    where
      not : None ≡ Some x → ⊥
      not h = cc

      equal : (r : Ordering) → is_eq r ≡ true → r ≡ Equal
      equal Less h = cc
      equal Equal h = refl
      equal Greater h = cc

      later : (k : K) (b : Bool) → eq_by_cmp R k e.0 ≡ b → find R k es ≡ Some x → cond b (Some e.1) (find R k es) ≡ Some x
      later k true t h = absurd (not (sym (ap (λ q. find R q es) (same k e.0 (equal _ t)) ∙ above_none e.0 es (first (below_all R e.0 es) _ s)) ∙ h))
      later k false t h = h

      by : (b : Bool) → (option_map (λ e. e.1) (first_that (λ e. P e.0) es) ≡ Some x → (k : K) × (find R k es ≡ Some x))
          → option_map (λ e. e.1) (cond b (Some e) (first_that (λ e. P e.0) es)) ≡ Some x → (k : K) × (find R k (e ∷ es) ≡ Some x)
      by true rest h = (e.0, ap (λ r. cond (is_eq r) (Some e.1) (find R e.0 es)) (tied_itself o e.0) ∙ h)
      by false rest h = ((rest h).0, later (rest h).0 (eq_by_cmp R (rest h).0 e.0) refl (rest h).1)

-- ---- the names of states

equal_names : (r : Ordering) → is_eq r ≡ true → r ≡ Equal
equal_names Less h = cc
equal_names Equal h = refl
equal_names Greater h = cc

module _ {M : Type 0} where
  gone : (s : State M) → None ≡ Some s → ⊥
  gone s h = cc

  inner : (x y : State M) → Some x ≡ Some y → x ≡ y
  inner x y h = cc

  pub named_none : AllNamed (empty {X = State M} {R = name_cmp})
  named_none n s h = absurd (gone s (sym (get-empty name_cmp n) ∙ h))

  pub named_put : (m : States M) (n : List ℕ) (s : State M) → AllNamed m → s.participant ≡ n → AllNamed (insert m n s)
  named_put m n s named is q x h = by (eq_by_cmp name_cmp q n) refl (sym (get-insert name_cmp_total m n s q) ∙ h)
    where
      by : (b : Bool) → eq_by_cmp name_cmp q n ≡ b → cond b (Some s) (get m q) ≡ Some x → x.participant ≡ q
      by true t e = ap (λ (y : State M). y.participant) (sym (inner s x e)) ∙ is ∙ sym (name_cmp_exact q n (equal_names _ t))
      by false t e = named q x e

  pub named_without : (m : States M) (n : List ℕ) → AllNamed m → AllNamed (remove m n)
  named_without m n named q x h = by (eq_by_cmp name_cmp q n) (sym (get-remove name_cmp_total m n q) ∙ h)
    where
      by : (b : Bool) → cond b None (get m q) ≡ Some x → x.participant ≡ q
      by true e = absurd (gone x e)
      by false e = named q x e

  pub named_at : (m : States M) (n : List ℕ) → AllNamed m → IfSome (get m n) (λ s. s.participant ≡ n)
  named_at m n named = by (get m n) (named n)
    where
      by : (x : Option (State M)) → ((s : State M) → x ≡ Some s → s.participant ≡ n) → IfSome x (λ s. s.participant ≡ n)
      by None h = tt
      by (Some s) h = h s refl

  -- the first that a test of names finds stands under its own name
  pub own_state : (P : List ℕ → Bool) (es : List (List ℕ × State M)) → IsStrictlySortedBy name_cmp (keys_of es) → AllNamed (from_entries {R = name_cmp} es)
      → (s : State M) → option_map (λ e. e.1) (first_that (λ e. P e.0) es) ≡ Some s → get (from_entries {R = name_cmp} es) s.participant ≡ Some s
  own_state P es ordered named s h =
      let at : (k : List ℕ) × (find name_cmp k es ≡ Some s) = found_at name_cmp_total name_cmp_exact P es (sorted name_cmp_total es ordered) s h in
      let there : get (from_entries {R = name_cmp} es) at.0 ≡ Some s = get-from_entries name_cmp_total es at.0 ∙ at.1 in
      ap (get (from_entries {R = name_cmp} es)) (named at.0 s there) ∙ there

-- ---- the first above a name

and_true : (b : Bool) → (b && true) ≡ b
and_true true = refl
and_true false = refl

module _ {M : Type 0} where
  in_map : (after : Option (List ℕ)) (es : List (List ℕ × State M)) → IsStrictlySortedBy name_cmp (keys_of es)
      → option_map (λ e. e.1) (first_that (λ e. name_is_above after e.0) es) ≡ state_after (from_entries {R = name_cmp} es) after
  in_map after es h = ap (λ fs. option_map (λ e. e.1) (first_that (λ e. name_is_above after e.0) fs)) (sym (entries_is name_cmp_total name_cmp_exact es h))

  same_tests : (p q : List ℕ × State M → Bool) → ((e : List ℕ × State M) → p e ≡ q e) → (es : List (List ℕ × State M)) → filter p es ≡ filter q es
  same_tests p q same [] = refl
  same_tests p q same (e ∷ es) = λ i. cond (same e i) (e ∷ same_tests p q same es i) (same_tests p q same es i)

  pub all_first : (es fs : List (List ℕ × State M)) → fs ≡ filter (λ e. range_contains name_cmp Unbounded Unbounded e.0) es → IsStrictlySortedBy name_cmp (keys_of es)
      → option_map (λ e. e.1) (slice_get fs 0) ≡ state_after (from_entries {R = name_cmp} es) None
  all_first es fs is h =
      ap (λ xs. option_map (λ e. e.1) (slice_get xs 0)) (is ∙ same_tests _ (λ e. name_is_above None e.0) (λ e. refl) es)
      ∙ ap (option_map (λ e. e.1)) (head_filter (λ e. name_is_above None e.0) es) ∙ in_map None es h

  pub above_first : (n : List ℕ) (es fs : List (List ℕ × State M)) → fs ≡ filter (λ e. range_contains name_cmp (Excluded n) Unbounded e.0) es → IsStrictlySortedBy name_cmp (keys_of es)
      → option_map (λ e. e.1) (slice_get fs 0) ≡ state_after (from_entries {R = name_cmp} es) (Some n)
  above_first n es fs is h =
      ap (λ xs. option_map (λ e. e.1) (slice_get xs 0)) (is ∙ same_tests _ (λ e. name_is_above (Some n) e.0) (λ e. and_true (is_lt (name_cmp n e.0))) es)
      ∙ ap (option_map (λ e. e.1)) (head_filter (λ e. name_is_above (Some n) e.0) es) ∙ in_map (Some n) es h

  pub own_shown : (after : Option (List ℕ)) (es : List (List ℕ × State M)) (m : States M) → IsStrictlySortedBy name_cmp (keys_of es) → AllNamed (from_entries {R = name_cmp} es)
      → from_entries {R = name_cmp} es ≡ m → (s : State M) → state_after (from_entries {R = name_cmp} es) after ≡ Some s → get m s.participant ≡ Some s
  own_shown after es m h named is s e = ap (λ (k : States M). get k s.participant) (sym is) ∙ own_state (name_is_above after) es h named s (in_map after es h ∙ e)

-- ---- one state

pub get_set_at : {M : Type 0} (kept : States M) (n : List ℕ) (o : Option (State M)) (q : List ℕ) → get (set_at kept n o) q ≡ cond (eq_by_cmp name_cmp q n) o (get kept q)
get_set_at kept n None q = get-remove name_cmp_total kept n q
get_set_at kept n (Some s) q = get-insert name_cmp_total kept n s q

module _ {M : Type 0} (kept : States M) (name : List ℕ) (s : State M) where
  itself : eq_by_cmp name_cmp name name ≡ true
  itself = ap is_eq (tied_itself name_cmp_total name)

  pub put_here : get (insert kept name s) name ≡ Some s
  put_here = get-insert name_cmp_total kept name s name ∙ ap (λ b. cond b (Some s) (get kept name)) itself

  -- what replaced another is replaced by that again
  pub put_undone : set_at (insert kept name s) name (get kept name) ≡ kept
  put_undone = by (get kept name) refl
    where
      tied : (q : List ℕ) (x : Option (State M)) → eq_by_cmp name_cmp q name ≡ true → get kept name ≡ x → x ≡ get kept q
      tied q x t e = sym e ∙ ap (get kept) (sym (name_cmp_exact q name (equal _ t)))
        where
          equal : (r : Ordering) → is_eq r ≡ true → r ≡ Equal
          equal Less h = cc
          equal Equal h = refl
          equal Greater h = cc

      twice : (q : List ℕ) (x : Option (State M)) (b : Bool) → eq_by_cmp name_cmp q name ≡ b → get kept name ≡ x → cond b x (cond b (Some s) (get kept q)) ≡ get kept q
      twice q x true t e = tied q x t e
      twice q x false t e = refl

      by : (x : Option (State M)) → get kept name ≡ x → set_at (insert kept name s) name x ≡ kept
      by None e = same_map name_cmp_total name_cmp_exact _ _ (λ q.
          get-remove name_cmp_total (insert kept name s) name q ∙ ap (cond (eq_by_cmp name_cmp q name) None) (get-insert name_cmp_total kept name s q) ∙ twice q None (eq_by_cmp name_cmp q name) refl e)
      by (Some y) e = same_map name_cmp_total name_cmp_exact _ _ (λ q.
          get-insert name_cmp_total (insert kept name s) name y q ∙ ap (cond (eq_by_cmp name_cmp q name) (Some y)) (get-insert name_cmp_total kept name s q) ∙ twice q (Some y) (eq_by_cmp name_cmp q name) refl e)

-- ---- what was replaced, the last of it

module _ {M : Type 0} where
  pub undone_last : (kept : States M) (rs : List (Replaced M)) (r : Replaced M) → undone kept (rs ++ r ∷ []) ≡ undone (set_at kept r.participant r.before) rs
  undone_last kept [] r = refl
  undone_last kept (x ∷ rs) r = ap (λ m. set_at m x.participant x.before) (undone_last kept rs r)

  pub there_last : (kept : States M) (rs : List (Replaced M)) (r : Replaced M) → AllThere kept (rs ++ r ∷ [])
      → IsSome (get kept r.participant) × IfSome r.before (λ s. s.participant ≡ r.participant) × AllThere (set_at kept r.participant r.before) rs
  there_last kept [] r h = (h.0, h.1, tt)
  there_last kept (x ∷ rs) r h =
      let rest = there_last kept rs r h.2 in
      (rest.0, rest.1, (subst (λ m. IsSome (get m x.participant)) (undone_last kept rs r) h.0, h.1, rest.2))

  either : (b : Bool) (x y z : Option (State M)) → (IsSome y → IsSome z) → IsSome (cond b x y) → IsSome (cond b x z)
  either true x y z go h = h
  either false x y z go h = go h

  -- what is there after one is put back is there without that, where that one's name has a state
  there_without : (kept : States M) (n : List ℕ) (o : Option (State M)) (rs : List (Replaced M)) (q : List ℕ) → IsSome (get kept n)
      → IsSome (get (undone (set_at kept n o) rs) q) → IsSome (get (undone kept rs) q)
  there_without kept n o [] q some h = by (eq_by_cmp name_cmp q n) refl (subst IsSome (get_set_at kept n o q) h)
    where
      by : (b : Bool) → eq_by_cmp name_cmp q n ≡ b → IsSome (cond b o (get kept q)) → IsSome (get kept q)
      by true e h = subst (λ k. IsSome (get kept k)) (sym (name_cmp_exact q n (equal_names _ e))) some
      by false e h = h
  there_without kept n o (r ∷ rs) q some h =
      subst IsSome (sym (get_set_at (undone kept rs) r.participant r.before q))
      (either (eq_by_cmp name_cmp q r.participant) r.before _ _ (there_without kept n o rs q some) (subst IsSome (get_set_at (undone (set_at kept n o) rs) r.participant r.before q) h))

  pub there_front : (kept : States M) (rs : List (Replaced M)) (r : Replaced M) → AllThere kept (rs ++ r ∷ []) → AllThere kept rs
  there_front kept [] r h = tt
  there_front kept (x ∷ rs) r h =
      (there_without kept r.participant r.before rs x.participant (there_last kept rs r h.2).0 (subst (λ m. IsSome (get m x.participant)) (undone_last kept rs r) h.0), h.1, there_front kept rs r h.2)

  -- ---- one more is replaced

  abbrev pub replaced_by : States M → State M → Replaced M
  replaced_by kept s = record { participant = s.participant; before = get kept s.participant }

  pub undone_push : (kept : States M) (s : State M) (rs : List (Replaced M)) → undone (insert kept s.participant s) (rs ++ replaced_by kept s ∷ []) ≡ undone kept rs
  undone_push kept s rs = undone_last (insert kept s.participant s) rs (replaced_by kept s) ∙ ap (λ m. undone m rs) (put_undone kept s.participant s)

  pub there_push : (kept : States M) (s : State M) (rs : List (Replaced M)) → AllThere kept rs → IfSome (get kept s.participant) (λ x. x.participant ≡ s.participant)
      → AllThere (insert kept s.participant s) (rs ++ replaced_by kept s ∷ [])
  there_push kept s [] h named = (ap is_some (put_here kept s.participant s), named, tt)
  there_push kept s (x ∷ rs) h named = (subst (λ m. IsSome (get m x.participant)) (sym (undone_push kept s rs)) h.0, h.1, there_push kept s rs h.2 named)

  -- ---- the last is taken

  pub there_taken : (kept : States M) (olds news : List (Replaced M)) (last : Option (Replaced M)) → IfSome last (λ r. olds ≡ news ++ r ∷ []) → (last ≡ None → news ≡ olds) → AllThere kept olds → AllThere kept news
  there_taken kept olds news None is same h = subst (AllThere kept) (sym (same refl)) h
  there_taken kept olds news (Some r) is same h = there_front kept news r (subst (AllThere kept) is h)
