-- Records and states with what stands for their trees.
use Rattle.std.proofs.Common.{◌≡◌, ◌≢◌, ◌⊎◌, inl, inr, Bool, true, false, cond, ℕ, zero, suc, List, [], ◌∷◌, map, take, drop, refl, sym, ap, ◌∙◌}
use Rattle.std.specs.Prelude.{Option, Some, None, IfSome}
use Rattle.std.specs.Option.{option_map}
use Rattle.std.specs.Cmp.{IsTotalOrder, tied_itself}
use Rattle.std.specs.Ordering.{eq_by_cmp, is_eq}
use Rattle.std.specs.declared.cmp.Ordering.{Ordering}
use Rattle.std.specs.declared.cmp.Ordering.TheVariants.{Less, Equal, Greater}
use Rattle.std.specs.FinMap.{FinMap, IsAntisymmetric, empty, find, get, get-empty, get-entries, get-from_entries, get-insert, get-remove, insert, remove, entries, same_map}
use Rattle.ws_marks.specs.declared.record.Record.{Record}
use Rattle.ws_marks.specs.declared.state.Replaced.{Replaced}
use Rattle.ws_marks.specs.declared.state.State.{State}
use Rattle.ws_marks.specs.Marked.{undone}
use Rattle.ws_marks.specs.Places.{Place, Records, States, name_cmp, place_cmp}
use Rattle.ws_marks.proofs.Kept.{get_set_at}
use Rattle.ws_marks.proofs.Places.{name_cmp_exact, name_cmp_total, place_cmp_exact, place_cmp_total}
use Rattle.ws_content.specs.Inside.Held.{mapped, resolved, resolved_states, restated, retreed}
use Rattle.ws_content.specs.Inside.Slots.{replaced_at}

pub is_equal : (o : Ordering) → is_eq o ≡ true → o ≡ Equal
is_equal Less h = cc
is_equal Equal h = refl
is_equal Greater h = cc

pub tied : (p q : Place) → eq_by_cmp place_cmp p q ≡ true → p ≡ q
tied p q h = place_cmp_exact p q (is_equal (place_cmp p q) h)

no : true ≡ false → ⊥
no h = cc

pub untied : (p q : Place) → eq_by_cmp place_cmp p q ≡ false → p ≢ q
untied p q h same = no (sym (ap (λ k. eq_by_cmp place_cmp k q) same ∙ ap is_eq (tied_itself place_cmp_total q)) ∙ h)

module _ {M : Type 0} where
  -- what stands at a place after a record was put
  pub inserted : (rs : Records M) (k : Place) (r : Record M) (q : Place) (x : Record M) → get (insert rs k r) q ≡ Some x → ((q ≡ k) × (r ≡ x)) ⊎ ((q ≢ k) × (get rs q ≡ Some x))
  inserted rs k r q x h = by (eq_by_cmp place_cmp q k) refl (sym (get-insert place_cmp_total rs k r q) ∙ h)
    where
      same : (a b : Record M) → ◌≡◌ {A = Option (Record M)} (Some a) (Some b) → a ≡ b
      same a b h = cc

      by : (b : Bool) → eq_by_cmp place_cmp q k ≡ b → cond b (Some r) (get rs q) ≡ Some x → ((q ≡ k) × (r ≡ x)) ⊎ ((q ≢ k) × (get rs q ≡ Some x))
      by true e g = inl (tied q k e, same r x g)
      by false e g = inr (untied q k e, g)

  -- and after one was taken
  pub removed : (rs : Records M) (k q : Place) (x : Record M) → get (remove rs k) q ≡ Some x → (get rs q ≡ Some x) × (eq_by_cmp place_cmp q k ≡ false)
  removed rs k q x h = by (eq_by_cmp place_cmp q k) refl (sym (get-remove place_cmp_total rs k q) ∙ h)
    where
      by : (b : Bool) → eq_by_cmp place_cmp q k ≡ b → cond b None (get rs q) ≡ Some x → (get rs q ≡ Some x) × (eq_by_cmp place_cmp q k ≡ false)
      by true e g = cc
      by false e g = (g, e)

-- ---- maps with other values

module _ {K X Y : Type 0} {R : K → K → Ordering} (o : IsTotalOrder R) where
  mapped_cond : (g : X → Y) (b : Bool) (x : X) (y : Option X) → cond b (Some (g x)) (option_map g y) ≡ option_map g (cond b (Some x) y)
  mapped_cond g true x y = refl
  mapped_cond g false x y = refl

  none_cond : (g : X → Y) (b : Bool) (y : Option X) → option_map g (cond b None y) ≡ cond b None (option_map g y)
  none_cond g true y = refl
  none_cond g false y = refl

  find_mapped : (f : X → Y) (es : List (K × X)) (q : K) → find R q (map (λ (e : K × X). (e.0, f e.1)) es) ≡ option_map f (find R q es)
  find_mapped f [] q = refl
  find_mapped f (e ∷ es) q = ap (cond (is_eq (R q e.0)) (Some (f e.1))) (find_mapped f es q) ∙ mapped_cond f (is_eq (R q e.0)) e.1 (find R q es)

  get_mapped : (f : X → Y) (m : FinMap R X) (q : K) → get (mapped f m) q ≡ option_map f (get m q)
  get_mapped f m q =
      get-from_entries o (map (λ (e : K × X). (e.0, f e.1)) (entries m)) q
      ∙ find_mapped f (entries m) q ∙ ap (option_map f) (sym (get-entries m q))

  module _ (same : IsAntisymmetric R) where
    mapped_same : (f g : X → Y) (m : FinMap R X) → ((q : K) → IfSome (get m q) (λ x. f x ≡ g x)) → mapped f m ≡ mapped g m
    mapped_same f g m equal = same_map o same _ _ (λ q. get_mapped f m q ∙ by (get m q) (equal q) ∙ sym (get_mapped g m q))
      where
        by : (x : Option X) → IfSome x (λ x. f x ≡ g x) → option_map f x ≡ option_map g x
        by None h = refl
        by (Some x) h = ap Some h

    mapped_insert : (f : X → Y) (m : FinMap R X) (k : K) (x : X) → mapped f (insert m k x) ≡ insert (mapped f m) k (f x)
    mapped_insert f m k x = same_map o same _ _ (λ q.
        get_mapped f (insert m k x) q ∙ ap (option_map f) (get-insert o m k x q)
        ∙ sym (mapped_cond f (eq_by_cmp R q k) x (get m q))
        ∙ ap (cond (eq_by_cmp R q k) (Some (f x))) (sym (get_mapped f m q))
        ∙ sym (get-insert o (mapped f m) k (f x) q))

    mapped_remove : (f : X → Y) (m : FinMap R X) (k : K) → mapped f (remove m k) ≡ remove (mapped f m) k
    mapped_remove f m k = same_map o same _ _ (λ q.
        get_mapped f (remove m k) q ∙ ap (option_map f) (get-remove o m k q)
        ∙ none_cond f (eq_by_cmp R q k) (get m q)
        ∙ ap (cond (eq_by_cmp R q k) None) (sym (get_mapped f m q))
        ∙ sym (get-remove o (mapped f m) k q))

-- ---- records and states

module _ {M N : Type 0} where
  pub get_resolved : (f : M → N) (rs : Records M) (q : Place) → get (resolved f rs) q ≡ option_map (retreed f) (get rs q)
  get_resolved f = get_mapped place_cmp_total (retreed f)

  pub resolved_same : (f g : M → N) (rs : Records M) → ((q : Place) → IfSome (get rs q) (λ r. f r.tree ≡ g r.tree)) → resolved f rs ≡ resolved g rs
  resolved_same f g rs same = mapped_same place_cmp_total place_cmp_exact (retreed f) (retreed g) rs (λ q. by (get rs q) (same q))
    where
      by : (o : Option (Record M)) → IfSome o (λ r. f r.tree ≡ g r.tree) → IfSome o (λ r. retreed f r ≡ retreed g r)
      by None h = tt
      by (Some r) h = λ i. record { project = r.project; index = r.index; command = r.command; references = r.references; tree = h i }

  pub resolved_insert : (f : M → N) (rs : Records M) (k : Place) (r : Record M) → resolved f (insert rs k r) ≡ insert (resolved f rs) k (retreed f r)
  resolved_insert f = mapped_insert place_cmp_total place_cmp_exact (retreed f)

  pub resolved_remove : (f : M → N) (rs : Records M) (k : Place) → resolved f (remove rs k) ≡ remove (resolved f rs) k
  resolved_remove f = mapped_remove place_cmp_total place_cmp_exact (retreed f)

  pub states_same : (f g : M → N) (ss : States M) → ((q : List ℕ) (s : State M) (x : M) → get ss q ≡ Some s → s.tree ≡ Some x → f x ≡ g x) → resolved_states f ss ≡ resolved_states g ss
  states_same f g ss same = mapped_same name_cmp_total name_cmp_exact (restated f) (restated g) ss (λ q. by q (get ss q) refl)
    where
      tree : (o : Option M) → ((x : M) → o ≡ Some x → f x ≡ g x) → option_map f o ≡ option_map g o
      tree None h = refl
      tree (Some x) h = ap Some (h x refl)

      by : (q : List ℕ) (o : Option (State M)) → get ss q ≡ o → IfSome o (λ s. restated f s ≡ restated g s)
      by q None e = tt
      by q (Some s) e = λ i. record { participant = s.participant; bytes = s.bytes; tree = tree s.tree (λ x is. same q s x e is) i }

  pub states_insert : (f : M → N) (ss : States M) (k : List ℕ) (s : State M) → resolved_states f (insert ss k s) ≡ insert (resolved_states f ss) k (restated f s)
  states_insert f = mapped_insert name_cmp_total name_cmp_exact (restated f)

  pub no_states : (f : M → N) → resolved_states f empty ≡ empty
  no_states f = same_map name_cmp_total name_cmp_exact _ _ (λ q. get_mapped name_cmp_total (restated f) empty q ∙ ap (option_map (restated f)) (get-empty name_cmp q) ∙ sym (get-empty name_cmp q))

-- ---- where a state stood that is there again

module _ {M : Type 0} where
  -- it is kept now, or was replaced
  abbrev pub StoodSomewhere : States M → List (Replaced M) → List ℕ → State M → Type 0
  StoodSomewhere kept rs q s = (get kept q ≡ Some s) ⊎ ((n : ℕ) × (replaced_at rs n ≡ Some s))

  pub stood : (kept : States M) (rs : List (Replaced M)) (q : List ℕ) (s : State M) → get (undone kept rs) q ≡ Some s → StoodSomewhere kept rs q s
  stood kept [] q s e = inl e
  stood kept (r ∷ rs) q s e = by (eq_by_cmp name_cmp q r.participant) (stood kept rs q s) (sym (get_set_at (undone kept rs) r.participant r.before q) ∙ e)
    where
      by : (b : Bool) → (get (undone kept rs) q ≡ Some s → StoodSomewhere kept rs q s) → cond b r.before (get (undone kept rs) q) ≡ Some s → StoodSomewhere kept (r ∷ rs) q s
      by true later is = inr (0, is)
      by false later is = elim (later is) as (λ _. StoodSomewhere kept (r ∷ rs) q s) [ inl here ↦ inl here | inr there ↦ inr (suc (there.0), there.1) ]

  pub stood_after : (count : ℕ) (kept : States M) (rs : List (Replaced M)) (q : List ℕ) (s : State M) → get (undone kept (drop count rs)) q ≡ Some s → StoodSomewhere kept rs q s
  stood_after zero kept rs q s e = stood kept rs q s e
  stood_after (suc count) kept [] q s e = inl e
  stood_after (suc count) kept (r ∷ rs) q s e =
      elim (stood_after count kept rs q s e) as (λ _. StoodSomewhere kept (r ∷ rs) q s) [ inl here ↦ inl here | inr there ↦ inr (suc (there.0), there.1) ]

  pub stood_before : (count : ℕ) (rs : List (Replaced M)) (n : ℕ) (s : State M) → replaced_at (take count rs) n ≡ Some s → replaced_at rs n ≡ Some s
  stood_before zero rs n s e = cc
  stood_before (suc count) [] n s e = cc
  stood_before (suc count) (r ∷ rs) zero s e = e
  stood_before (suc count) (r ∷ rs) (suc n) s e = stood_before count rs n s e
