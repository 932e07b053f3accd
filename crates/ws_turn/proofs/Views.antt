-- On the views of the seats: what a change of one of them leaves, and whose a number and a ticket are.
use Rattle.ws_turn.specs.Lists.{has}
use Rattle.std.proofs.Common.{◌⊎◌, ◌≡◌, ◌≢◌, ◌+◌, ◌-◌, ◌^◌, ◌<◌, ◌≤◌, ℕ, zero, suc, true, false, eqb, List, [], ◌∷◌, ◌++◌, length, Option, Some, set, sym, refl, ap, ◌∙◌, subst, ⊎_elim, inl, inr, arith, true≢false, ne_eqb, ◌||◌}
use mathlib.Core.Logic.{dite}
use mathlib.Core.Option.{some, some-injective, some-ne-none}
use native.Mathlib.Decide.{ℕ_discrete}
use lib.ListN.{get_elem?}
use Rattle.std.specs.List.{IsDistinct, AllByRecursion, list_any}
use Rattle.std.proofs.lemmas.Map.Steps.{length-le_from_distinct_below}
use Rattle.atomic_table.specs.Table.{State}
use Rattle.atomic_table.proofs.Lists.{at_set, set_here, set_else}
use Rattle.ws_turn.specs.declared.view.View.{View}
use Rattle.ws_turn.specs.Inside.Turn.{Fate, unused, pending, living, joined, lost, is_had, is_used, Lives, Turn, Now, Knows}
use Rattle.ws_turn.proofs.Lists.{some_same, by_bool}

pub at_within : {A : Type 0} (l : List A) (i : ℕ) (a : A) → get_elem? l i ≡ some a → i < length l
at_within [] i a e = absurd (some-ne-none a (sym e))
at_within (x ∷ xs) zero a e = omega arith
at_within (x ∷ xs) (suc i) a e = let h = at_within xs i a e in omega (arith, h)

pub at_end : {A : Type 0} (l : List A) (a b : A) (j : ℕ) → get_elem? (l ++ a ∷ []) j ≡ some b → (get_elem? l j ≡ some b) ⊎ ((j ≡ length l) × (a ≡ b))
at_end [] a b zero e = inr (refl, some-injective a b e)
at_end [] a b (suc j) e = absurd (some-ne-none b (sym e))
at_end (x ∷ xs) a b zero e = inl e
at_end (x ∷ xs) a b (suc j) e = ⊎_elim inl (λ (t : (j ≡ length xs) × (a ≡ b)). inr (ap suc t.0, t.1)) (at_end xs a b j e)

-- ---- what became of a number

pub living_same : (j k : ℕ) → living j ≡ living k → j ≡ k
living_same j k e = let e : living j ≡ living k = e in cc

pub unused_is : (f : Fate) → is_used f ≡ false → f ≡ unused
unused_is unused e = refl
unused_is pending e = absurd (true≢false e)
unused_is (living j) e = absurd (true≢false e)
unused_is joined e = absurd (true≢false e)
unused_is lost e = absurd (true≢false e)

pub had_used : (f : Fate) → is_had f ≡ true → is_used f ≡ true
had_used unused e = absurd (true≢false (sym e))
had_used pending e = refl
had_used (living j) e = refl
had_used joined e = refl
had_used lost e = refl

-- ---- numbers of a range

-- f of k numbers from a on
upto : (ℕ → ℕ) → ℕ → ℕ → List ℕ
upto f a zero = []
upto f a (suc k) = f a ∷ upto f (suc a) k

length-upto : (f : ℕ → ℕ) (a k : ℕ) → length (upto f a k) ≡ k
unfolding upto
length-upto f a zero = refl
length-upto f a (suc k) = ap suc (length-upto f (suc a) k)

any_upto : (f : ℕ → ℕ) (a k q : ℕ) → list_any (eqb q) (upto f a k) ≡ true → (i : ℕ) × (a ≤ i) × (i < a + k) × (f i ≡ q)
unfolding upto
any_upto f a zero q e = absurd (true≢false (sym e))
any_upto f a (suc k) q e = dite (ℕ_discrete q (f a))
    (λ h. (a, omega arith, omega arith, sym h))
    (λ n. let o = any_upto f (suc a) k q (sym (ap (λ b. b || list_any (eqb q) (upto f (suc a) k)) (ne_eqb q (f a) n)) ∙ e) in (o.0, omega (arith, o.1), omega (arith, o.2), o.3))

none_upto : (f : ℕ → ℕ) (a k x : ℕ) → ((i : ℕ) → a ≤ i → i < a + k → x ≢ f i) → AllByRecursion (λ y. eqb x y ≡ false) (upto f a k)
unfolding upto
none_upto f a zero x h = tt
none_upto f a (suc k) x h = (ne_eqb x (f a) (h a (omega arith) (omega arith)), none_upto f (suc a) k x (λ i p q. h i (omega (arith, p)) (omega (arith, q))))

distinct_upto : (f : ℕ → ℕ) (a k : ℕ) → ((i j : ℕ) → a ≤ i → i < a + k → a ≤ j → j < a + k → f i ≡ f j → i ≡ j) → IsDistinct eqb (upto f a k)
unfolding upto IsDistinct
distinct_upto f a zero h = tt
distinct_upto f a (suc k) h = (
  none_upto f (suc a) k (f a) (λ i p q e. let same : a ≡ i = h a i (omega arith) (omega arith) (omega (arith, p)) (omega (arith, q)) e in omega (arith, same, p)),
  distinct_upto f (suc a) k (λ i j p q p' q' e. h i j (omega (arith, p)) (omega (arith, q)) (omega (arith, p')) (omega (arith, q')) e),
)

-- k numbers below a bound that differ are no more than the bound
pub few_below : (f : ℕ → ℕ) (a k bound : ℕ) → ((i : ℕ) → a ≤ i → i < a + k → f i < bound)
    → ((i j : ℕ) → a ≤ i → i < a + k → a ≤ j → j < a + k → f i ≡ f j → i ≡ j) → k ≤ bound
few_below f a k bound below apart =
    let most = length-le_from_distinct_below (upto f a k) bound (distinct_upto f a k apart)
    (λ q e. let o = any_upto f a k q e in subst (λ (z : ℕ). z < bound) o.3 (below o.0 o.1 o.2)) in
    let len = length-upto f a k in
    omega (arith, most, len)

-- ---- views

module _ {S E B : Type 0} where
  -- the view of a seat, once another seat's view is w
  pub one_changed : (views : List (View S E B)) (id : ℕ) (w : View S E B) (j : ℕ) (u : View S E B) → Lives (set views id w) j u
      → ((j ≡ id) × (w ≡ u)) ⊎ ((j ≢ id) × Lives views j u)
  one_changed views id w j u e = ⊎_elim inl (λ (p : (j ≢ id) × (get_elem? views j ≡ some u)). inr (p.0, (p.1, e.1))) (at_set views id j w u e.0)

  pub lives_here : (views : List (View S E B)) (id : ℕ) (v w : View S E B) → get_elem? views id ≡ some v → w.spent ≡ false → Lives (set views id w) id w
  lives_here views id v w at alive = (set_here views id w (at_within views id v at), alive)

  pub lives_else : (views : List (View S E B)) (id : ℕ) (w : View S E B) (j : ℕ) (u : View S E B) → j ≢ id → Lives views j u → Lives (set views id w) j u
  lives_else views id w j u other e = (set_else views id j w other ∙ e.0, e.1)

  pub one_view : (views : List (View S E B)) (id j : ℕ) (v u : View S E B) → get_elem? views id ≡ some v → j ≡ id → Lives views j u → v ≡ u
  one_view views id j v u at same e = some-injective v u (sym at ∙ subst (λ i. get_elem? views i ≡ some u) same e.0)

  -- a fact that some live view has, and that the change of one view leaves
  pub still_one : (views : List (View S E B)) (id : ℕ) (v w : View S E B) → get_elem? views id ≡ some v → w.spent ≡ false → (P : View S E B → Type 0) → (P v → P w)
      → ((j : ℕ) × (u : View S E B) × Lives views j u × P u) → (j : ℕ) × (u : View S E B) × Lives (set views id w) j u × P u
  still_one views id v w at alive P goes o = dite (ℕ_discrete o.0 id)
      (λ same. (id, w, lives_here views id v w at alive, goes (subst P (sym (one_view views id o.0 v o.1 at same o.2)) o.3)))
      (λ other. (o.0, o.1, lives_else views id w o.0 o.1 other o.2, o.3))

module _ {S E B : Type 0} (list : S → List E) (base : S → B) (by : E → ℕ) (deals : E → Option ℕ) where
  abbrev St : Type 0
  St = State (Option S) (View S E B)

  -- no pass that was joined to one had its number
  pub apart_from_joined : (key : B) (t : Now E) (j : ℕ) (v : View S E B) → Knows list base by deals key t j v → (n : ℕ) → v.number ≡ Some n → has n v.joined ≡ false
  apart_from_joined key t j v k n num = by_bool (has n v.joined) (λ z. absurd (not_joined j (sym (k.number n num).1 ∙ k.joined_is n z))) (λ z. z)
    where
      not_joined : (j : ℕ) → living j ≡ joined → ⊥
      not_joined j e = let e : living j ≡ joined = e in cc

  module _ (key : B) (s : St) (r : Turn list base by deals key s) where
    pub one_seat : (j k : ℕ) (v w : View S E B) → Lives s.views j v → Lives s.views k w → (n : ℕ) → v.number ≡ Some n → w.number ≡ Some n → j ≡ k
    one_seat j k v w ej ek n nv nw = living_same j k (sym ((r.views j v ej).number n nv).1 ∙ ((r.views k w ek).number n nw).1)

    pub one_ticket : (j k : ℕ) (v w : View S E B) → Lives s.views j v → Lives s.views k w → (n : ℕ) → v.ticket ≡ Some n → w.ticket ≡ Some n → j ≡ k
    one_ticket j k v w ej ek n tv tw = one_seat j k v w ej ek (r.now.named n) ((r.views j v ej).ticket n tv).2 ((r.views k w ek).ticket n tw).2

    -- the tickets that wait are no more than the numbers that a pass can have
    pub few : r.now.drawn ≤ r.now.served + 2 ^ 64
    few =
        let t = r.now in
        let k = gap t.served t.drawn r.behind in
        let seat : (i : ℕ) → t.served ≤ i → i < t.served + k.0 → (j : ℕ) × (v : View S E B) × Lives s.views j v × (v.ticket ≡ Some i) = λ i lo hi. r.queue i lo (omega (arith, hi, k.1)) in
        let named : (i : ℕ) (lo : t.served ≤ i) (hi : i < t.served + k.0) → (seat i lo hi).1.number ≡ Some (t.named i) = λ i lo hi. let o = seat i lo hi in ((r.views o.0 o.1 o.2).ticket i o.3).2 in
        let most = few_below t.named t.served k.0 (2 ^ 64)
        (λ i lo hi. let o = seat i lo hi in ((r.views o.0 o.1 o.2).number (t.named i) (named i lo hi)).0)
        (λ i j lo hi lo' hi' e.
        let a = seat i lo hi in
        let b = seat j lo' hi' in
        let one : b.0 ≡ a.0 = one_seat b.0 a.0 b.1 a.1 b.2 a.2 (t.named i) (named j lo' hi' ∙ ap Some (sym e)) (named i lo hi) in
        let view = one_view s.views a.0 b.0 a.1 b.1 a.2.0 one b.2 in
        some_same i j (sym a.3 ∙ (ap (λ (z : View S E B). z.ticket) view ∙ b.3))) in
        omega (arith, most, k.1)
      where
        gap : (a b : ℕ) → a ≤ b → (k : ℕ) × (a + k ≡ b)
        gap a b le = (b - a, omega (arith, le))
