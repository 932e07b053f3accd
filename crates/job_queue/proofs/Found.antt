-- Entries in the order of their keys, and the first that passes a test.
use Rattle.std.proofs.Common.{◌≡◌, ◌≢◌, Bool, true, false, cond, ◌&&◌, List, [], ◌∷◌, refl, sym, ap, ◌∙◌, subst}
use Rattle.std.specs.Prelude.{Some, None, T, find}
use Rattle.std.specs.Option.{unwrap_or}
use Rattle.std.specs.Cmp.{IsTotalOrder, tied_itself}
use Rattle.std.specs.Ordering.{eq_by_cmp, is_eq, is_lt, ordering_reverse}
use Rattle.std.specs.declared.cmp.Ordering.{Ordering}
use Rattle.std.specs.declared.cmp.Ordering.TheVariants.{Less, Equal, Greater}
use Rattle.std.specs.FinMap.{IsAntisymmetric, find as look, is_sorted}
use Rattle.std.specs.FinMap.Entries.{below_all}
use Rattle.job_queue.proofs.Tables.{tied}

pub first : (a b : Bool) → T (a && b) → T a
first true b p = tt
first false b p = absurd p

pub second : (a b : Bool) → T (a && b) → T b
second true b p = p
second false b p = absurd p

pub less : (o : Ordering) → T (is_lt o) → o ≡ Less
less Less p = refl
less Equal p = absurd p
less Greater p = absurd p

pub differ : true ≡ false → ⊥
differ h = cc

pub not_Some : {X : Type 0} (x : X) → None ≡ Some x → ⊥
not_Some x h = cc

pub same_Some : {X : Type 0} (x y : X) → Some x ≡ Some y → x ≡ y
same_Some x y h = ap (λ o. unwrap_or o x) h

less_not_equal : Less ≡ Equal → ⊥
less_not_equal h = cc

pub equal_not_less : Equal ≡ Less → ⊥
equal_not_less h = cc

pub greater_not_less : Greater ≡ Less → ⊥
greater_not_less h = cc

pub itself : {K : Type 0} {R : K → K → Ordering} → IsTotalOrder R → (k : K) → eq_by_cmp R k k ≡ true
itself o k = ap is_eq (tied_itself o k)

pub same_key : {K : Type 0} {R : K → K → Ordering} → IsAntisymmetric R → (k l : K) → eq_by_cmp R k l ≡ true → k ≡ l
same_key {R = R} exact k l h = exact k l (tied (R k l) h)

module _ {K X : Type 0} {R : K → K → Ordering} (o : IsTotalOrder R) (exact : IsAntisymmetric R) where
  -- a key below all is below each
  pub below_each : (k : K) (es : List (K × X)) → T (below_all R k es) → (q : K) (x : X) → look R q es ≡ Some x → R k q ≡ Less
  below_each k [] b q x h = absurd (not_Some x h)
  below_each k (e ∷ es) b q x h = by (eq_by_cmp R q e.0) refl h (below_each k es (second _ _ b) q x)
    where
      by : (t : Bool) → eq_by_cmp R q e.0 ≡ t → cond t (Some e.1) (look R q es) ≡ Some x → (look R q es ≡ Some x → R k q ≡ Less) → R k q ≡ Less
      by true i g rest = ap (R k) (same_key exact q e.0 i) ∙ less _ (first _ _ b)
      by false i g rest = rest g

  -- a key that is found behind a first one isn't that one
  pub apart_from : (e : K × X) (es : List (K × X)) → T (is_sorted R (e ∷ es)) → (q : K) (x : X) → look R q es ≡ Some x → eq_by_cmp R q e.0 ≡ false
  apart_from e es s q x h = by (eq_by_cmp R q e.0) refl
    where
      by : (t : Bool) → eq_by_cmp R q e.0 ≡ t → eq_by_cmp R q e.0 ≡ false
      by true i = absurd (less_not_equal (sym (below_each e.0 es (first _ _ s) q x h) ∙ ap (R e.0) (same_key exact q e.0 i) ∙ tied_itself o e.0))
      by false i = i

  pub found_behind : (e : K × X) (es : List (K × X)) → T (is_sorted R (e ∷ es)) → (q : K) (x : X) → look R q es ≡ Some x → look R q (e ∷ es) ≡ Some x
  found_behind e es s q x h = ap (λ t. cond t (Some e.1) (look R q es)) (apart_from e es s q x h) ∙ h

  pub found_first : (e : K × X) (es : List (K × X)) → look R e.0 (e ∷ es) ≡ Some e.1
  found_first e es = ap (λ t. cond t (Some e.1) (look R e.0 es)) (itself o e.0)

  -- what is found is the first entry, or one behind it
  pub by_place : {P : Type 0} (e : K × X) (es : List (K × X)) (q : K) (x : X) → look R q (e ∷ es) ≡ Some x → (q ≡ e.0 → x ≡ e.1 → P) → (look R q es ≡ Some x → P) → P
  by_place {P} e es q x h one two = by (eq_by_cmp R q e.0) refl h
    where
      by : (t : Bool) → eq_by_cmp R q e.0 ≡ t → cond t (Some e.1) (look R q es) ≡ Some x → P
      by true i g = one (same_key exact q e.0 i) (same_Some x e.1 (sym g))
      by false i g = two g

  module _ (p : K × X → Bool) where
    -- where none is found none passes
    pub find_none : (es : List (K × X)) → find p es ≡ None → (q : K) (x : X) → look R q es ≡ Some x → p (q, x) ≡ false
    find_none [] h q x g = absurd (not_Some x g)
    find_none (e ∷ es) h q x g = by (p e) refl h (find_none es)
      where
        by : (b : Bool) → p e ≡ b → cond b (Some e) (find p es) ≡ None → (find p es ≡ None → (q : K) (x : X) → look R q es ≡ Some x → p (q, x) ≡ false) → p (q, x) ≡ false
        by true i n rest = absurd (not_Some e (sym n))
        by false i n rest = by_place e es q x g (λ a b. (λ j. p (a j, b j)) ∙ i) (λ l. rest n q x l)

    pub record Firsts (es : List (K × X)) (e : K × X) : Type 0 where
      pub passes : p e ≡ true
      pub there : look R e.0 es ≡ Some e.1
      pub least : (q : K) (x : X) → look R q es ≡ Some x → p (q, x) ≡ true → R q e.0 ≢ Less

    -- what is found passes, and none before it does
    pub find_some : (es : List (K × X)) → T (is_sorted R es) → (e : K × X) → find p es ≡ Some e → Firsts es e
    find_some [] s e h = absurd (not_Some e h)
    find_some (f ∷ es) s e h = by (p f) refl h (find_some es (second _ _ s) e)
      where
        after : (q : K) → R f.0 q ≡ Less → R q f.0 ≢ Less
        after q l g = greater_not_less (sym (o.antisymm q f.0 ∙ ap ordering_reverse l) ∙ g)

        by : (b : Bool) → p f ≡ b → cond b (Some f) (find p es) ≡ Some e → (find p es ≡ Some e → Firsts es e) → Firsts (f ∷ es) e
        by true i g rest = subst (Firsts (f ∷ es)) (same_Some f e g) (record {
          passes = i;
          there = found_first f es;
          least = λ q x l t. by_place {P = R q f.0 ≢ Less} f es q x l
              (λ a b u. equal_not_less (sym (ap (λ k. R k f.0) a ∙ tied_itself o f.0) ∙ u))
              (λ l2. after q (below_each f.0 es (first _ _ s) q x l2));
        })
        by false i g rest =
            let r = rest g in
            record {
              passes = r.passes;
              there = found_behind f es s e.0 e.1 r.there;
              least = λ q x l t. by_place {P = R q e.0 ≢ Less} f es q x l
                  (λ a b u. differ (sym t ∙ (λ j. p (a j, b j)) ∙ i))
                  (λ l2. r.least q x l2 t);
            }
