-- The rule of two lists of atoms.
use Rattle.std.proofs.Common.{◌≡◌, Bool, true, false, cond, not, ◌&&◌, ◌||◌, ◌⊎◌, List, [], ◌∷◌, ◌++◌, refl, sym, ap, ◌∙◌, inl, inr, subst}
use Rattle.std.specs.declared.cmp.Ordering.{Ordering}
use Rattle.std.specs.declared.cmp.Ordering.TheVariants.{Less, Equal, Greater}
use Rattle.std.specs.Cmp.{IsTotalOrder}
use Rattle.std.specs.FinMap.{IsAntisymmetric}
use Rattle.std.specs.List.{AllByRecursion, list_any, filter}
use Rattle.std.proofs.lemmas.List.Elements.{filter-append}
use Rattle.res_path.proofs.Spelled.{both}
use Rattle.sched_rules.specs.Laws.{IsLawful}
use Rattle.sched_rules.specs.Rules.{StandsBefore, IsRule, IsRising, by_order, placed, all_placed, has_wider, rule_of, combined, covers, rule_contains}
use Rattle.sched_rules.proofs.Members.{IsIn, any_from, any_at, all_from, all_at, each_at}
use Rattle.sched_rules.proofs.RuleLaws.{one_of_rule, never_itself}
use Rattle.sched_rules.proofs.Placing.{each_all_placed, all_placed-append, all_placed_rising}

-- ---- filters and tests

pub filter_agree_in : {A : Type 0} (p q : A → Bool) (xs : List A) → ((x : A) → IsIn x xs → p x ≡ q x) → filter p xs ≡ filter q xs
filter_agree_in p q [] h = refl
filter_agree_in p q (x ∷ xs) h =
    let more = filter_agree_in p q xs (λ y i. h y (inr i)) in
    λ i. cond (h x (inl refl) i) (x ∷ more i) (more i)

pub in_filter : {A : Type 0} (p : A → Bool) (x : A) (xs : List A) → IsIn x xs → p x ≡ true → IsIn x (filter p xs)
in_filter p x [] i h = absurd i
in_filter p x (y ∷ ys) (inl e) h = subst (λ l. IsIn x l) (sym (ap (λ b. cond b (y ∷ filter p ys) (filter p ys)) (ap p (sym e) ∙ h))) (inl e)
in_filter {A} p x (y ∷ ys) (inr i) h = by (p y) (in_filter p x ys i h)
  where
    by : (b : Bool) → IsIn x (filter p ys) → IsIn x (cond b (y ∷ filter p ys) (filter p ys))
    by true more = inr more
    by false more = more

-- what holds of each element that passes holds of each that is left
pub each_filter : {A : Type 0} (P : A → Type 0) (p : A → Bool) (xs : List A) → ((x : A) → IsIn x xs → p x ≡ true → P x) → AllByRecursion P (filter p xs)
each_filter P p [] h = tt
each_filter {A} P p (y ∷ ys) h = by (p y) refl (each_filter P p ys (λ x i e. h x (inr i) e))
  where
    by : (b : Bool) → p y ≡ b → AllByRecursion P (filter p ys) → AllByRecursion P (cond b (y ∷ filter p ys) (filter p ys))
    by true e more = (h y (inl refl) e, more)
    by false e more = more

any-append : {A : Type 0} (t : A → Bool) (xs ys : List A) → list_any t (xs ++ ys) ≡ (list_any t xs || list_any t ys)
any-append t [] ys = refl
any-append {A} t (x ∷ xs) ys = by (t x) (any-append t xs ys)
  where
    by : (b : Bool) → list_any t (xs ++ ys) ≡ (list_any t xs || list_any t ys) → (b || list_any t (xs ++ ys)) ≡ ((b || list_any t xs) || list_any t ys)
    by true e = refl
    by false e = e

or_false : (b : Bool) → (b || false) ≡ b
or_false true = refl
or_false false = refl

not_true : (b : Bool) → not b ≡ true → b ≡ false
not_true true h = cc
not_true false h = refl

never : true ≡ false → ⊥
never h = cc

-- a test that is not true is false
unless : (b : Bool) → (b ≡ true → ⊥) → b ≡ false
unless true h = absurd (h refl)
unless false h = refl

pub in_left : {A : Type 0} (x : A) (xs ys : List A) → IsIn x xs → IsIn x (xs ++ ys)
in_left x [] ys i = absurd i
in_left x (y ∷ xs) ys (inl e) = inl e
in_left x (y ∷ xs) ys (inr i) = inr (in_left x xs ys i)

pub in_right : {A : Type 0} (x : A) (xs ys : List A) → IsIn x ys → IsIn x (xs ++ ys)
in_right x [] ys i = i
in_right x (y ∷ xs) ys i = inr (in_right x xs ys i)

pub in_both : {A : Type 0} (P : A → Type 0) (xs ys : List A) → ((x : A) → IsIn x xs → P x) → ((x : A) → IsIn x ys → P x) → (x : A) → IsIn x (xs ++ ys) → P x
in_both P [] ys h g x i = g x i
in_both P (y ∷ xs) ys h g x (inl e) = h x (inl e)
in_both P (y ∷ xs) ys h g x (inr i) = in_both P xs ys (λ z j. h z (inr j)) g x i

-- the atoms of one list than which none of another is wider
abbrev pub left_of : {A : Type 0} → (A → A → Bool) → List A → List A → List A
left_of contains r s = filter (λ x. not (has_wider contains s x)) r

module _ {A : Type 0} {cmp : A → A → Ordering} {contains conflicts : A → A → Bool} (laws : IsLawful contains conflicts) (order : IsTotalOrder cmp) (exact : IsAntisymmetric cmp) where
  abbrev is_wider : A → A → Bool
  is_wider x outer = contains outer x && not (contains x outer)

  -- ---- what is left of each of two rules

  none_in_own : (r : List A) → IsRule cmp contains r → (x : A) → IsIn x r → has_wider contains r x ≡ false
  none_in_own r f x i = unless (has_wider contains r x) (λ h.
      let y = any_at (is_wider x) r h in
      let parts = both (contains y.0 x) (not (contains x y.0)) y.2 in
      let same : y.0 ≡ x = one_of_rule laws order r f y.0 x y.1 i parts.0 in
      never (sym (laws.contains_itself x) ∙ ap (contains x) (sym same) ∙ not_true (contains x y.0) parts.1))

  wider_left : (r s : List A) → IsRule cmp contains r → (x : A) → IsIn x r → has_wider contains (r ++ s) x ≡ has_wider contains s x
  wider_left r s f x i = any-append (is_wider x) r s ∙ ap (λ b. b || has_wider contains s x) (none_in_own r f x i)

  wider_right : (r s : List A) → IsRule cmp contains s → (x : A) → IsIn x s → has_wider contains (r ++ s) x ≡ has_wider contains r x
  wider_right r s f x i = any-append (is_wider x) r s ∙ ap (λ b. has_wider contains r x || b) (none_in_own s f x i) ∙ or_false (has_wider contains r x)

  pub combined_in_turn : (r s : List A) → IsRule cmp contains r → IsRule cmp contains s → combined cmp contains r s ≡ all_placed cmp (left_of contains s r) (all_placed cmp (left_of contains r s) [])
  combined_in_turn r s f g =
      let t : A → Bool = λ x. not (has_wider contains (r ++ s) x) in
      let one : filter t r ≡ left_of contains r s = filter_agree_in t (λ x. not (has_wider contains s x)) r (λ x i. ap not (wider_left r s f x i)) in
      let two : filter t s ≡ left_of contains s r = filter_agree_in t (λ x. not (has_wider contains r x)) s (λ x i. ap not (wider_right r s g x i)) in
      ap (λ xs. all_placed cmp xs []) (filter-append t r s)
      ∙ all_placed-append cmp (filter t r) (filter t s) []
      ∙ (λ i. all_placed cmp (two i) (all_placed cmp (one i) []))

  -- ---- it is a rule

  pub record IsKeptOf (all : List A) (x : A) : Type 0 where
    pub there : IsIn x all
    pub outermost : has_wider contains all x ≡ false

  pub kept : (all : List A) → AllByRecursion (IsKeptOf all) (rule_of cmp contains all)
  kept all = each_all_placed cmp (IsKeptOf all) (filter (λ x. not (has_wider contains all x)) all) []
      (each_filter (IsKeptOf all) (λ x. not (has_wider contains all x)) all (λ x i e. record { there = i; outermost = not_true (has_wider contains all x) e })) tt

  -- of atoms that are kept none contains another
  apart : (all : List A) (x y : A) → IsKeptOf all x → IsKeptOf all y → cmp x y ≡ Less → contains x y ≡ false
  apart all x y k l below = unless (contains x y) (λ h. by (contains y x) refl h)
    where
      by : (b : Bool) → contains y x ≡ b → contains x y ≡ true → ⊥
      by true e h = never_itself laws order x (ap (cmp x) (laws.contains_both x y h e) ∙ below)
      by false e h = never (sym (any_from (is_wider y) x all k.there ((λ i. h i && not (e i)))) ∙ l.outermost)

  apart_back : (all : List A) (x y : A) → IsKeptOf all x → IsKeptOf all y → cmp x y ≡ Less → contains y x ≡ false
  apart_back all x y k l below = unless (contains y x) (λ h. by (contains x y) refl h)
    where
      by : (b : Bool) → contains x y ≡ b → contains y x ≡ true → ⊥
      by true e h = never_itself laws order x (ap (cmp x) (laws.contains_both x y e h) ∙ below)
      by false e h = never (sym (any_from (is_wider x) y all l.there ((λ i. h i && not (e i)))) ∙ k.outermost)

  each_both : (P Q R : A → Type 0) → ((x : A) → P x → Q x → R x) → (xs : List A) → AllByRecursion P xs → AllByRecursion Q xs → AllByRecursion R xs
  each_both P Q R f [] h g = tt
  each_both P Q R f (x ∷ xs) h g = (f x h.0 g.0, each_both P Q R f xs h.1 g.1)

  from_kept : (all xs : List A) → IsRising cmp xs → AllByRecursion (IsKeptOf all) xs → IsRule cmp contains xs
  from_kept all [] r k = tt
  from_kept all (x ∷ xs) r k = (
    each_both (λ y. cmp x y ≡ Less) (IsKeptOf all) (StandsBefore cmp contains x)
        (λ y below l. record { below = below; inside = apart all x y k.0 l below; outside = apart_back all x y k.0 l below }) xs r.0 k.1,
    from_kept all xs r.1 k.1,
  )

  pub rule_of_is_rule : (all : List A) → IsRule cmp contains (rule_of cmp contains all)
  rule_of_is_rule all = from_kept all (rule_of cmp contains all) (all_placed_rising order (filter (λ x. not (has_wider contains all x)) all) [] tt) (kept all)

  -- ---- it is the least that contains both

  in_placed : (x z : A) (xs : List A) → (z ≡ x) ⊎ IsIn z xs → IsIn z (placed cmp x xs)
  in_placed x z [] (inl e) = inl e
  in_placed x z [] (inr i) = absurd i
  in_placed x z (y ∷ ys) i = by (cmp x y) refl (in_placed x z ys) i
    where
      by : (o : Ordering) → cmp x y ≡ o → ((z ≡ x) ⊎ IsIn z ys → IsIn z (placed cmp x ys)) → (z ≡ x) ⊎ IsIn z (y ∷ ys) → IsIn z (by_order o (x ∷ y ∷ ys) (y ∷ ys) (y ∷ placed cmp x ys))
      by Less e more i = i
      by Equal e more (inl same) = inl (same ∙ exact x y e)
      by Equal e more (inr i) = i
      by Greater e more (inl same) = inr (more (inl same))
      by Greater e more (inr (inl same)) = inl same
      by Greater e more (inr (inr i)) = inr (more (inr i))

  in_all_placed : (xs done : List A) (z : A) → IsIn z xs ⊎ IsIn z done → IsIn z (all_placed cmp xs done)
  in_all_placed [] done z (inl i) = absurd i
  in_all_placed [] done z (inr i) = i
  in_all_placed (x ∷ xs) done z (inl (inl e)) = in_all_placed xs (placed cmp x done) z (inr (in_placed x z done (inl e)))
  in_all_placed (x ∷ xs) done z (inl (inr i)) = in_all_placed xs (placed cmp x done) z (inl i)
  in_all_placed (x ∷ xs) done z (inr i) = in_all_placed xs (placed cmp x done) z (inr (in_placed x z done (inr i)))

  pub in_rule_of : (all : List A) (z : A) → IsIn z all → has_wider contains all z ≡ false → IsIn z (rule_of cmp contains all)
  in_rule_of all z i h = in_all_placed (filter (λ x. not (has_wider contains all x)) all) [] z (inl (in_filter (λ x. not (has_wider contains all x)) z all i (ap not h)))

  -- what is wider than an atom of one rule is outermost among the other's and these
  no_wider_yet : (r : List A) → IsRule cmp contains r → (x y : A) → IsIn x r → is_wider x y ≡ true → has_wider contains r y ≡ false
  no_wider_yet r f x y i w = unless (has_wider contains r y) (λ h.
      let z = any_at (is_wider y) r h in
      let one = both (contains y x) (not (contains x y)) w in
      let two = both (contains z.0 y) (not (contains y z.0)) z.2 in
      let same : z.0 ≡ x = one_of_rule laws order r f z.0 x z.1 i (laws.contains_through z.0 y x two.0 one.0) in
      never (sym one.0 ∙ ap (contains y) (sym same) ∙ not_true (contains y z.0) two.1))

  covered_left : (r s : List A) → IsRule cmp contains r → IsRule cmp contains s → (x : A) → IsIn x r → covers contains (combined cmp contains r s) x ≡ true
  covered_left r s f g x i = by (has_wider contains s x) refl
    where
      by : (b : Bool) → has_wider contains s x ≡ b → covers contains (combined cmp contains r s) x ≡ true
      by false e = any_from (λ outer. contains outer x) x (combined cmp contains r s) (in_rule_of (r ++ s) x (in_left x r s i) (wider_left r s f x i ∙ e)) (laws.contains_itself x)
      by true e =
          let y = any_at (is_wider x) s e in
          let parts = both (contains y.0 x) (not (contains x y.0)) y.2 in
          any_from (λ outer. contains outer x) y.0 (combined cmp contains r s)
          (in_rule_of (r ++ s) y.0 (in_right y.0 r s y.1) (wider_right r s g y.0 y.1 ∙ no_wider_yet r f x y.0 i y.2)) parts.0

  covered_right : (r s : List A) → IsRule cmp contains r → IsRule cmp contains s → (x : A) → IsIn x s → covers contains (combined cmp contains r s) x ≡ true
  covered_right r s f g x i = by (has_wider contains r x) refl
    where
      by : (b : Bool) → has_wider contains r x ≡ b → covers contains (combined cmp contains r s) x ≡ true
      by false e = any_from (λ outer. contains outer x) x (combined cmp contains r s) (in_rule_of (r ++ s) x (in_right x r s i) (wider_right r s g x i ∙ e)) (laws.contains_itself x)
      by true e =
          let y = any_at (is_wider x) r e in
          let parts = both (contains y.0 x) (not (contains x y.0)) y.2 in
          any_from (λ outer. contains outer x) y.0 (combined cmp contains r s)
          (in_rule_of (r ++ s) y.0 (in_left y.0 r s y.1) (wider_left r s f y.0 y.1 ∙ no_wider_yet s g x y.0 i y.2)) parts.0

  pub combined_contains_left : (r s : List A) → IsRule cmp contains r → IsRule cmp contains s → rule_contains contains (combined cmp contains r s) r ≡ true
  combined_contains_left r s f g = all_from (covers contains (combined cmp contains r s)) r (covered_left r s f g)

  pub combined_contains_right : (r s : List A) → IsRule cmp contains r → IsRule cmp contains s → rule_contains contains (combined cmp contains r s) s ≡ true
  combined_contains_right r s f g = all_from (covers contains (combined cmp contains r s)) s (covered_right r s f g)

  pub combined_least : (r s wide : List A) → rule_contains contains wide r ≡ true → rule_contains contains wide s ≡ true → rule_contains contains wide (combined cmp contains r s) ≡ true
  combined_least r s wide h g = all_from (covers contains wide) (combined cmp contains r s) (λ z i.
      let k = each_at (IsKeptOf (r ++ s)) z (combined cmp contains r s) (kept (r ++ s)) i in
      in_both (λ x. covers contains wide x ≡ true) r s (λ x j. all_at (covers contains wide) x r h j) (λ x j. all_at (covers contains wide) x s g j) z k.there)
