-- The laws of rules, from those of their atoms.
use Rattle.std.proofs.Common.{◌≡◌, ◌≢◌, Bool, true, false, List, [], ◌∷◌, refl, sym, ap, ◌∙◌, inl, inr, subst}
use Rattle.std.specs.declared.cmp.Ordering.{Ordering}
use Rattle.std.specs.declared.cmp.Ordering.TheVariants.{Less, Equal}
use Rattle.std.specs.Ordering.{eq_by_cmp}
use Rattle.std.specs.Bool.{Decides}
use Rattle.std.specs.FinMap.{IsAntisymmetric}
use Rattle.std.specs.Cmp.Lexicographic.{pointwise, pointwise_decides}
use Rattle.std.specs.Cmp.{IsTotalOrder, both_ways, Equal-is}
use Rattle.std.proofs.lemmas.Cmp.{tied_itself}
use Rattle.sched_rules.specs.Laws.{IsLawful}
use Rattle.sched_rules.specs.Rules.{StandsBefore, IsRule, covers, meets, rule_contains, rule_conflicts}
use Rattle.sched_rules.proofs.Members.{IsIn, any_from, any_at, all_from, all_at, each_at}

-- the comparison of rules tells just the equal ones
pub same_rules : {A : Type 0} {E : A → A → Bool} {cmp : A → A → Ordering} → IsAntisymmetric cmp → IsTotalOrder cmp → ((x y : A) → E x y ≡ eq_by_cmp cmp x y) → (r s : List A) → Decides (pointwise E r s) (r ≡ s)
same_rules {A} {E} {cmp} exact order ties r s = pointwise_decides each r s
  where
    each : (x y : A) → Decides (E x y) (x ≡ y)
    each x y = (λ h. exact x y ((Equal-is (cmp x y)).0 (sym (ties x y) ∙ h)), λ e. ties x y ∙ (Equal-is (cmp x y)).1 (ap (λ z. cmp z y) e ∙ tied_itself order y))

module _ {A : Type 0} {contains conflicts : A → A → Bool} (laws : IsLawful contains conflicts) where
  pub rule_contains_itself : (r : List A) → rule_contains contains r r ≡ true
  rule_contains_itself r = all_from (covers contains r) r (λ x i. any_from (λ outer. contains outer x) x r i (laws.contains_itself x))

  pub rule_contains_through : (r s t : List A) → rule_contains contains r s ≡ true → rule_contains contains s t ≡ true → rule_contains contains r t ≡ true
  rule_contains_through r s t h g = all_from (covers contains r) t (λ x i.
      let y = any_at (λ outer. contains outer x) s (all_at (covers contains s) x t g i) in
      let z = any_at (λ outer. contains outer y.0) r (all_at (covers contains r) y.0 s h y.1) in
      any_from (λ outer. contains outer x) z.0 r z.1 (laws.contains_through z.0 y.0 x z.2 y.2))

  one_way : (r s : List A) → rule_conflicts conflicts r s ≡ true → rule_conflicts conflicts s r ≡ true
  one_way r s h =
      let y = any_at (meets conflicts r) s h in
      let x = any_at (λ one. conflicts one y.0) r y.2 in
      any_from (meets conflicts s) x.0 r x.1 (any_from (λ one. conflicts one x.0) y.0 s y.1 (laws.conflicts_back y.0 x.0 ∙ x.2))

  pub rule_conflicts_back : (r s : List A) → rule_conflicts conflicts r s ≡ rule_conflicts conflicts s r
  rule_conflicts_back r s = both_ways (rule_conflicts conflicts r s) (rule_conflicts conflicts s r) (one_way r s) (one_way s r)

  pub rule_contained_conflicts : (r s : List A) → rule_contains contains r s ≡ true → s ≢ [] → rule_conflicts conflicts r s ≡ true
  rule_contained_conflicts r [] h n = absurd (n refl)
  rule_contained_conflicts r (x ∷ s) h n =
      let y = any_at (λ outer. contains outer x) r (all_at (covers contains r) x (x ∷ s) h (inl refl)) in
      any_from (meets conflicts r) x (x ∷ s) (inl refl) (any_from (λ one. conflicts one x) y.0 r y.1 (laws.contained_conflicts y.0 x y.2))

  pub rule_conflicts_itself : (r : List A) → r ≢ [] → rule_conflicts conflicts r r ≡ true
  rule_conflicts_itself r n = rule_contained_conflicts r r (rule_contains_itself r) n

  pub wider_rule_conflicts : (r s t : List A) → rule_contains contains r s ≡ true → rule_conflicts conflicts s t ≡ true → rule_conflicts conflicts r t ≡ true
  wider_rule_conflicts r s t h g =
      let x = any_at (meets conflicts s) t g in
      let y = any_at (λ one. conflicts one x.0) s x.2 in
      let z = any_at (λ outer. contains outer y.0) r (all_at (covers contains r) y.0 s h y.1) in
      any_from (meets conflicts r) x.0 t x.1 (any_from (λ one. conflicts one x.0) z.0 r z.1 (laws.wider_conflicts z.0 y.0 x.0 z.2 y.2))

  -- ---- two rules that contain one another

  module _ {cmp : A → A → Ordering} (order : IsTotalOrder cmp) where
    pub never_itself : (x : A) → cmp x x ≡ Less → ⊥
    never_itself x h = apart (sym (tied_itself order x) ∙ h)
      where
        apart : Equal ≡ Less → ⊥
        apart e = cc

    never_back : (x y : A) → cmp x y ≡ Less → cmp y x ≡ Less → ⊥
    never_back x y h g = never_itself x (order.trans x y x h g)

    -- atoms of a rule of which one contains the other are one
    pub one_of_rule : (r : List A) → IsRule cmp contains r → (x y : A) → IsIn x r → IsIn y r → contains x y ≡ true → x ≡ y
    one_of_rule [] f x y i j h = absurd i
    one_of_rule (a ∷ r) f x y (inl e) (inl g) h = e ∙ sym g
    one_of_rule (a ∷ r) f x y (inl e) (inr j) h =
        let stands = each_at (StandsBefore cmp contains a) y r f.0 j in
        absurd (apart (sym h ∙ ap (λ z. contains z y) e ∙ stands.inside))
      where
        apart : true ≡ false → ⊥
        apart e = cc
    one_of_rule (a ∷ r) f x y (inr i) (inl e) h =
        let stands = each_at (StandsBefore cmp contains a) x r f.0 i in
        absurd (apart (sym h ∙ ap (contains x) e ∙ stands.outside))
      where
        apart : true ≡ false → ⊥
        apart e = cc
    one_of_rule (a ∷ r) f x y (inr i) (inr j) h = one_of_rule r f.1 x y i j h

    heads : (x y : A) (r s : List A) → IsRule cmp contains (x ∷ r) → IsRule cmp contains (y ∷ s) → IsIn x (y ∷ s) → IsIn y (x ∷ r) → x ≡ y
    heads x y r s f g (inl e) j = e
    heads x y r s f g (inr i) (inl e) = sym e
    heads x y r s f g (inr i) (inr j) =
        let one = each_at (StandsBefore cmp contains y) x s g.0 i in
        let two = each_at (StandsBefore cmp contains x) y r f.0 j in
        absurd (never_back x y two.below one.below)

    past : (x y : A) (r s : List A) → IsRule cmp contains (x ∷ r) → x ≡ y → (z : A) → IsIn z r → IsIn z (y ∷ s) → IsIn z s
    past x y r s f first z i (inl e) =
        let stands = each_at (StandsBefore cmp contains x) z r f.0 i in
        absurd (never_itself x (ap (cmp x) (first ∙ sym e) ∙ stands.below))
    past x y r s f first z i (inr j) = j

    -- rising lists with the same elements are one
    pub same_rising : (r s : List A) → IsRule cmp contains r → IsRule cmp contains s → ((x : A) → IsIn x r → IsIn x s) → ((x : A) → IsIn x s → IsIn x r) → r ≡ s
    same_rising [] [] f g h k = refl
    same_rising [] (y ∷ s) f g h k = absurd (k y (inl refl))
    same_rising (x ∷ r) [] f g h k = absurd (h x (inl refl))
    same_rising (x ∷ r) (y ∷ s) f g h k =
        let first : x ≡ y = heads x y r s f g (h x (inl refl)) (k y (inl refl)) in
        let rest = same_rising r s f.1 g.1 (λ z i. past x y r s f first z i (h z (inr i))) (λ z i. past y x s r g (sym first) z i (k z (inr i))) in
        λ i. first i ∷ rest i

    inside : (r s : List A) → IsRule cmp contains r → rule_contains contains r s ≡ true → rule_contains contains s r ≡ true → (x : A) → IsIn x r → IsIn x s
    inside r s f h g x i =
        let y = any_at (λ outer. contains outer x) s (all_at (covers contains s) x r g i) in
        let z = any_at (λ outer. contains outer y.0) r (all_at (covers contains r) y.0 s h y.1) in
        let same : z.0 ≡ x = one_of_rule r f z.0 x z.1 i (laws.contains_through z.0 y.0 x z.2 y.2) in
        let back : contains x y.0 ≡ true = ap (λ w. contains w y.0) (sym same) ∙ z.2 in
        subst (λ w. IsIn w s) (laws.contains_both y.0 x y.2 back) y.1

    pub rule_contains_both : (r s : List A) → IsRule cmp contains r → IsRule cmp contains s → rule_contains contains r s ≡ true → rule_contains contains s r ≡ true → r ≡ s
    rule_contains_both r s f g h k = same_rising r s f g (inside r s f h k) (inside s r g k h)
