-- What each change of the table leaves apart.
use Rattle.std.proofs.Common.{◌≡◌, ℕ, Bool, true, false, cond, not, ◌&&◌, ◌||◌, ◌==◌, List, [], ◌∷◌, ◌++◌, Option, Some, None, refl, sym, ap, ◌∙◌, inl, inr, arith}
use Rattle.std.proofs.lemmas.Bool.Decides.{nat_tests}
use Rattle.std.specs.Option.{option_map}
use Rattle.std.specs.List.{AllByRecursion, list_any, filter}
use Rattle.res_path.proofs.Spelled.{both}
use Rattle.sched_rules.specs.Laws.{IsLawful}
use Rattle.sched_rules.specs.Rules.{Pairwise, rule_contains, rule_conflicts}
use Rattle.sched_rules.proofs.Members.{IsIn, each_at}
use Rattle.sched_rules.proofs.RuleLaws.{rule_contains_through, rule_conflicts_back, wider_rule_conflicts}
use Rattle.rule_table.specs.declared.held.Held.{Held}
use Rattle.rule_table.specs.Tables.{is_null, or_before, newest, is_of, is_outer, is_free, last_rule, admits, admits_under, without_last, handed, moved, fits, IsApart}

-- ---- lists whose elements are related two by two

pub pairs_push : {T : Type 0} (R : T → T → Type 0) (xs : List T) (x : T) → Pairwise R xs → AllByRecursion (λ y. R y x) xs → Pairwise R (xs ++ x ∷ [])
pairs_push R [] x h g = (tt, tt)
pairs_push {T} R (y ∷ ys) x h g = (each_push ys h.0, pairs_push R ys x h.1 g.1)
  where
    each_push : (zs : List T) → AllByRecursion (R y) zs → AllByRecursion (R y) (zs ++ x ∷ [])
    each_push zs k = pushed zs k
      where
        pushed : (zs : List T) → AllByRecursion (R y) zs → AllByRecursion (R y) (zs ++ x ∷ [])
        pushed [] k = (g.0, tt)
        pushed (z ∷ zs) k = (k.0, pushed zs k.1)

each_filter : {T : Type 0} (P : T → Type 0) (p : T → Bool) (xs : List T) → AllByRecursion P xs → AllByRecursion P (filter p xs)
each_filter P p [] h = tt
each_filter {T} P p (x ∷ xs) h = by (p x) (each_filter P p xs h.1)
  where
    by : (b : Bool) → AllByRecursion P (filter p xs) → AllByRecursion P (cond b (x ∷ filter p xs) (filter p xs))
    by true more = (h.0, more)
    by false more = more

pub pairs_filter : {T : Type 0} (R : T → T → Type 0) (p : T → Bool) (xs : List T) → Pairwise R xs → Pairwise R (filter p xs)
pairs_filter R p [] h = tt
pairs_filter {T} R p (x ∷ xs) h = by (p x) (pairs_filter R p xs h.1)
  where
    by : (b : Bool) → Pairwise R (filter p xs) → Pairwise R (cond b (x ∷ filter p xs) (filter p xs))
    by true more = (each_filter (R x) p xs h.0, more)
    by false more = more

each_without_last : {A : Type 0} (P : Held A → Type 0) (k : ℕ) (xs : List (Held A)) → AllByRecursion P xs → AllByRecursion P (without_last k xs)
each_without_last P k [] h = tt
each_without_last {A} P k (x ∷ xs) h = by (is_of k x && not (list_any (is_of k) xs)) (each_without_last P k xs h.1)
  where
    by : (b : Bool) → AllByRecursion P (without_last k xs) → AllByRecursion P (cond b xs (x ∷ without_last k xs))
    by true more = h.1
    by false more = (h.0, more)

pub pairs_without_last : {A : Type 0} (R : Held A → Held A → Type 0) (k : ℕ) (xs : List (Held A)) → Pairwise R xs → Pairwise R (without_last k xs)
pairs_without_last R k [] h = tt
pairs_without_last {A} R k (x ∷ xs) h = by (is_of k x && not (list_any (is_of k) xs)) (pairs_without_last R k xs h.1)
  where
    by : (b : Bool) → Pairwise R (without_last k xs) → Pairwise R (cond b xs (x ∷ without_last k xs))
    by true more = h.1
    by false more = (each_without_last (R x) k xs h.0, more)

-- ---- the last that passes

not_there : {T : Type 0} (x : T) → None ≡ Some x → ⊥
not_there x h = cc

nothing_before : {T : Type 0} (p : T → Bool) (x : T) (o : Option T) → or_before p x o ≡ None → (o ≡ None) × (p x ≡ false)
nothing_before p x (Some y) h = absurd (not_there y (sym h))
nothing_before {T} p x None h = (refl, by (p x) h)
  where
    by : (b : Bool) → cond b (Some x) None ≡ None → b ≡ false
    by true h = absurd (not_there x (sym h))
    by false h = refl

pub none_passes : {T : Type 0} (p : T → Bool) (xs : List T) → newest p xs ≡ None → AllByRecursion (λ x. p x ≡ false) xs
none_passes p [] h = tt
none_passes p (x ∷ xs) h = let parts = nothing_before p x (newest p xs) h in (parts.1, none_passes p xs parts.0)

inside_some : {T : Type 0} (x y : T) → Some x ≡ Some y → x ≡ y
inside_some x y h = cc

pub newest_in : {T : Type 0} (p : T → Bool) (xs : List T) (g : T) → newest p xs ≡ Some g → IsIn g xs × (p g ≡ true)
newest_in p [] g h = absurd (not_there g h)
newest_in {T} p (x ∷ xs) g h = by (newest p xs) refl (newest_in p xs g)
  where
    here : (b : Bool) → p x ≡ b → cond b (Some x) None ≡ Some g → IsIn g (x ∷ xs) × (p g ≡ true)
    here true e k = let same = inside_some x g k in (inl (sym same), ap p (sym same) ∙ e)
    here false e k = absurd (not_there g k)

    by : (o : Option T) → newest p xs ≡ o → (newest p xs ≡ Some g → IsIn g xs × (p g ≡ true)) → IsIn g (x ∷ xs) × (p g ≡ true)
    by (Some y) e more =
        let found = more (e ∙ sym (ap (or_before p x) e) ∙ h) in
        (inr found.0, found.1)
    by None e more = here (p x) refl (sym (ap (or_before p x) e) ∙ h)

-- ---- a rule that is handed over

handed_rule : {A : Type 0} (from to : ℕ) (held : Held A) → (handed from to held).rule ≡ held.rule
handed_rule {A} from to held = by (held.holder == from)
  where
    by : (b : Bool) → (cond b (record held { holder = to }) held).rule ≡ held.rule
    by true = refl
    by false = refl

handed_holder : {A : Type 0} (from to : ℕ) (held : Held A) → (handed from to held).holder ≡ cond (held.holder == from) to held.holder
handed_holder {A} from to held = by (held.holder == from)
  where
    by : (b : Bool) → (cond b (record held { holder = to }) held).holder ≡ cond b to held.holder
    by true = refl
    by false = refl

same_holder : (x y from to : ℕ) → (x == to) ≡ false → (y == to) ≡ false → (cond (x == from) to x == cond (y == from) to y) ≡ (x == y)
same_holder x y from to h g = grind (arith, nat_tests)

handed_fits : {A : Type 0} (contains conflicts : A → A → Bool) (from to : ℕ) (a b : Held A) → is_of to a ≡ false → is_of to b ≡ false → fits contains conflicts (handed from to a) (handed from to b) ≡ fits contains conflicts a b
handed_fits contains conflicts from to a b h g =
    let holders = (λ i. handed_holder from to a i == handed_holder from to b i) ∙ same_holder a.holder b.holder from to h g in
    λ i. cond (holders i) (is_null (handed_rule from to a i) || rule_contains contains (handed_rule from to a i) (handed_rule from to b i)) (not (rule_conflicts conflicts (handed_rule from to a i) (handed_rule from to b i)))

pub apart_moved : {A : Type 0} (contains conflicts : A → A → Bool) (from to : ℕ) (xs : List (Held A)) → AllByRecursion (λ x. is_of to x ≡ false) xs → IsApart contains conflicts xs → IsApart contains conflicts (moved from to xs)
apart_moved contains conflicts from to [] n h = tt
apart_moved {A} contains conflicts from to (x ∷ xs) n h = (each xs n.1 h.0, apart_moved contains conflicts from to xs n.1 h.1)
  where
    each : (ys : List (Held A)) → AllByRecursion (λ y. is_of to y ≡ false) ys → AllByRecursion (λ y. fits contains conflicts x y ≡ true) ys → AllByRecursion (λ y. fits contains conflicts (handed from to x) y ≡ true) (moved from to ys)
    each ys m k = step ys m k
      where
        step : (ys : List (Held A)) → AllByRecursion (λ y. is_of to y ≡ false) ys → AllByRecursion (λ y. fits contains conflicts x y ≡ true) ys → AllByRecursion (λ y. fits contains conflicts (handed from to x) y ≡ true) (moved from to ys)
        step [] m k = tt
        step (y ∷ ys) m k = (handed_fits contains conflicts from to x y n.0 m.0 ∙ k.0, step ys m.1 k.1)

-- ---- a rule that is begun

module _ {A : Type 0} {contains conflicts : A → A → Bool} (laws : IsLawful contains conflicts) where
  not_false : (b : Bool) → not b ≡ true → b ≡ false
  not_false true h = cc
  not_false false h = refl

  never : true ≡ false → ⊥
  never h = cc

  unless : (b : Bool) → (b ≡ true → ⊥) → not b ≡ true
  unless true h = absurd (h refl)
  unless false h = refl

  -- a holder without a non-null rule begins one that is free
  pub fits_alone : (k : ℕ) (r : List A) (xs : List (Held A)) → newest (is_outer k) xs ≡ None → is_free conflicts xs r ≡ true → AllByRecursion (λ x. fits contains conflicts x (record { holder = k; rule = r }) ≡ true) xs
  fits_alone k r [] n f = tt
  fits_alone k r (x ∷ xs) n f =
      let parts = nothing_before (is_outer k) x (newest (is_outer k) xs) n in
      let c = rule_conflicts conflicts x.rule r in
      let rest = list_any (λ held. rule_conflicts conflicts held.rule r) xs in
      let clear = neither c rest f in
      (here (x.holder == k) (is_null x.rule) parts.1 clear.0, fits_alone k r xs parts.0 clear.1)
    where
      neither : (a b : Bool) → not (a || b) ≡ true → (not a ≡ true) × (not b ≡ true)
      neither true b h = cc
      neither false b h = (refl, h)

      here : (s z : Bool) → (s && not z) ≡ false → not (rule_conflicts conflicts x.rule r) ≡ true → cond s (z || rule_contains contains x.rule r) (not (rule_conflicts conflicts x.rule r)) ≡ true
      here true true h g = refl
      here true false h g = cc
      here false z h g = g

  fits_through : (k : ℕ) (r : List A) (x g : Held A) → g.holder ≡ k → rule_contains contains g.rule r ≡ true → fits contains conflicts x g ≡ true → fits contains conflicts x (record { holder = k; rule = r }) ≡ true
  fits_through k r x g e h f = by (x.holder == k) (is_null x.rule) (ap (λ m. cond (x.holder == m) (is_null x.rule || rule_contains contains x.rule g.rule) (not (rule_conflicts conflicts x.rule g.rule))) (sym e) ∙ f)
    where
      by : (s z : Bool) → cond s (z || rule_contains contains x.rule g.rule) (not (rule_conflicts conflicts x.rule g.rule)) ≡ true → cond s (z || rule_contains contains x.rule r) (not (rule_conflicts conflicts x.rule r)) ≡ true
      by true true f = refl
      by true false f = rule_contains_through laws x.rule g.rule r f h
      by false z f = unless (rule_conflicts conflicts x.rule r) (λ c.
          let wider = wider_rule_conflicts laws g.rule r x.rule h (sym (rule_conflicts_back laws x.rule r) ∙ c) in
          never (sym (rule_conflicts_back laws x.rule g.rule ∙ wider) ∙ not_false (rule_conflicts conflicts x.rule g.rule) f))

  fits_after : (k : ℕ) (r : List A) (g x : Held A) → g.holder ≡ k → rule_contains contains g.rule r ≡ true → is_outer k x ≡ false → fits contains conflicts g x ≡ true → fits contains conflicts x (record { holder = k; rule = r }) ≡ true
  fits_after k r g x e h n f =
      let turned : (g.holder == x.holder) ≡ (x.holder == k) = grind (arith, nat_tests) in
      by (x.holder == k) (is_null x.rule) n ((λ i. cond (sym turned i) (is_null g.rule || rule_contains contains g.rule x.rule) (not (rule_conflicts conflicts g.rule x.rule))) ∙ f)
    where
      by : (s z : Bool) → (s && not z) ≡ false → cond s (is_null g.rule || rule_contains contains g.rule x.rule) (not (rule_conflicts conflicts g.rule x.rule)) ≡ true → cond s (z || rule_contains contains x.rule r) (not (rule_conflicts conflicts x.rule r)) ≡ true
      by true true n f = refl
      by true false n f = cc
      by false z n f = unless (rule_conflicts conflicts x.rule r) (λ c.
          let wider = wider_rule_conflicts laws g.rule r x.rule h (sym (rule_conflicts_back laws x.rule r) ∙ c) in
          never (sym wider ∙ not_false (rule_conflicts conflicts g.rule x.rule) f))

  each_after : (k : ℕ) (r : List A) (g : Held A) → g.holder ≡ k → rule_contains contains g.rule r ≡ true → (xs : List (Held A)) → AllByRecursion (λ x. is_outer k x ≡ false) xs → AllByRecursion (λ x. fits contains conflicts g x ≡ true) xs → AllByRecursion (λ x. fits contains conflicts x (record { holder = k; rule = r }) ≡ true) xs
  each_after k r g e h [] n f = tt
  each_after k r g e h (x ∷ xs) n f = (fits_after k r g x e h n.0 f.0, each_after k r g e h xs n.1 f.1)

  holder_is : (k : ℕ) (g : Held A) → is_outer k g ≡ true → g.holder ≡ k
  holder_is k g h = let parts = both (g.holder == k) (not (is_null g.rule)) h in grind (arith, nat_tests)

  fits_itself : (k : ℕ) (r : List A) (g : Held A) → g.holder ≡ k → rule_contains contains g.rule r ≡ true → fits contains conflicts g (record { holder = k; rule = r }) ≡ true
  fits_itself k r g e h =
      let same : (g.holder == k) ≡ true = grind (arith, nat_tests) in
      (λ i. cond (same i) (is_null g.rule || rule_contains contains g.rule r) (not (rule_conflicts conflicts g.rule r))) ∙ by (is_null g.rule)
    where
      by : (z : Bool) → (z || rule_contains contains g.rule r) ≡ true
      by true = refl
      by false = h

  -- a holder begins one within its topmost rule that isn't null
  pub fits_within : (k : ℕ) (r : List A) (xs : List (Held A)) (g : Held A) → IsApart contains conflicts xs → newest (is_outer k) xs ≡ Some g → rule_contains contains g.rule r ≡ true → AllByRecursion (λ x. fits contains conflicts x (record { holder = k; rule = r }) ≡ true) xs
  fits_within k r [] g f n h = absurd (not_there g n)
  fits_within k r (x ∷ xs) g f n h = by (newest (is_outer k) xs) refl (fits_within k r xs g f.1)
    where
      here : (b : Bool) → is_outer k x ≡ b → cond b (Some x) None ≡ Some g → newest (is_outer k) xs ≡ None → AllByRecursion (λ x. fits contains conflicts x (record { holder = k; rule = r }) ≡ true) (x ∷ xs)
      here true e s none =
          let same = inside_some x g s in
          let inner : rule_contains contains x.rule r ≡ true = (λ i. rule_contains contains ((same i).rule) r) ∙ h in
          let holder = holder_is k x e in
          (fits_itself k r x holder inner, each_after k r x holder inner xs (none_passes (is_outer k) xs none) f.0)
      here false e s none = absurd (not_there g s)

      by : (o : Option (Held A)) → newest (is_outer k) xs ≡ o → (newest (is_outer k) xs ≡ Some g → rule_contains contains g.rule r ≡ true → AllByRecursion (λ x. fits contains conflicts x (record { holder = k; rule = r }) ≡ true) xs) → AllByRecursion (λ x. fits contains conflicts x (record { holder = k; rule = r }) ≡ true) (x ∷ xs)
      by (Some y) e more =
          let found : newest (is_outer k) xs ≡ Some g = e ∙ sym (ap (or_before (is_outer k) x) e) ∙ n in
          let g_in = newest_in (is_outer k) xs g found in
          (fits_through k r x g (holder_is k g g_in.1) h (each_at (λ y. fits contains conflicts x y ≡ true) g xs f.0 g_in.0), more found h)
      by None e more = here (is_outer k x) refl (sym (ap (or_before (is_outer k) x) e) ∙ n) e

  pub begun_apart : (k : ℕ) (r : List A) (xs : List (Held A)) → IsApart contains conflicts xs → admits contains conflicts xs k r ≡ true → IsApart contains conflicts (xs ++ record { holder = k; rule = r } ∷ [])
  begun_apart k r xs f h = by (newest (is_outer k) xs) refl h
    where
      by : (o : Option (Held A)) → newest (is_outer k) xs ≡ o → admits_under contains conflicts xs r (option_map (λ held. held.rule) o) ≡ true → IsApart contains conflicts (xs ++ record { holder = k; rule = r } ∷ [])
      by None e h = pairs_push (λ earlier later. fits contains conflicts earlier later ≡ true) xs (record { holder = k; rule = r }) f (fits_alone k r xs e h)
      by (Some g) e h = pairs_push (λ earlier later. fits contains conflicts earlier later ≡ true) xs (record { holder = k; rule = r }) f (fits_within k r xs g f e h)

-- a holder without a last rule has none
pub none_of : {A : Type 0} (k : ℕ) (xs : List (Held A)) → last_rule k xs ≡ None → AllByRecursion (λ x. is_of k x ≡ false) xs
none_of {A} k xs h = by (newest (is_of k) xs) refl h
  where
    by : (o : Option (Held A)) → newest (is_of k) xs ≡ o → option_map (λ held. held.rule) o ≡ None → AllByRecursion (λ x. is_of k x ≡ false) xs
    by None e h = none_passes (is_of k) xs e
    by (Some g) e h = absurd (not_there g.rule (sym h))
