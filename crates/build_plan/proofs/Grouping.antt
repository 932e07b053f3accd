-- The computed order is the order.
use Rattle.std.proofs.Common.{◌≡◌, inl, inr, ℕ, zero, suc, ◌<◌, ◌≤◌, Bool, true, false, cond, not, ◌&&◌, List, [], ◌∷◌, ◌++◌, length, Option, Some, None, refl, sym, ap, ◌∙◌, subst, arith}
use Rattle.std.specs.List.{AllPairs, AllByRecursion, Contains, filter, find, flat_map}
use Rattle.std.specs.Option.{option_map_or}
use Rattle.std.proofs.lemmas.Bool.{cases_Bool, and_from, and_parts, not_from_true, not_from_false, not-true, false_from_ne_true}
use Rattle.std.proofs.lemmas.List.{length-map}
use Rattle.std.proofs.lemmas.List.Elements.{filter-append, Contains-append_left, Contains-append_right, Contains-append_cases}
use Rattle.std.proofs.lemmas.List.Kept.{AllPairs-filter}
use Rattle.res_path.specs.Paths.{Names}
use Rattle.build_order.specs.Orders.{Projects, IsBefore, IsProject, Refers, IsWay, AreMutual, IsReady, IsNext, InOrder, IsOrder, is_knot}
use Rattle.build_order.proofs.Members.{none, cons_cases, at_front, behind}
use Rattle.build_plan.specs.Ordered.{names_of, is_among, leads_to, component, is_ready, groups_after, ordered}
use Rattle.build_plan.proofs.Listed.{IsFirst, found, found_none, all_at, filter_has, has_filter, filter_none, filter_most, filter_fewer, is_one, one_is}
use Rattle.build_plan.proofs.Leading.{leads_true, true_leads}
use Rattle.build_plan.proofs.Choosing.{IsClosed, leads_closed, mutual_on, mutual_back, mutual_here, ready_true, true_ready, some_ready}

-- what stands behind a name in order comes after it
after_front : (front : Names) (x : List ℕ) (back : Names) (n : List ℕ) → AllPairs IsBefore (front ++ x ∷ back) → Contains back n → IsBefore x n
after_front [] x back n rising i = subst (IsBefore x) i.2 (rising 0 (suc i.0) n (omega arith) (omega (arith, i.1)))
after_front (y ∷ front) x back n rising i = after_front front x back n (λ i j d lt le. rising (suc i) (suc j) d (omega (arith, lt)) (omega (arith, le))) i

module _ (ps : Projects) where
  abbrev together : List ℕ → List ℕ → Bool
  together n m = leads_to ps n m && leads_to ps m n

  together_true : (n m : List ℕ) → together n m ≡ true → AreMutual ps n m
  together_true n m h = let parts = and_parts (leads_to ps n m) (leads_to ps m n) h in (leads_true ps n m parts.0, leads_true ps m n parts.1)

  true_together : (n m : List ℕ) → AreMutual ps n m → together n m ≡ true
  true_together n m h = and_from (leads_to ps n m) (leads_to ps m n) (true_leads ps n m h.0) (true_leads ps m n h.1)

  way_project : (ms : Names) (a m : List ℕ) → IsProject ps a → IsWay (Refers ps) a ms m → IsProject ps m
  way_project [] a m here w = subst (IsProject ps) w here
  way_project (k ∷ ms) a m here w = way_project ms k m w.0.project w.1

  in_component : (n m : List ℕ) → IsProject ps n → AreMutual ps n m → Contains (component ps n) m
  in_component n m here h = filter_has (together n) (names_of ps) m (way_project h.0.0 n m here h.0.1) (true_together n m h)

  of_component : (n m : List ℕ) → Contains (component ps n) m → IsProject ps m × AreMutual ps n m
  of_component n m i = let r = has_filter (together n) (names_of ps) m i in (r.0, together_true n m r.1)

  -- all of the component of one that is ready are
  ready_on : (placed : Names) (n m : List ℕ) → IsClosed ps placed → IsReady ps placed n → IsProject ps m → AreMutual ps n m → IsReady ps placed m
  ready_on placed n m closed ready here h = record {
    project = here;
    waits = λ i. ready.waits (leads_closed ps placed m n closed i h.1);
    free = λ k p g refers. elim (ready.free k p (mutual_on ps n m k h g) refers) [
      | inl is_placed ↦ inl is_placed
      | inr on ↦ inr (mutual_on ps m n p (mutual_back ps n m h) on)
    ];
  }

  closed_more : (placed : Names) (n : List ℕ) → IsClosed ps placed → IsReady ps placed n → IsClosed ps (placed ++ component ps n)
  closed_more placed n closed ready a b i refers = elim (Contains-append_cases placed (component ps n) a i) [
    | inl old ↦ Contains-append_left placed (component ps n) b (closed a b old refers)
    | inr new ↦ elim (ready.free a b (of_component n a new).1 refers) [
      | inl is_placed ↦ Contains-append_left placed (component ps n) b is_placed
      | inr on ↦ Contains-append_right placed (component ps n) b (in_component n b ready.project on)
    ]
  ]

  -- ---- the first that is ready

  module _ (placed : Names) (n : List ℕ) (rising : AllPairs IsBefore (names_of ps)) (closed : IsClosed ps placed) (at : IsFirst (is_ready ps placed) (names_of ps) n) where
    here : IsProject ps n
    here = subst (λ ns. Contains ns n) (sym at.is) (Contains-append_right at.front (n ∷ at.back) n (at_front n at.back))

    pub ready : IsReady ps placed n
    ready = ready_true ps placed n here at.passes

    not_before_it : (m : List ℕ) → Contains at.front m → IsReady ps placed m → ⊥
    not_before_it m i other = let no : true ≡ false = sym (true_ready ps placed m closed other) ∙ all_at (λ y. is_ready ps placed y ≡ false) at.front m at.before i in cc

    apart_before : (front : Names) → ((m : List ℕ) → Contains front m → Contains at.front m) → AllByRecursion (λ m. together n m ≡ false) front
    apart_before [] on = tt
    apart_before (m ∷ front) on = (
      false_from_ne_true (together n m) (λ h.
          let i = on m (at_front m front) in
          not_before_it m i (ready_on placed n m closed ready (subst (λ ns. Contains ns m) (sym at.is) (Contains-append_left at.front (n ∷ at.back) m i)) (together_true n m h))),
      apart_before front (λ k i. on k (behind m front k i)),
    )

    others : Names
    others = filter (together n) at.back

    component_is : component ps n ≡ n ∷ others
    unfolding others
    component_is =
        ap (filter (together n)) at.is ∙ filter-append (together n) at.front (n ∷ at.back)
        ∙ ap (λ ns. ns ++ filter (together n) (n ∷ at.back)) (filter_none (together n) at.front (apart_before at.front (λ m i. i)))
        ∙ ap (λ b. cond b (n ∷ filter (together n) at.back) (filter (together n) at.back)) (true_together n n (mutual_here ps n))

    pub next_is : IsNext ps placed (component ps n)
    next_is = record {
      first = n;
      others = others;
      is = component_is;
      by_name = AllPairs-filter IsBefore (together n) (names_of ps) rising;
      whole = λ m k i. let of = of_component n m i in (
        (λ j. mutual_on ps m n k (mutual_back ps n m of.1) (of_component n k j).1),
        (λ h. in_component n k here (mutual_on ps n m k of.1 h)),
      );
      ready = λ m i. let of = of_component n m i in ready_on placed n m closed ready of.0 of.1;
      least = λ m other. elim (Contains-append_cases at.front (n ∷ at.back) m (subst (λ ns. Contains ns m) at.is other.project)) [
        | inl before ↦ absurd (not_before_it m before other)
        | inr from ↦ elim (cons_cases n at.back m from) [
          | inl same ↦ inl same
          | inr later ↦ inr (after_front at.front n at.back m (subst (AllPairs IsBefore) at.is rising) later)
        ]
      ];
    }

  -- ---- all of them

  abbrev waits : Names → List ℕ → Bool
  waits placed n = not (is_among placed n)

  left : Names → ℕ
  left placed = length (filter (waits placed) (names_of ps))

  fewer_left : (placed : Names) (n : List ℕ) → IsReady ps placed n → left (placed ++ component ps n) < left placed
  unfolding left
  fewer_left placed n ready = filter_fewer (waits (placed ++ component ps n)) (waits placed)
      (λ x h. not_from_false (is_among placed x) (false_from_ne_true (is_among placed x) (λ i.
      let no : true ≡ false = sym (one_is (placed ++ component ps n) x (Contains-append_left placed (component ps n) x (is_one placed x i))) ∙ not-true (is_among (placed ++ component ps n) x) h in cc)))
      (names_of ps) n ready.project
      (not_from_true (is_among (placed ++ component ps n) n) (one_is (placed ++ component ps n) n (Contains-append_right placed (component ps n) n (in_component n n ready.project (mutual_here ps n)))))
      (not_from_false (is_among placed n) (false_from_ne_true (is_among placed n) (λ i. ready.waits (is_one placed n i))))

  all_placed : (placed : Names) → ((n : List ℕ) → IsProject ps n → is_among placed n ≡ false → ⊥) → InOrder ps placed []
  all_placed placed h n here = elim (cases_Bool (is_among placed n)) [ inl is_placed ↦ is_one placed n is_placed | inr missing ↦ absurd (h n here missing) ]

  in_order : AllPairs IsBefore (names_of ps) → (count : ℕ) (placed : Names) → IsClosed ps placed → left placed ≤ count → InOrder ps placed (groups_after ps count placed)
  unfolding left
  in_order rising zero placed closed few = all_placed placed (λ n here no.
      let some = filter_fewer (λ (x : List ℕ). false) (waits placed) (λ x h. absurd (let e : false ≡ true = h in cc)) (names_of ps) n here refl (not_from_false (is_among placed n) no) in absurd (omega arith))
  in_order rising (suc count) placed closed few = by (find (is_ready ps placed) (names_of ps)) refl (in_order rising count)
    where
      by : (o : Option (List ℕ)) → find (is_ready ps placed) (names_of ps) ≡ o → ((placed : Names) → IsClosed ps placed → left placed ≤ count → InOrder ps placed (groups_after ps count placed))
          → InOrder ps placed (option_map_or (λ n. component ps n ∷ groups_after ps count (placed ++ component ps n)) o [])
      by None e next = all_placed placed (λ n here no.
          let r = some_ready ps placed n here no in let e : true ≡ false = sym r.2 ∙ found_none (is_ready ps placed) (names_of ps) e r.0 r.1 in cc)
      by (Some n) e next =
          let at = found (is_ready ps placed) (names_of ps) n e in
          let less = fewer_left placed n (ready placed n rising closed at) in
          (next_is placed n rising closed at, next (placed ++ component ps n) (closed_more placed n closed (ready placed n rising closed at)) (omega arith))

-- the computed groups come one after another
pub ordered_groups : (ps : Projects) → AllPairs IsBefore (names_of ps) → InOrder ps [] (ordered ps)
unfolding left
ordered_groups ps rising =
    let most : length (filter (waits ps []) (names_of ps)) ≤ length (names_of ps) = filter_most (waits ps []) (names_of ps) in
    in_order ps rising (length ps) [] (λ a b i refers. absurd (none a i)) (omega (arith, most, length-map ps (λ (p : List ℕ × Names). p.0)))

-- so the computed order is the order
pub ordered_right : (ps : Projects) → AllPairs IsBefore (names_of ps) → IsOrder ps (flat_map (λ g. g) (ordered ps)) (filter is_knot (ordered ps))
ordered_right ps rising = record { groups = ordered ps; in_order = ordered_groups ps rising; placed = refl; tied = refl }
