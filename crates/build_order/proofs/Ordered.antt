-- Components in turn are the order of the projects.
use Rattle.std.proofs.Common.{◌≡◌, ◌⊎◌, inl, inr, ℕ, ◌+◌, ◌<◌, ◌≤◌, List, [], ◌∷◌, ◌++◌, Result, Ok, Err, length, get_or, map, take, refl, sym, ap, ◌∙◌, subst, arith, append_assoc, append-nil}
use Rattle.std.specs.List.{All, AllPairs, Contains, filter, flat_map}
use Rattle.std.proofs.lemmas.Bool.{cases_eq, cases_lt}
use Rattle.std.proofs.lemmas.List.{length-map, get_or-map, get_or_default, get_or_past, get_or_read, take_more, map_push, map_more}
use Rattle.std.proofs.lemmas.List.Elements.{Contains-append_left, Contains-append_right, Contains-append_cases, Contains-push, Contains-push_cases, Contains-get_or, filter-append}
use Rattle.std.specs.Result.{IfOk}
use Rattle.res_path.specs.Paths.{Names}
use Rattle.build_order.specs.Orders.{Projects, IsBefore, IsProject, IsWay, Leads, AreMutual, InOrder, IsOrder, is_knot}
use Rattle.build_order.specs.Orders as order
use Rattle.build_order.specs.Inside.Graphs.{Graph, Refers, IsWithin, AreLeads, at}
use Rattle.build_order.specs.Inside.Groups.{AreMembers}
use Rattle.build_order.specs.Inside.Placings.{InTurn}
use Rattle.build_order.specs.Inside.Placings as placing
use Rattle.build_order.specs.Inside.Rows.{name_at, AreNames, AreRows, group_of}
use Rattle.build_order.proofs.Members.{none, at_front, leads_here}
use Rattle.build_order.proofs.Placing.{turn_within}
use Rattle.build_order.proofs.Sorted.{same_place}

pub rows_within : (ps : Projects) (names : Names) (g : Graph) → AreRows ps names g → IsWithin g
rows_within ps names g h a b r = omega (arith, (h.only a b r).0, h.as_long)

-- what a mapped list contains
map_has : (f : ℕ → List ℕ) (xs : List ℕ) (a : ℕ) → Contains xs a → Contains (map f xs) (f a)
map_has f xs a i = (i.0, omega (arith, i.1, length-map xs f), get_or-map f xs i.0 a (f a) i.1 ∙ ap f i.2)

map_from : (f : ℕ → List ℕ) (xs : List ℕ) (m : List ℕ) → Contains (map f xs) m → (a : ℕ) × Contains xs a × (f a ≡ m)
map_from f xs m i =
    let lt : i.0 < length xs = omega (arith, i.1, length-map xs f) in
    (get_or xs i.0 0, (i.0, lt, get_or_default xs i.0 (get_or xs i.0 0) 0 lt), sym (get_or-map f xs i.0 0 m lt) ∙ i.2)

-- along a way the rank falls, but inside a component
way_down : (g : Graph) (leads : List ℕ) (h : AreLeads g leads) (ms : List ℕ) (a b : ℕ) → IsWay (Refers g) a ms b → (at leads b ≡ at leads a) ⊎ (h.rank (at leads b) < h.rank (at leads a))
way_down g leads h [] a b w = inl (ap (at leads) (sym w))
way_down g leads h (m ∷ ms) a b w = elim (h.down a m w.0) [
  | inl same ↦ elim (way_down g leads h ms m b w.1) [ inl too ↦ inl (too ∙ same) | inr lower ↦ inr (subst (λ x. h.rank (at leads b) < h.rank x) same lower) ]
  | inr low ↦ elim (way_down g leads h ms m b w.1) [ inl too ↦ inr (subst (λ x. h.rank x < h.rank (at leads a)) (sym too) low) | inr lower ↦ inr (omega (arith, low, lower)) ]
]

same_leads : (g : Graph) (leads : List ℕ) → AreLeads g leads → (a b : ℕ) → Leads (Refers g) a b → Leads (Refers g) b a → at leads a ≡ at leads b
same_leads g leads h a b there back = elim (way_down g leads h there.0 a b there.1) [
  | inl same ↦ sym same
  | inr low ↦ elim (way_down g leads h back.0 b a back.1) [ inl same ↦ same | inr lower ↦ absurd (omega (arith, low, lower)) ]
]

-- between the places and the names

refers_up : (ps : Projects) (names : Names) (g : Graph) → AreNames ps names → AreRows ps names g → (a b : ℕ) → Refers g a b → order.Refers ps (name_at names a) (name_at names b)
refers_up ps names g are rows a b r =
    let o = rows.only a b r in
    record { references = o.1.0; here = o.1.1; there = o.1.2; project = are.only (name_at names b) (b, o.0, get_or_default names b (name_at names b) [] o.0) }

way_up : (ps : Projects) (names : Names) (g : Graph) → AreNames ps names → AreRows ps names g → (ms : List ℕ) (a b : ℕ) → IsWay (Refers g) a ms b
    → IsWay (order.Refers ps) (name_at names a) (map (name_at names) ms) (name_at names b)
way_up ps names g are rows [] a b w = ap (name_at names) w
way_up ps names g are rows (m ∷ ms) a b w = (refers_up ps names g are rows a m w.0, way_up ps names g are rows ms m b w.1)

leads_up : (ps : Projects) (names : Names) (g : Graph) → AreNames ps names → AreRows ps names g → (a b : ℕ) → Leads (Refers g) a b → Leads (order.Refers ps) (name_at names a) (name_at names b)
leads_up ps names g are rows a b h = (map (name_at names) h.0, way_up ps names g are rows h.0 a b h.1)

place_of : (ps : Projects) (names : Names) → AreNames ps names → (n : List ℕ) → IsProject ps n → (a : ℕ) × (a < length names) × (name_at names a ≡ n)
place_of ps names are n p = let i = are.all n p in (i.0, i.1, get_or_default names i.0 [] n i.1 ∙ i.2)

refers_down : (ps : Projects) (names : Names) (g : Graph) → AreNames ps names → AreRows ps names g → (a : ℕ) → a < length names → (m : List ℕ) → order.Refers ps (name_at names a) m
    → (b : ℕ) × (b < length names) × (name_at names b ≡ m) × Refers g a b
refers_down ps names g are rows a la m r =
    let p = place_of ps names are m r.project in
    (p.0, p.1, p.2, rows.all a p.0 la p.1 (r.references, r.here, subst (Contains r.references) (sym p.2) r.there))

way_downward : (ps : Projects) (names : Names) (g : Graph) → AreNames ps names → AreRows ps names g → (ms : Names) (a : ℕ) (m n : List ℕ) → a < length names → name_at names a ≡ m → IsWay (order.Refers ps) m ms n
    → (b : ℕ) × (b < length names) × (name_at names b ≡ n) × Leads (Refers g) a b
way_downward ps names g are rows [] a m n la is w = (a, la, is ∙ w, leads_here (Refers g) a)
way_downward ps names g are rows (k ∷ ms) a m n la is w =
    let s = refers_down ps names g are rows a la k (subst (λ x. order.Refers ps x k) (sym is) w.0) in
    let more = way_downward ps names g are rows ms s.0 k n s.1 s.2 w.1 in
    (more.0, more.1, more.2, (s.0 ∷ more.3.0, (s.3, more.3.1)))

module _ (ps : Projects) (names : Names) (g : Graph) (leads : List ℕ) (members : List (List ℕ)) (are : AreNames ps names) (rows : AreRows ps names g) (tied : AreLeads g leads) (grouped : AreMembers leads (length leads) members) where
  inside : (a : ℕ) → a < length names → a < length g
  inside a la = omega (arith, la, rows.as_long)

  named : (a : ℕ) → a < length g → a < length names
  named a la = omega (arith, la, rows.as_long)

  counted : (a : ℕ) → a < length leads → a < length names
  counted a la = omega (arith, la, tied.as_long, rows.as_long)

  mutual_up : (a b : ℕ) → a < length names → b < length names → at leads a ≡ at leads b → AreMutual ps (name_at names a) (name_at names b)
  mutual_up a b la lb same = (leads_up ps names g are rows a b (tied.together a b (inside a la) (inside b lb) same), leads_up ps names g are rows b a (tied.together b a (inside b lb) (inside a la) (sym same)))

  -- what is mutual with the name of a place is the name of a place with its lead
  mutual_down : (a : ℕ) (n : List ℕ) → a < length names → AreMutual ps (name_at names a) n → (b : ℕ) × (b < length names) × (name_at names b ≡ n) × (at leads b ≡ at leads a)
  mutual_down a n la h =
      let there = way_downward ps names g are rows h.0.0 a (name_at names a) n la refl h.0.1 in
      let back = way_downward ps names g are rows h.1.0 there.0 n (name_at names a) there.1 there.2 h.1.1 in
      let home : back.0 ≡ a = same_place names back.0 a are.rising back.1 la back.2 in
      (there.0, there.1, there.2, sym (same_leads g leads tied a there.0 there.3 (subst (Leads (Refers g) there.0) home back.3)))

  -- the places whose components are done are those whose names are placed
  pub record Agrees (placed : Names) (done : List ℕ) : Type 0 where
    pub on : (a : ℕ) → a < length names → Contains done (at leads a) → Contains placed (name_at names a)
    pub back : (a : ℕ) → a < length names → Contains placed (name_at names a) → Contains done (at leads a)

  group_from : (l : ℕ) (m : List ℕ) → Contains (group_of names members l) m → (a : ℕ) × (a < length names) × (at leads a ≡ l) × (name_at names a ≡ m)
  group_from l m i = let f = map_from (name_at names) (get_or members l []) m i in let o = grouped.own l f.0 f.1 in (f.0, counted f.0 o.0, o.1, f.2)

  group_has : (l a : ℕ) → a < length names → at leads a ≡ l → Contains (group_of names members l) (name_at names a)
  group_has l a la is = map_has (name_at names) (get_or members l []) a (subst (λ k. Contains (get_or members k []) a) is (grouped.all a (omega (arith, la, tied.as_long, rows.as_long))))

  agrees_on : (placed : Names) (done : List ℕ) (l : ℕ) → Agrees placed done → Agrees (placed ++ group_of names members l) (done ++ l ∷ [])
  agrees_on placed done l h = record {
    on = λ a la i. elim (Contains-push_cases done l (at leads a) i) [
      | inl old ↦ Contains-append_left placed (group_of names members l) (name_at names a) (h.on a la old)
      | inr same ↦ Contains-append_right placed (group_of names members l) (name_at names a) (group_has l a la (sym same))
    ];
    back = λ a la i. elim (Contains-append_cases placed (group_of names members l) (name_at names a) i) [
      | inl old ↦ Contains-append_left done (l ∷ []) (at leads a) (h.back a la old)
      | inr new ↦ let f = group_from l (name_at names a) new in
          let same : f.0 ≡ a = same_place names f.0 a are.rising f.1 la f.3 in
          subst (Contains (done ++ l ∷ [])) (sym f.2 ∙ ap (at leads) same) (Contains-push done l)
    ];
  }

  -- a ready component has ready names, and the other way round
  ready_up : (placed : Names) (done : List ℕ) (a : ℕ) → Agrees placed done → a < length names → placing.IsReady g leads done (at leads a) → order.IsReady ps placed (name_at names a)
  ready_up placed done a agree la r = record {
    project = are.only (name_at names a) (a, la, get_or_default names a (name_at names a) [] la);
    waits = λ i. r.waits (agree.back a la i);
    free = λ m p together refers.
        let c = mutual_down a m la together in
        let d = refers_down ps names g are rows c.0 c.1 p (subst (λ x. order.Refers ps x p) (sym c.2) refers) in
        elim (r.free c.0 d.0 c.3 d.3) [
          | inl inner ↦ inr (subst (AreMutual ps (name_at names a)) d.2 (mutual_up a d.0 la d.1 (sym inner)))
          | inr out ↦ inl (subst (Contains placed) d.2 (agree.on d.0 d.1 out))
        ];
  }

  ready_down : (placed : Names) (done : List ℕ) (a : ℕ) → Agrees placed done → a < length names → order.IsReady ps placed (name_at names a) → placing.IsReady g leads done (at leads a)
  ready_down placed done a agree la r = record {
    within = let low : at leads a ≤ a = tied.least a (inside a la) in omega (arith, low, inside a la);
    lead = tied.lead a (inside a la);
    waits = λ i. r.waits (agree.on a la i);
    free = λ u w lead refers.
        let lu : u < length names = from_within u w refers in
        let lw : w < length names = (rows.only u w refers).0 in
        elim (r.free (name_at names u) (name_at names w) (mutual_up a u la lu (sym lead)) (refers_up ps names g are rows u w refers)) [
          | inl out ↦ inr (agree.back w lw out)
          | inr inner ↦ let c = mutual_down a (name_at names w) la inner in
              let same : c.0 ≡ w = same_place names c.0 w are.rising c.1 lw c.2 in inl (ap (at leads) (sym same) ∙ c.3)
        ];
  }
    where
      from_within : (u w : ℕ) → Refers g u w → u < length names
      from_within u w r = elim (cases_lt u (length g)) [ inl lt ↦ named u lt | inr le ↦ absurd (none w (subst (λ xs. Contains xs w) (get_or_past g u [] le) r)) ]

  rising_names : (xs : List ℕ) → AllPairs (λ a b. a < b) xs → ((a : ℕ) → Contains xs a → a < length names) → AllPairs IsBefore (map (name_at names) xs)
  rising_names xs rising within i j d lt le =
      let lj : j < length xs = omega (arith, le, length-map xs (name_at names)) in
      let li : i < length xs = omega (arith, lt, lj) in
      subst (λ x. IsBefore x (get_or (map (name_at names) xs) j d)) (sym (get_or-map (name_at names) xs i 0 d li)) (subst (IsBefore (name_at names (get_or xs i 0))) (sym (get_or-map (name_at names) xs j 0 d lj))
      (are.rising (get_or xs i 0) (get_or xs j 0) [] (rising i j 0 lt lj) (within (get_or xs j 0) (j, lj, get_or_default xs j (get_or xs j 0) 0 lj))))

  next_is : (placed : Names) (done : List ℕ) (l : ℕ) → Agrees placed done → placing.IsNext g leads done l → order.IsNext ps placed (group_of names members l)
  next_is placed done l agree h = by (get_or members l []) refl
    where
      ln : l < length names
      ln = named l h.ready.within

      own : Contains (get_or members l []) l
      own = subst (λ k. Contains (get_or members k []) l) h.ready.lead (grouped.all l (omega (arith, h.ready.within, tied.as_long)))

      by : (xs : List ℕ) → get_or members l [] ≡ xs → order.IsNext ps placed (group_of names members l)
      by [] e = absurd (none l (subst (λ ys. Contains ys l) e own))
      by (x ∷ xs) e = record {
        first = name_at names x;
        others = map (name_at names) xs;
        is = ap (map (name_at names)) e;
        by_name = rising_names (get_or members l []) (grouped.rising l) (λ a i. counted a (grouped.own l a i).0);
        whole = λ m n i. let a = group_from l m i in (
          (λ j. let b = group_from l n j in subst (λ y. AreMutual ps y n) a.3 (subst (AreMutual ps (name_at names a.0)) b.3 (mutual_up a.0 b.0 a.1 b.1 (a.2 ∙ sym b.2)))),
          (λ together. let b = mutual_down a.0 n a.1 (subst (λ y. AreMutual ps y n) (sym a.3) together) in subst (Contains (group_of names members l)) b.2 (group_has l b.0 b.1 (b.3 ∙ a.2))),
        );
        ready = λ m i. let a = group_from l m i in subst (order.IsReady ps placed) a.3 (ready_up placed done a.0 agree a.1 (subst (placing.IsReady g leads done) (sym a.2) h.ready));
        least = λ n r.
            let a = place_of ps names are n r.project in
            let ready = ready_down placed done a.0 agree a.1 (subst (order.IsReady ps placed) (sym a.2) r) in
            let low : l ≤ at leads a.0 = h.least (at leads a.0) ready in
            let lower : at leads a.0 ≤ a.0 = tied.least a.0 (inside a.0 a.1) in
            elim (cases_eq x a.0) [
              | inl same ↦ inl (ap (name_at names) same ∙ a.2)
              | inr ne ↦ inr (subst (IsBefore (name_at names x)) a.2 (are.rising x a.0 [] (omega (arith, low, lower, first_is, ne)) a.1))
            ];
      }
        where
          at_first : Contains (get_or members l []) x
          at_first = subst (λ ys. Contains ys x) (sym e) (at_front x xs)

          first_is : x ≡ l
          first_is =
              let ox = grouped.own l x at_first in
              let low : at leads x ≤ x = tied.least x (omega (arith, ox.0, tied.as_long)) in
              elim (cases_eq own.0 0) [
                | inl zero_at ↦ ap (λ ys. get_or ys 0 l) (sym e) ∙ ap (λ k. get_or (get_or members l []) k l) (sym zero_at) ∙ own.2
                | inr later ↦ let lt : get_or (get_or members l []) 0 l < get_or (get_or members l []) own.0 l = grouped.rising l 0 own.0 l (omega (arith, later)) own.1 in
                    omega (arith, lt, own.2, ap (λ ys. get_or ys 0 l) e, low, ox.1)
              ]

  turn_is : (placed : Names) (done ls : List ℕ) → Agrees placed done → InTurn g leads done ls → InOrder ps placed (map (group_of names members) ls)
  turn_is placed done [] agree h = λ n p. let a = place_of ps names are n p in subst (Contains placed) a.2 (agree.on a.0 a.1 (h a.0 (inside a.0 a.1)))
  turn_is placed done (l ∷ ls) agree h = (next_is placed done l agree h.0, turn_is (placed ++ group_of names members l) (done ++ l ∷ []) ls (agrees_on placed done l agree) h.1)

  pub ordered : (ls : List ℕ) → InTurn g leads [] ls → InOrder ps [] (map (group_of names members) ls)
  ordered ls h = turn_is [] [] ls (record { on = λ a la i. absurd (none (at leads a) i); back = λ a la i. absurd (none (name_at names a) i) }) h

-- the whole answer

flat_more : (f : ℕ → Names) (ls : List ℕ) (l : ℕ) → flat_map (λ (g : Names). g) (map f (ls ++ l ∷ [])) ≡ flat_map (λ (g : Names). g) (map f ls) ++ f l
flat_more f [] l = append-nil (f l)
flat_more f (k ∷ ls) l = ap (λ ns. f k ++ ns) (flat_more f ls l) ∙ sym (append_assoc (f k) (flat_map (λ (g : Names). g) (map f ls)) (f l))

-- one more group of names is told
pub order_more : (f : ℕ → Names) (ls : List ℕ) (i l : ℕ) (old new : Names) → i < length ls → get_or ls i 0 ≡ l → old ≡ flat_map (λ (g : Names). g) (map f (take i ls)) → new ≡ old ++ f l
    → new ≡ flat_map (λ (g : Names). g) (map f (take (i + 1) ls))
order_more f ls i l old new lt is e n =
    n ∙ ap (λ ns. ns ++ f l) e ∙ sym (flat_more f (take i ls) l) ∙ ap (λ ks. flat_map (λ (g : Names). g) (map f ks)) (sym (take_more ls i 0 lt ∙ ap (λ x. take i ls ++ x ∷ []) is))

pub knots_more : (f : ℕ → Names) (ls : List ℕ) (i l : ℕ) (old new : List Names) → i < length ls → get_or ls i 0 ≡ l → old ≡ filter is_knot (map f (take i ls)) → new ≡ old ++ filter is_knot (f l ∷ [])
    → new ≡ filter is_knot (map f (take (i + 1) ls))
knots_more f ls i l old new lt is e n =
    n ∙ ap (λ ns. ns ++ filter is_knot (f l ∷ [])) e ∙ sym (filter-append is_knot (map f (take i ls)) (f l ∷ [])) ∙ ap (filter is_knot) (sym (map_push f (take i ls) l))
    ∙ ap (λ ks. filter is_knot (map f ks)) (sym (take_more ls i 0 lt ∙ ap (λ x. take i ls ++ x ∷ []) is))

pub is_order : (ps : Projects) (names : Names) (g : Graph) (leads : List ℕ) (members : List (List ℕ)) (ls : List ℕ) (told : Names) (knots : List Names) → AreNames ps names → AreRows ps names g → AreLeads g leads → AreMembers leads (length leads) members
    → InTurn g leads [] ls → told ≡ flat_map (λ (g : Names). g) (map (group_of names members) ls) → knots ≡ filter is_knot (map (group_of names members) ls) → IsOrder ps told knots
is_order ps names g leads members ls told knots are rows tied grouped turn e k = record {
  groups = map (group_of names members) ls;
  in_order = ordered ps names g leads members are rows tied grouped ls turn;
  placed = e;
  tied = k;
}

-- what `told` asks

pub places_within : (g : Graph) (leads : List ℕ) (members : List (List ℕ)) (ls : List ℕ) → AreLeads g leads → AreMembers leads (length leads) members → InTurn g leads [] ls → All (λ l. l < length members) ls
places_within g leads members ls tied grouped turn k d lt =
    let inside : get_or ls k d < length g = turn_within g leads [] ls turn (get_or ls k d) (Contains-get_or ls k d lt) in omega (arith, inside, grouped.as_long, tied.as_long)

pub members_within : (ps : Projects) (names : Names) (g : Graph) (leads : List ℕ) (members : List (List ℕ)) → AreRows ps names g → AreLeads g leads → AreMembers leads (length leads) members
    → (l : ℕ) → All (λ a. a < length names) (get_or members l [])
members_within ps names g leads members rows tied grouped l k d lt =
    let inside = (grouped.own l (get_or (get_or members l []) k d) (Contains-get_or (get_or members l []) k d lt)).0 in omega (arith, inside, rows.as_long, tied.as_long)

pub names_more : (names : Names) (group : List ℕ) (i : ℕ) (x : List ℕ) (start old new : Names) → i < length group → get_or group i 0 < length names → x ≡ get_or names (get_or group i 0) x
    → old ≡ start ++ map (name_at names) (take i group) → new ≡ old ++ x ∷ [] → new ≡ start ++ map (name_at names) (take (i + 1) group)
names_more names group i x start old new lt inside is e n =
    n ∙ ap (λ y. old ++ y ∷ []) (get_or_read names (get_or group i 0) x inside is []) ∙ ap (λ ns. ns ++ name_at names (get_or group i 0) ∷ []) e
    ∙ append_assoc start (map (name_at names) (take i group)) (name_at names (get_or group i 0) ∷ []) ∙ ap (λ ns. start ++ ns) (sym (map_more (name_at names) group i 0 lt))

-- the same lists, as each part was handed them

pub told_places : (g : Graph) (leads grouped_by turned_by : List ℕ) (members : List (List ℕ)) (ls told : List ℕ) → grouped_by ≡ leads → turned_by ≡ leads → told ≡ ls
    → AreLeads g leads → AreMembers grouped_by (length grouped_by) members → InTurn g turned_by [] ls → All (λ l. l < length members) told
told_places g leads grouped_by turned_by members ls told eg et el tied grouped turn =
    subst (All (λ l. l < length members)) (sym el) (places_within g leads members ls tied (subst (λ xs. AreMembers xs (length xs) members) eg grouped) (subst (λ xs. InTurn g xs [] ls) et turn))

pub told_members : (ps : Projects) (names rowed_by told_by : Names) (g : Graph) (leads grouped_by : List ℕ) (members : List (List ℕ)) → rowed_by ≡ names → told_by ≡ names → grouped_by ≡ leads
    → AreRows ps rowed_by g → AreLeads g leads → AreMembers grouped_by (length grouped_by) members → (l : ℕ) → All (λ a. a < length told_by) (get_or members l [])
told_members ps names rowed_by told_by g leads grouped_by members er en eg rows tied grouped l =
    subst (λ ns. All (λ a. a < length ns) (get_or members l [])) (sym en) (members_within ps names g leads members (subst (λ ns. AreRows ps ns g) er rows) tied (subst (λ xs. AreMembers xs (length xs) members) eg grouped) l)

pub told_order : (ps : Projects) (names rowed_by told_by : Names) (g : Graph) (leads grouped_by turned_by : List ℕ) (members : List (List ℕ)) (ls told : List ℕ) (order : Names) (knots : List Names)
    → rowed_by ≡ names → told_by ≡ names → grouped_by ≡ leads → turned_by ≡ leads → told ≡ ls
    → AreNames ps names → AreRows ps rowed_by g → AreLeads g leads → AreMembers grouped_by (length grouped_by) members → InTurn g turned_by [] ls
    → order ≡ flat_map (λ (g : Names). g) (map (group_of told_by members) told) → knots ≡ filter is_knot (map (group_of told_by members) told) → IsOrder ps order knots
told_order ps names rowed_by told_by g leads grouped_by turned_by members ls told order knots er en eg et el are rows tied grouped turn e k =
    is_order ps names g leads members ls order knots are (subst (λ ns. AreRows ps ns g) er rows) tied (subst (λ xs. AreMembers xs (length xs) members) eg grouped) (subst (λ xs. InTurn g xs [] ls) et turn)
    (e ∙ (λ i. flat_map (λ (g : Names). g) (map (group_of (en i) members) (el i)))) (k ∙ (λ i. filter is_knot (map (group_of (en i) members) (el i))))

pub both_ok : {X E : Type 0} (r : Result X E) (P Q R : X → Type 0) → ((x : X) → P x → Q x → R x) → IfOk r P → IfOk r Q → IfOk r R
both_ok (Ok x) P Q R f p q = f x p q
both_ok (Err e) P Q R f p q = p
