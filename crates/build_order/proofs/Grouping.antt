-- Components, each under its least number, number after number.
use Rattle.std.proofs.Common.{◌≡◌, ◌≢◌, inl, inr, ℕ, ◌+◌, ◌<◌, ◌≤◌, List, [], ◌∷◌, ◌++◌, length, get_or, set, replicate, refl, sym, ap, ◌∙◌, subst, arith}
use Rattle.std.specs.List.{All, AllPairs, Contains}
use Rattle.std.proofs.lemmas.Bool.{cases_eq, cases_lt}
use Rattle.std.proofs.lemmas.List.{length-set, get_or-set_same, get_or-set_other, get_or-replicate, get_or_past, length-replicate, get_or_default}
use Rattle.std.proofs.lemmas.List.Elements.{Contains-append_left, Contains-append_right, Contains-append_cases, Contains-push, Contains-push_cases, Contains-get_or}
use Rattle.std.proofs.lemmas.List.Quantifiers.{all_pairs_push}
use Rattle.build_order.specs.Inside.Graphs.{Graph, AreLeads, at}
use Rattle.build_order.specs.Inside.Groups.{AreMembers, AreTargets}

-- the list at a place, after one was set
pub set_same : (lists : List (List ℕ)) (i : ℕ) (xs : List ℕ) → i < length lists → get_or (set lists i xs) i [] ≡ xs
set_same lists i xs lt = get_or-set_same lists i xs [] lt

pub set_other : (lists : List (List ℕ)) (i j : ℕ) (xs : List ℕ) → j ≢ i → get_or (set lists i xs) j [] ≡ get_or lists j []
set_other lists i j xs ne = get_or-set_other lists i j xs [] ne

pub nothing_at : (n l : ℕ) → get_or {A = List ℕ} (replicate n []) l [] ≡ []
nothing_at n l = elim (cases_lt l n) [
  | inl lt ↦ get_or-replicate {A = List ℕ} n l [] [] lt
  | inr le ↦ get_or_past {X = List ℕ} (replicate n []) l [] (omega (arith, le, length-replicate {A = List ℕ} n []))
]

pub leads_within : (g : Graph) (leads : List ℕ) → AreLeads g leads → All (λ l. l < length leads) leads
leads_within g leads h k d lt =
    let least : at leads k ≤ k = h.least k (omega (arith, lt, h.as_long)) in
    let same : get_or leads k d ≡ at leads k = get_or_default_of leads k d lt in omega (arith, lt, least, same)
  where
    get_or_default_of : (xs : List ℕ) (i d : ℕ) → i < length xs → get_or xs i d ≡ get_or xs i 0
    get_or_default_of xs i d lt = get_or_default xs i d 0 lt

pub members_more : (leads : List ℕ) (members new : List (List ℕ)) (n l : ℕ) → l < length leads → at leads n ≡ l
    → new ≡ set members l (get_or members l [] ++ n ∷ []) → AreMembers leads n members → AreMembers leads (n + 1) new
members_more leads members new n l lt is e h = record {
  as_long = ap length e ∙ length-set members l (get_or members l [] ++ n ∷ []) ∙ h.as_long;
  rising = λ k. elim (cases_eq k l) [
    | inl same ↦ subst (AllPairs (λ a b. a < b)) (sym (here k same)) (all_pairs_push (λ a b. a < b) (get_or members l []) n (h.rising l) (λ j d le. (h.own l (get_or (get_or members l []) j d) (Contains-get_or (get_or members l []) j d le)).0))
    | inr ne ↦ subst (AllPairs (λ a b. a < b)) (sym (there k ne)) (h.rising k)
  ];
  own = λ k a i. elim (cases_eq k l) [
    | inl same ↦ elim (Contains-push_cases (get_or members l []) n a (subst (λ xs. Contains xs a) (here k same) i)) [
      | inl old ↦ let o = h.own l a old in (omega (arith, o.0), o.1 ∙ sym same)
      | inr x ↦ (omega (arith, x), ap (at leads) (sym x) ∙ is ∙ sym same)
    ]
    | inr ne ↦ let o = h.own k a (subst (λ xs. Contains xs a) (there k ne) i) in (omega (arith, o.0), o.1)
  ];
  all = λ a le. elim (cases_lt a n) [
    | inl low ↦ kept a (h.all a low)
    | inr high ↦ let x : n ≡ a = omega (arith, le, high) in
        subst (λ b. Contains (get_or new (at leads b) []) b) x (subst (λ k. Contains (get_or new k []) n) (sym is) (subst (λ xs. Contains xs n) (sym (here l refl)) (Contains-push (get_or members l []) n)))
  ];
}
  where
    here : (k : ℕ) → k ≡ l → get_or new k [] ≡ get_or members l [] ++ n ∷ []
    here k same = ap (λ x. get_or new x []) same ∙ ap (λ ms. get_or ms l []) e ∙ set_same members l (get_or members l [] ++ n ∷ []) (omega (arith, lt, h.as_long))

    there : (k : ℕ) → k ≢ l → get_or new k [] ≡ get_or members k []
    there k ne = ap (λ ms. get_or ms k []) e ∙ set_other members l k (get_or members l [] ++ n ∷ []) ne

    kept : (a : ℕ) → Contains (get_or members (at leads a) []) a → Contains (get_or new (at leads a) []) a
    kept a i = elim (cases_eq (at leads a) l) [
      | inl same ↦ subst (λ xs. Contains xs a) (sym (here (at leads a) same)) (Contains-append_left (get_or members l []) (n ∷ []) a (subst (λ k. Contains (get_or members k []) a) same i))
      | inr ne ↦ subst (λ xs. Contains xs a) (sym (there (at leads a) ne)) i
    ]

pub targets_more : (g : Graph) (leads : List ℕ) (targets new : List (List ℕ)) (n l : ℕ) → l < length leads → at leads n ≡ l
    → new ≡ set targets l (get_or targets l [] ++ get_or g n []) → AreTargets g leads n targets → AreTargets g leads (n + 1) new
targets_more g leads targets new n l lt is e h = record {
  as_long = ap length e ∙ length-set targets l (get_or targets l [] ++ get_or g n []) ∙ h.as_long;
  own = λ k w i. elim (cases_eq k l) [
    | inl same ↦ elim (Contains-append_cases (get_or targets l []) (get_or g n []) w (subst (λ xs. Contains xs w) (here k same) i)) [
      | inl old ↦ let o = h.own l w old in (o.0, o.1 ∙ sym same, o.2)
      | inr r ↦ (n, is ∙ sym same, r)
    ]
    | inr ne ↦ h.own k w (subst (λ xs. Contains xs w) (there k ne) i)
  ];
  all = λ u w le r. elim (cases_lt u n) [
    | inl low ↦ kept u w (h.all u w low r)
    | inr high ↦ let x : n ≡ u = omega (arith, le, high) in
        subst (λ xs. Contains xs w) (sym (here (at leads u) (ap (at leads) (sym x) ∙ is))) (Contains-append_right (get_or targets l []) (get_or g n []) w (subst (λ y. Contains (get_or g y []) w) (sym x) r))
  ];
}
  where
    here : (k : ℕ) → k ≡ l → get_or new k [] ≡ get_or targets l [] ++ get_or g n []
    here k same = ap (λ x. get_or new x []) same ∙ ap (λ ms. get_or ms l []) e ∙ set_same targets l (get_or targets l [] ++ get_or g n []) (omega (arith, lt, h.as_long))

    there : (k : ℕ) → k ≢ l → get_or new k [] ≡ get_or targets k []
    there k ne = ap (λ ms. get_or ms k []) e ∙ set_other targets l k (get_or targets l [] ++ get_or g n []) ne

    kept : (u w : ℕ) → Contains (get_or targets (at leads u) []) w → Contains (get_or new (at leads u) []) w
    kept u w i = elim (cases_eq (at leads u) l) [
      | inl same ↦ subst (λ xs. Contains xs w) (sym (here (at leads u) same)) (Contains-append_left (get_or targets l []) (get_or g n []) w (subst (λ k. Contains (get_or targets k []) w) same i))
      | inr ne ↦ subst (λ xs. Contains xs w) (sym (there (at leads u) ne)) i
    ]
