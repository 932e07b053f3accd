-- A component is looked at.
use Rattle.std.proofs.Common.{◌≡◌, ◌≢◌, ◌⊎◌, inl, inr, ℕ, ◌-◌, ◌<◌, ◌≤◌, false, List, [], ◌∷◌, ◌++◌, length, get_or, set, take, refl, sym, ap, ◌∙◌, subst, arith}
use Rattle.std.specs.List.{Contains}
use Rattle.std.specs.Ordering.{nat_cmp}
use Rattle.std.specs.BTreeSet.{insert_key}
use Rattle.std.proofs.lemmas.Bool.{cases_eq}
use Rattle.std.proofs.lemmas.List.{length-set}
use Rattle.std.proofs.lemmas.List.Elements.{Contains-append_left, Contains-push, Contains-push_cases}
use Rattle.build_order.specs.declared.places.Places.{Places}
use Rattle.build_order.specs.Inside.Graphs.{Graph, Refers, at}
use Rattle.build_order.specs.Inside.Placings.{Holds, IsBehind, IsWaiting, IsParked, IsFree, is_done, IsLast}
use Rattle.build_order.proofs.Members.{none, cons_cases, behind, at_front}
use Rattle.build_order.proofs.Grouping.{set_same, set_other}
use Rattle.build_order.proofs.Steps.{popped_front}
use Rattle.build_order.proofs.FreeSets.{added_only, added_keeps, added_is}

pub waits_behind : (g : Graph) (leads rest : List ℕ) (p : Places) (l : ℕ) → Holds g leads (l ∷ rest) p → IsWaiting g leads p.is_placed.items l
waits_behind g leads rest p l h = h.are_pending l (at_front l rest)

-- a target that holds nothing up is passed
pub passed : (g : Graph) (leads rest : List ℕ) (p : Places) (l w : ℕ) (front : List ℕ) (targets : List (List ℕ)) → get_or p.targets l [] ≡ front ++ w ∷ [] → targets ≡ set p.targets l front
    → IsBehind leads p.is_placed.items l w → Holds g leads (l ∷ rest) p → Holds g leads (l ∷ rest) (record p { targets = targets })
passed g leads rest p l w front targets was e past h = record {
  inside = h.inside;
  are_leads = h.are_leads;
  long_targets = ap length e ∙ length-set p.targets l front ∙ h.long_targets;
  long_parked = h.long_parked;
  long_placed = h.long_placed;
  ahead = λ u x r. elim (h.ahead u x r) [ inl i ↦ still u x i | inr b ↦ inr b ];
  own = λ k x i. h.own k x (before k x i);
  are_pending = h.are_pending;
  are_free = h.are_free;
  are_parked = h.are_parked;
  each = h.each;
  closed = h.closed;
  placed = h.placed;
  only = h.only;
  in_turn = h.in_turn;
}
  where
    inside : l < length p.targets
    inside = omega (arith, (waits_behind g leads rest p l h).within, h.long_targets)

    here : (k : ℕ) → k ≡ l → get_or targets k [] ≡ front
    here k same = ap (λ x. get_or targets x []) same ∙ ap (λ ts. get_or ts l []) e ∙ set_same p.targets l front inside

    there : (k : ℕ) → k ≢ l → get_or targets k [] ≡ get_or p.targets k []
    there k ne = ap (λ ts. get_or ts k []) e ∙ set_other p.targets l k front ne

    was_at : (k : ℕ) → k ≡ l → get_or p.targets k [] ≡ front ++ w ∷ []
    was_at k same = ap (λ x. get_or p.targets x []) same ∙ was

    before : (k x : ℕ) → Contains (get_or targets k []) x → Contains (get_or p.targets k []) x
    before k x i = elim (cases_eq k l) [
      | inl same ↦ subst (λ xs. Contains xs x) (sym (was_at k same)) (Contains-append_left front (w ∷ []) x (subst (λ xs. Contains xs x) (here k same) i))
      | inr ne ↦ subst (λ xs. Contains xs x) (there k ne) i
    ]

    still : (u x : ℕ) → Contains (get_or p.targets (at leads u) []) x → Contains (get_or targets (at leads u) []) x ⊎ IsBehind leads p.is_placed.items (at leads u) x
    still u x i = elim (cases_eq (at leads u) l) [
      | inl same ↦ elim (Contains-push_cases front w x (subst (λ xs. Contains xs x) (was_at (at leads u) same) i)) [
        | inl j ↦ inl (subst (λ xs. Contains xs x) (sym (here (at leads u) same)) j)
        | inr is ↦ inr (subst (λ k. IsBehind leads p.is_placed.items k x) (sym same) (subst (IsBehind leads p.is_placed.items l) is past))
      ]
      | inr ne ↦ inl (subst (λ xs. Contains xs x) (sym (there (at leads u) ne)) i)
    ]

-- a component is parked at the one that holds it up
pub parked_at : (g : Graph) (leads rest : List ℕ) (p : Places) (l w : ℕ) (front : List ℕ) (m : ℕ) (parked : List (List ℕ)) → get_or p.targets l [] ≡ front ++ w ∷ [] → at leads w ≡ m
    → m ≢ l → is_done p.is_placed.items m ≡ false → m < length p.parked → parked ≡ set p.parked m (get_or p.parked m [] ++ l ∷ [])
    → Holds g leads (l ∷ rest) p → Holds g leads rest (record p { parked = parked })
parked_at g leads rest p l w front m parked was is other waits inside e h = record {
  inside = h.inside;
  are_leads = h.are_leads;
  long_targets = h.long_targets;
  long_parked = ap length e ∙ length-set p.parked m (get_or p.parked m [] ++ l ∷ []) ∙ h.long_parked;
  long_placed = h.long_placed;
  ahead = h.ahead;
  own = h.own;
  are_pending = λ q i. h.are_pending q (behind l rest q i);
  are_free = h.are_free;
  are_parked = λ k q i. elim (cases_eq k m) [
    | inl same ↦ elim (Contains-push_cases (get_or p.parked m []) l q (subst (λ xs. Contains xs q) (here k same) i)) [
      | inl old ↦ subst (λ x. IsParked g leads p.is_placed.items x q) (sym same) (h.are_parked m q old)
      | inr this ↦ subst (λ x. IsParked g leads p.is_placed.items x q) (sym same) (subst (IsParked g leads p.is_placed.items m) this own)
    ]
    | inr ne ↦ h.are_parked k q (subst (λ xs. Contains xs q) (there k ne) i)
  ];
  each = λ q waiting. elim (h.each q waiting) [
    | inl i ↦ elim (cons_cases l rest q i) [
      | inl this ↦ inr (inr (m, subst (λ xs. Contains xs q) (sym (here m refl)) (subst (Contains (get_or p.parked m [] ++ l ∷ [])) this (Contains-push (get_or p.parked m []) l))))
      | inr j ↦ inl j
    ]
    | inr o ↦ elim o [ inl i ↦ inr (inl i) | inr i ↦ inr (inr (i.0, kept i.0 q i.1)) ]
  ];
  closed = h.closed;
  placed = h.placed;
  only = h.only;
  in_turn = h.in_turn;
}
  where
    here : (k : ℕ) → k ≡ m → get_or parked k [] ≡ get_or p.parked m [] ++ l ∷ []
    here k same = ap (λ x. get_or parked x []) same ∙ ap (λ ts. get_or ts m []) e ∙ set_same p.parked m (get_or p.parked m [] ++ l ∷ []) inside

    there : (k : ℕ) → k ≢ m → get_or parked k [] ≡ get_or p.parked k []
    there k ne = ap (λ ts. get_or ts k []) e ∙ set_other p.parked m k (get_or p.parked m [] ++ l ∷ []) ne

    kept : (k q : ℕ) → Contains (get_or p.parked k []) q → Contains (get_or parked k []) q
    kept k q i = elim (cases_eq k m) [
      | inl same ↦ subst (λ xs. Contains xs q) (sym (here k same)) (Contains-append_left (get_or p.parked m []) (l ∷ []) q (subst (λ x. Contains (get_or p.parked x []) q) same i))
      | inr ne ↦ subst (λ xs. Contains xs q) (sym (there k ne)) i
    ]

    from : (u : ℕ) × (at leads u ≡ l) × Refers g u w
    from = h.own l w (subst (λ xs. Contains xs w) (sym was) (Contains-push front w))

    own : IsParked g leads p.is_placed.items m l
    own = record {
      within = (waits_behind g leads rest p l h).within;
      lead = (waits_behind g leads rest p l h).lead;
      other = other;
      waits = waits;
      from = from.0;
      to = w;
      inside = from.1;
      refers = from.2;
      is = is;
    }

-- a component that nothing holds up is free
pub freed : (g : Graph) (leads rest : List ℕ) (p : Places) (l : ℕ) (free : List ℕ) → get_or p.targets l [] ≡ [] → free ≡ insert_key nat_cmp p.free l
    → Holds g leads (l ∷ rest) p → Holds g leads rest (record p { free = free })
freed g leads rest p l free done e h = record {
  inside = h.inside;
  are_leads = h.are_leads;
  long_targets = h.long_targets;
  long_parked = h.long_parked;
  long_placed = h.long_placed;
  ahead = h.ahead;
  own = h.own;
  are_pending = λ q i. h.are_pending q (behind l rest q i);
  are_free = λ q i. elim (added_only p.free l q (subst (λ xs. Contains xs q) e i)) [ inl this ↦ subst (IsFree g leads p.is_placed.items) this own | inr old ↦ h.are_free q old ];
  are_parked = h.are_parked;
  each = λ q waiting. elim (h.each q waiting) [
    | inl i ↦ elim (cons_cases l rest q i) [
      | inl this ↦ inr (inl (subst (λ xs. Contains xs q) (sym e) (subst (Contains (insert_key nat_cmp p.free l)) this (added_is p.free l))))
      | inr j ↦ inl j
    ]
    | inr o ↦ elim o [ inl i ↦ inr (inl (subst (λ xs. Contains xs q) (sym e) (added_keeps p.free l q i))) | inr i ↦ inr (inr i) ]
  ];
  closed = h.closed;
  placed = h.placed;
  only = h.only;
  in_turn = h.in_turn;
}
  where
    own : IsFree g leads p.is_placed.items l
    own = record {
      waiting = waits_behind g leads rest p l h;
      behind = λ u w lead r. elim (h.ahead u w r) [
        | inl i ↦ absurd (none w (subst (λ xs. Contains xs w) (ap (λ k. get_or p.targets k []) lead ∙ done) i))
        | inr b ↦ subst (λ k. IsBehind leads p.is_placed.items k w) lead b
      ];
    }

-- a target is a number of the graph, and so is its lead
pub target_within : (g : Graph) (leads rest : List ℕ) (p : Places) (l w : ℕ) → IsLast (get_or p.targets l []) w → Holds g leads (l ∷ rest) p → (w < length leads) × (at leads w < length g)
target_within g leads rest p l w last h =
    let from = h.own l w (subst (λ xs. Contains xs w) (sym last.1) (Contains-push last.0 w)) in
    let inside : w < length g = h.inside from.0 w from.2 in
    let low : at leads w ≤ w = h.are_leads.least w inside in
    (omega (arith, inside, h.are_leads.as_long), omega (arith, inside, low))

-- the list without its last number
pub without_last : (xs front : List ℕ) (w : ℕ) → xs ≡ front ++ w ∷ [] → take (length xs - 1) xs ≡ front
without_last xs front w e = popped_front xs front w (length xs) e refl
