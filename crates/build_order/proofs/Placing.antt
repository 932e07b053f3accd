-- Components are placed.
use Rattle.std.proofs.Common.{◌≡◌, ◌≢◌, inl, inr, ℕ, zero, suc, ◌+◌, ◌<◌, ◌≤◌, ◌==◌, Bool, true, false, cond, List, [], ◌∷◌, ◌++◌, length, get_or, set, replicate, drop, refl, sym, ap, ◌∙◌, subst, arith, append_assoc, append-nil}
use Rattle.std.specs.List.{Contains}
use Rattle.std.proofs.lemmas.Bool.{cases_eq, cases_lt}
use Rattle.std.proofs.lemmas.List.{length-set, length-replicate, drop_more, get_or-set_same, get_or-set_other, get_or-replicate, get_or_past}
use Rattle.std.proofs.lemmas.List.Sums.{sum_by-set}
use Rattle.std.proofs.lemmas.List.Elements.{Contains-append_left, Contains-push, Contains-push_cases}
use Rattle.build_order.specs.declared.places.Places.{Places}
use Rattle.build_order.specs.Inside.Graphs.{Graph, Refers, IsWithin, AreLeads, at}
use Rattle.build_order.specs.Inside.Groups.{AreTargets}
use Rattle.build_order.specs.Inside.Placings.{Holds, CanPlace, IsBehind, IsWaiting, IsParked, IsFree, IsReady, IsNext, InTurn, is_done, left, one_unless, leads_from}
use Rattle.build_order.proofs.Members.{none, cons_cases, behind, at_front, only_one}
use Rattle.build_order.proofs.Grouping.{set_same, set_other, nothing_at}

done_not : (b : Bool) → b ≡ true → b ≡ false → ⊥
done_not b t f = apart (sym t ∙ f)
  where
    apart : true ≡ false → ⊥
    apart e = cc

-- one fewer is left
pub left_fewer : (placed : List Bool) (l : ℕ) → l < length placed → is_done placed l ≡ false → left (set placed l true) < left placed
left_fewer placed l lt is =
    let sum : left (set placed l true) + one_unless (is_done placed l) ≡ left placed + 0 = sum_by-set one_unless placed l true false lt in
    let one : one_unless (is_done placed l) ≡ 1 = ap one_unless is in
    omega (arith, sum, one)

-- the component is placed, and those that were parked at it are pending
pub placed_on : (g : Graph) (leads : List ℕ) (l : ℕ) (p new : Places) → new.targets ≡ p.targets → new.parked ≡ set p.parked l [] → new.free ≡ p.free
    → new.is_placed.items ≡ set p.is_placed.items l true → new.order.items ≡ p.order.items ++ l ∷ []
    → CanPlace g leads l p → Holds g leads (get_or p.parked l []) new
placed_on g leads l p new et ek ef ed eo can = record {
  inside = h.inside;
  are_leads = h.are_leads;
  long_targets = ap length et ∙ h.long_targets;
  long_parked = ap length ek ∙ length-set p.parked l [] ∙ h.long_parked;
  long_placed = ap length ed ∙ length-set p.is_placed.items l true ∙ h.long_placed;
  ahead = λ u w r. elim (h.ahead u w r) [ inl i ↦ inl (subst (λ ts. Contains (get_or ts (at leads u) []) w) (sym et) i) | inr b ↦ inr (behind_on (at leads u) w b) ];
  own = λ k w i. h.own k w (subst (λ ts. Contains (get_or ts k []) w) et i);
  are_pending = λ q i. let x = h.are_parked l q i in record {
    within = x.within;
    lead = x.lead;
    waits = waits_on q (λ e. x.other (sym e)) (parked_waits q x);
  };
  are_free = λ q i. let old = h.are_free q (subst (λ xs. Contains xs q) ef i) in record {
    waiting = record { within = old.waiting.within; lead = old.waiting.lead; waits = waits_on q (λ e. can.gone (subst (Contains p.free) e (subst (λ xs. Contains xs q) ef i))) old.waiting.waits };
    behind = λ u w lead r. behind_on q w (old.behind u w lead r);
  };
  are_parked = λ m q i. elim (cases_eq m l) [
    | inl same ↦ absurd (none q (subst (λ xs. Contains xs q) (ap (λ x. get_or new.parked x []) same ∙ ap (λ ks. get_or ks l []) ek ∙ set_same p.parked l [] parked_inside) i))
    | inr ne ↦ let x = h.are_parked m q (subst (λ xs. Contains xs q) (ap (λ ks. get_or ks m []) ek ∙ set_other p.parked l m [] ne) i) in record {
      within = x.within;
      lead = x.lead;
      other = x.other;
      waits = waits_on m ne x.waits;
      from = x.from;
      to = x.to;
      inside = x.inside;
      refers = x.refers;
      is = x.is;
    }
  ];
  each = λ q waiting. let old = back q waiting.waits in elim (h.each q (record { within = waiting.within; lead = waiting.lead; waits = old.1 })) [
    | inl i ↦ absurd (old.0 (sym (only_one l q i)))
    | inr o ↦ elim o [
      | inl i ↦ inr (inl (subst (λ xs. Contains xs q) (sym ef) i))
      | inr i ↦ elim (cases_eq i.0 l) [
        | inl same ↦ inl (subst (λ x. Contains (get_or p.parked x []) q) same i.1)
        | inr ne ↦ inr (inr (i.0, subst (λ xs. Contains xs q) (sym (ap (λ ks. get_or ks i.0 []) ek ∙ set_other p.parked l i.0 [] ne)) i.1))
      ]
    ]
  ];
  closed = λ u w r d. elim (cases_eq (at leads u) l) [
    | inl same ↦ elim (can.free.behind u w same r) [ inl inner ↦ done_here (at leads w) inner | inr out ↦ done_on (at leads w) out ]
    | inr ne ↦ done_on (at leads w) (h.closed u w r (sym (other_done (at leads u) ne) ∙ d))
  ];
  placed = λ q d. subst (λ xs. Contains xs q) (sym eo) (elim (cases_eq q l) [
    | inl same ↦ subst (Contains (p.order.items ++ l ∷ [])) (sym same) (Contains-push p.order.items l)
    | inr ne ↦ Contains-append_left p.order.items (l ∷ []) q (h.placed q (sym (other_done q ne) ∙ d))
  ]);
  only = λ q i. elim (Contains-push_cases p.order.items l q (subst (λ xs. Contains xs q) eo i)) [ inl old ↦ done_on q (h.only q old) | inr same ↦ done_here q (sym same) ];
  in_turn = λ ls turn. subst (InTurn g leads []) (sym (ap (λ xs. xs ++ ls) eo ∙ append_assoc p.order.items (l ∷ []) ls)) (h.in_turn (l ∷ ls) (next, subst (λ xs. InTurn g leads xs ls) eo turn));
}
  where
    h : Holds g leads (l ∷ []) p
    h = can.holds

    parked_inside : l < length p.parked
    parked_inside = omega (arith, can.free.waiting.within, h.long_parked)

    done_here : (q : ℕ) → q ≡ l → is_done new.is_placed.items q ≡ true
    done_here q same = ap (is_done new.is_placed.items) same ∙ ap (λ ds. is_done ds l) ed ∙ get_or-set_same p.is_placed.items l true false (omega (arith, can.free.waiting.within, h.long_placed))

    other_done : (q : ℕ) → q ≢ l → is_done new.is_placed.items q ≡ is_done p.is_placed.items q
    other_done q ne = ap (λ ds. is_done ds q) ed ∙ get_or-set_other p.is_placed.items l q true false ne

    done_on : (q : ℕ) → is_done p.is_placed.items q ≡ true → is_done new.is_placed.items q ≡ true
    done_on q d = elim (cases_eq q l) [ inl same ↦ done_here q same | inr ne ↦ other_done q ne ∙ d ]

    waits_on : (q : ℕ) → q ≢ l → is_done p.is_placed.items q ≡ false → is_done new.is_placed.items q ≡ false
    waits_on q ne d = other_done q ne ∙ d

    back : (q : ℕ) → is_done new.is_placed.items q ≡ false → (q ≢ l) × (is_done p.is_placed.items q ≡ false)
    back q d = let ne : q ≢ l = λ same. done_not (is_done new.is_placed.items q) (done_here q same) d in (ne, sym (other_done q ne) ∙ d)

    behind_on : (k w : ℕ) → IsBehind leads p.is_placed.items k w → IsBehind leads new.is_placed.items k w
    behind_on k w b = elim b [ inl inner ↦ inl inner | inr out ↦ inr (done_on (at leads w) out) ]

    parked_waits : (q : ℕ) → IsParked g leads p.is_placed.items l q → is_done p.is_placed.items q ≡ false
    parked_waits q x = by (is_done p.is_placed.items q) refl
      where
        by : (b : Bool) → is_done p.is_placed.items q ≡ b → b ≡ false
        by false e = refl
        by true e = absurd (done_not (is_done p.is_placed.items l) (sym (ap (is_done p.is_placed.items) x.is) ∙ h.closed x.from x.to x.refers (ap (is_done p.is_placed.items) x.inside ∙ e)) x.waits)

    ready : IsReady g leads p.order.items l
    ready = record {
      within = can.free.waiting.within;
      lead = can.free.waiting.lead;
      waits = λ i. done_not (is_done p.is_placed.items l) (h.only l i) can.free.waiting.waits;
      free = λ u w lead r. elim (can.free.behind u w lead r) [ inl inner ↦ inl inner | inr out ↦ inr (h.placed (at leads w) out) ];
    }

    waiting : (m : ℕ) → IsReady g leads p.order.items m → IsWaiting g leads p.is_placed.items m
    waiting m r = record { within = r.within; lead = r.lead; waits = by (is_done p.is_placed.items m) refl }
      where
        by : (b : Bool) → is_done p.is_placed.items m ≡ b → b ≡ false
        by false e = refl
        by true e = absurd (r.waits (h.placed m e))

    least : (m : ℕ) → IsReady g leads p.order.items m → l ≤ m
    least m r = elim (h.each m (waiting m r)) [
      | inl i ↦ let same : l ≡ m = only_one l m i in omega (arith, same)
      | inr o ↦ elim o [
        | inl i ↦ can.least m i
        | inr i ↦ let x = h.are_parked i.0 m i.1 in elim (r.free x.from x.to x.inside x.refers) [
          | inl inner ↦ absurd (x.other (sym x.is ∙ inner))
          | inr out ↦ absurd (done_not (is_done p.is_placed.items i.0) (ap (is_done p.is_placed.items) (sym x.is) ∙ h.only (at leads x.to) out) x.waits)
        ]
      ]
    ]

    next : IsNext g leads p.order.items l
    next = record { ready = ready; least = least }

-- with nothing free and nothing pending, all are placed

all_done : (g : Graph) (leads : List ℕ) (p : Places) (h : Holds g leads [] p) → p.free ≡ [] → (k l : ℕ) → h.are_leads.rank l < k → l < length g → at leads l ≡ l → is_done p.is_placed.items l ≡ true
all_done g leads p h none_free zero l lt within lead = absurd (omega (arith, lt))
all_done g leads p h none_free (suc k) l lt within lead = by (is_done p.is_placed.items l) refl (λ m. all_done g leads p h none_free k m)
  where
    by : (b : Bool) → is_done p.is_placed.items l ≡ b → ((m : ℕ) → h.are_leads.rank m < k → m < length g → at leads m ≡ m → is_done p.is_placed.items m ≡ true) → b ≡ true
    by true e more = refl
    by false e more = elim (h.each l (record { within = within; lead = lead; waits = e })) [
      | inl i ↦ absurd (none l i)
      | inr o ↦ elim o [
        | inl i ↦ absurd (none l (subst (λ xs. Contains xs l) none_free i))
        | inr i ↦ let x = h.are_parked i.0 l i.1 in
            let to : x.to < length g = h.inside x.from x.to x.refers in
            let low : at leads x.to ≤ x.to = h.are_leads.least x.to to in
            let m_in : i.0 < length g = omega (arith, low, to, x.is) in
            let m_lead : at leads i.0 ≡ i.0 = ap (at leads) (sym x.is) ∙ h.are_leads.lead x.to to ∙ x.is in
            elim (h.are_leads.down x.from x.to x.refers) [
              | inl same ↦ absurd (x.other (sym x.is ∙ same ∙ x.inside))
              | inr down ↦ let lower : h.are_leads.rank i.0 < h.are_leads.rank l = subst (λ y. h.are_leads.rank i.0 < h.are_leads.rank y) x.inside (subst (λ y. h.are_leads.rank y < h.are_leads.rank (at leads x.from)) x.is down) in
                  absurd (done_not (is_done p.is_placed.items i.0) (more i.0 (omega (arith, lower, lt)) m_in m_lead) x.waits)
            ]
      ]
    ]

pub all_in_turn : (g : Graph) (leads : List ℕ) (p : Places) → p.free ≡ [] → Holds g leads [] p → InTurn g leads [] p.order.items
all_in_turn g leads p none_free h = subst (InTurn g leads []) (append-nil p.order.items) (h.in_turn [] (λ n lt.
    let low : at leads n ≤ n = h.are_leads.least n lt in
    h.placed (at leads n) (all_done g leads p h none_free (suc (h.are_leads.rank (at leads n))) (at leads n) (omega arith) (omega (arith, low, lt)) (h.are_leads.lead n lt))))

-- what may be placed

pub can_place : (g : Graph) (leads : List ℕ) (p : Places) (l : ℕ) (free : List ℕ) → p.free ≡ l ∷ free → ((m : ℕ) → Contains free m → l < m) → Holds g leads [] p
    → CanPlace g leads l (record p { free = free })
can_place g leads p l free e up h = record {
  holds = record {
    inside = h.inside;
    are_leads = h.are_leads;
    long_targets = h.long_targets;
    long_parked = h.long_parked;
    long_placed = h.long_placed;
    ahead = h.ahead;
    own = h.own;
    are_pending = λ q i. subst (IsWaiting g leads p.is_placed.items) (only_one l q i) own.waiting;
    are_free = λ q i. h.are_free q (subst (λ xs. Contains xs q) (sym e) (behind l free q i));
    are_parked = h.are_parked;
    each = λ q waiting. elim (h.each q waiting) [
      | inl i ↦ absurd (none q i)
      | inr o ↦ elim o [
        | inl i ↦ elim (cons_cases l free q (subst (λ xs. Contains xs q) e i)) [ inl same ↦ inl (subst (Contains (l ∷ [])) same (at_front l [])) | inr j ↦ inr (inl j) ]
        | inr i ↦ inr (inr i)
      ]
    ];
    closed = h.closed;
    placed = h.placed;
    only = h.only;
    in_turn = h.in_turn;
  };
  free = own;
  gone = λ i. let lt : l < l = up l i in omega (arith, lt);
  least = λ m i. let lt : l < m = up m i in omega (arith, lt);
}
  where
    own : IsFree g leads p.is_placed.items l
    own = h.are_free l (subst (λ xs. Contains xs l) (sym e) (at_front l free))

-- the beginning

same_eq : (n m : ℕ) → (n == m) ≡ true → n ≡ m
same_eq n m e = grind arith

eq_same : (n m : ℕ) → n ≡ m → (n == m) ≡ true
eq_same n m e = grind arith

from_all : (i : ℕ) (leads : List ℕ) (k : ℕ) → k < length leads → get_or leads k 0 ≡ i + k → Contains (leads_from i leads) (i + k)
from_all i [] k lt e = absurd (omega (arith, lt))
from_all i (x ∷ xs) zero lt e =
    let is : x ≡ i = omega (arith, e) in
    let same : i ≡ i + 0 = omega arith in
    subst (Contains (leads_from i (x ∷ xs))) same (subst (λ b. Contains (cond b (i ∷ leads_from (i + 1) xs) (leads_from (i + 1) xs)) i) (sym (eq_same x i is)) (at_front i (leads_from (i + 1) xs)))
from_all i (x ∷ xs) (suc k) lt e =
    let here : get_or xs k 0 ≡ i + 1 + k = e ∙ omega arith in
    let same : i + 1 + k ≡ i + suc k = omega arith in
    subst (Contains (leads_from i (x ∷ xs))) same (by (x == i) (from_all (i + 1) xs k (omega (arith, lt)) here))
  where
    by : (b : Bool) → Contains (leads_from (i + 1) xs) (i + 1 + k) → Contains (cond b (i ∷ leads_from (i + 1) xs) (leads_from (i + 1) xs)) (i + 1 + k)
    by true h = behind i (leads_from (i + 1) xs) (i + 1 + k) h
    by false h = h

from_only : (i : ℕ) (leads : List ℕ) (n : ℕ) → Contains (leads_from i leads) n → (k : ℕ) × (k < length leads) × (n ≡ i + k) × (get_or leads k 0 ≡ n)
from_only i [] n h = absurd (none n h)
from_only i (x ∷ xs) n h = by (x == i) refl h (from_only (i + 1) xs n)
  where
    later : (k : ℕ) × (k < length xs) × (n ≡ i + 1 + k) × (get_or xs k 0 ≡ n) → (k : ℕ) × (k < length (x ∷ xs)) × (n ≡ i + k) × (get_or (x ∷ xs) k 0 ≡ n)
    later f = (suc f.0, omega (arith, f.1), omega (arith, f.2), f.3)

    by : (b : Bool) → (x == i) ≡ b → Contains (cond b (i ∷ leads_from (i + 1) xs) (leads_from (i + 1) xs)) n
        → (Contains (leads_from (i + 1) xs) n → (k : ℕ) × (k < length xs) × (n ≡ i + 1 + k) × (get_or xs k 0 ≡ n)) → (k : ℕ) × (k < length (x ∷ xs)) × (n ≡ i + k) × (get_or (x ∷ xs) k 0 ≡ n)
    by true e j more = elim (cons_cases i (leads_from (i + 1) xs) n j) [
      | inl same ↦ (0, omega arith, omega (arith, same), same_eq x i e ∙ same)
      | inr there ↦ later (more there)
    ]
    by false e j more = later (more j)

pub begins : (g : Graph) (leads : List ℕ) (p : Places) → IsWithin g → AreLeads g leads → AreTargets g leads (length leads) p.targets
    → p.parked ≡ replicate (length leads) [] → p.free ≡ [] → p.is_placed.items ≡ replicate (length leads) false → p.order.items ≡ []
    → Holds g leads (leads_from 0 leads) p
begins g leads p inside are targets ek ef ed eo = record {
  inside = inside;
  are_leads = are;
  long_targets = targets.as_long ∙ are.as_long;
  long_parked = ap length ek ∙ length-replicate {A = List ℕ} (length leads) [] ∙ are.as_long;
  long_placed = ap length ed ∙ length-replicate (length leads) false ∙ are.as_long;
  ahead = λ u w r. inl (targets.all u w (omega (arith, from_within u w r, are.as_long)) r);
  own = targets.own;
  are_pending = λ l i. let f = from_only 0 leads l i in record { within = omega (arith, f.1, f.2, are.as_long); lead = ap (at leads) (omega (arith, f.2)) ∙ f.3; waits = not_done l };
  are_free = λ l i. absurd (none l (subst (λ xs. Contains xs l) ef i));
  are_parked = λ m l i. absurd (none l (subst (λ xs. Contains xs l) (ap (λ ks. get_or ks m []) ek ∙ nothing_at (length leads) m) i));
  each = λ l waiting. inl (let same : 0 + l ≡ l = omega arith in subst (Contains (leads_from 0 leads)) same (from_all 0 leads l (omega (arith, waiting.within, are.as_long)) (waiting.lead ∙ sym same)));
  closed = λ u w r d. absurd (done_not (is_done p.is_placed.items (at leads u)) d (not_done (at leads u)));
  placed = λ l d. absurd (done_not (is_done p.is_placed.items l) d (not_done l));
  only = λ l i. absurd (none l (subst (λ xs. Contains xs l) eo i));
  in_turn = λ ls turn. subst (λ xs. InTurn g leads [] (xs ++ ls)) (sym eo) (subst (λ xs. InTurn g leads xs ls) eo turn);
}
  where
    not_done : (l : ℕ) → is_done p.is_placed.items l ≡ false
    not_done l = ap (λ ds. is_done ds l) ed ∙ elim (cases_lt l (length leads)) [
      | inl lt ↦ get_or-replicate (length leads) l false false lt
      | inr le ↦ get_or_past (replicate (length leads) false) l false (omega (arith, le, length-replicate (length leads) false))
    ]

    from_within : (u w : ℕ) → Refers g u w → u < length g
    from_within u w r = elim (cases_lt u (length g)) [ inl lt ↦ lt | inr le ↦ absurd (none w (subst (λ xs. Contains xs w) (get_or_past g u [] le) r)) ]

-- what is pending as the leads are gone through

pub pending_is : (leads : List ℕ) (n : ℕ) → n < length leads → at leads n ≡ n → leads_from n (drop n leads) ≡ n ∷ leads_from (n + 1) (drop (n + 1) leads)
pending_is leads n lt e = ap (leads_from n) (drop_more leads n 0 lt) ∙ ap (λ b. cond b (n ∷ leads_from (n + 1) (drop (n + 1) leads)) (leads_from (n + 1) (drop (n + 1) leads))) (eq_same (at leads n) n e)

pub pending_not : (leads : List ℕ) (n : ℕ) → n < length leads → at leads n ≢ n → leads_from n (drop n leads) ≡ leads_from (n + 1) (drop (n + 1) leads)
pending_not leads n lt ne = ap (leads_from n) (drop_more leads n 0 lt) ∙ ap (λ b. cond b (n ∷ leads_from (n + 1) (drop (n + 1) leads)) (leads_from (n + 1) (drop (n + 1) leads))) (not_eq (at leads n) n ne)
  where
    not_eq : (a b : ℕ) → a ≢ b → (a == b) ≡ false
    not_eq a b other = grind arith

pub turn_within : (g : Graph) (leads done ls : List ℕ) → InTurn g leads done ls → (l : ℕ) → Contains ls l → l < length g
turn_within g leads done [] h l i = absurd (none l i)
turn_within g leads done (k ∷ ls) h l i = elim (cons_cases k ls l i) [ inl e ↦ subst (λ x. x < length g) e h.0.ready.within | inr j ↦ turn_within g leads (done ++ k ∷ []) ls h.1 l j ]
