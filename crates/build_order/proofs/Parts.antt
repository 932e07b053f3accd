-- The parts of a search, as marks change.
use Rattle.std.proofs.Common.{◌≡◌, ◌⊎◌, inl, inr, ℕ, ◌+◌, ◌-◌, ◌<◌, ◌≤◌, List, [], ◌∷◌, ◌++◌, length, refl, sym, ◌∙◌, subst, arith, length-append}
use Rattle.std.specs.List.{Contains}
use Rattle.std.proofs.lemmas.List.{get_or_default, get_or_append_left, get_or-append_right, get_or-append-add}
use Rattle.std.proofs.lemmas.List.Elements.{Contains-append_left, Contains-append_right, Contains-append_cases, Contains-push}
use Rattle.build_order.specs.declared.search.Mark.{Mark}
use Rattle.build_order.specs.declared.search.Mark.TheVariants.{Open, Closed}
use Rattle.build_order.specs.Orders.{Leads}
use Rattle.build_order.specs.Inside.Graphs.{Graph, Refers}
use Rattle.build_order.specs.Inside.Searches.{Part, members_of, todo_of, mark_at, IsPast, AreParts, AreOpen, AreClosed, IsUnderWay}
use Rattle.build_order.proofs.Members.{none, only_one, leads_on}

-- where the top part begins
abbrev pub start_of : List Part → ℕ
start_of [] = 0
start_of (p ∷ below) = length (members_of below)

pub start_within : (parts : List Part) → start_of parts ≤ length (members_of parts)
start_within [] = omega arith
start_within (p ∷ below) = omega (arith, length-append (members_of below) p.members)

pub past_from : (marks : List Mark) (start more n : ℕ) → start ≤ more → IsPast marks more n → IsPast marks start n
past_from marks start more n le h = record { known = h.known; from = λ p is. omega (arith, le, h.from p is) }

-- what each part says of the numbers to which it refers, said anew
pub parts_by : (g : Graph) (marks new : List Mark) (owed later : List ℕ) (parts : List Part)
    → ((start b : ℕ) → start ≤ start_of parts → Contains owed b ⊎ IsPast marks start b → Contains later b ⊎ IsPast new start b)
    → AreParts g marks owed parts → AreParts g new later parts
parts_by g marks new owed later [] f h = tt
parts_by g marks new owed later (p ∷ below) f h = (
  record {
    some = h.0.some;
    together = h.0.together;
    after = h.0.after;
    ahead = h.0.ahead;
    edges = λ a b i r. elim (h.0.edges a b i r) [
      | inl todo ↦ inl todo
      | inr other ↦ inr (f (length (members_of below)) b (omega arith) other)
    ];
  },
  parts_by g marks new owed later below (λ start b le x. f start b (omega (arith, le, start_within below)) x) h.1,
)

-- the closed numbers are the same
pub closed_by : (g : Graph) (marks new : List Mark) → ((n l : ℕ) → mark_at new n ≡ Closed l → mark_at marks n ≡ Closed l) → ((n l : ℕ) → mark_at marks n ≡ Closed l → mark_at new n ≡ Closed l)
    → AreClosed g marks → AreClosed g new
closed_by g marks new back on h = record {
  rank = h.rank;
  top = h.top;
  least = λ a l is. h.least a l (back a l is);
  lead = λ a l is. on l l (h.lead a l (back a l is));
  below = λ a l is. h.below a l (back a l is);
  together = λ a b l i j. h.together a b l (back a l i) (back b l j);
  down = λ a b l is r. let d = h.down a b l (back a l is) r in (d.0, on b d.0 d.1, d.2);
}

pub opened : (marks : List Mark) (members : List ℕ) (n : ℕ) → AreOpen marks members → (h : Contains members n) → mark_at marks n ≡ Open h.0
opened marks members n o h = subst (λ x. mark_at marks x ≡ Open h.0) (get_or_default members h.0 0 n h.1 ∙ h.2) (o.here h.0 h.1)

pub lower_place : (marks : List Mark) (lower more : List ℕ) (n p : ℕ) → AreOpen marks (lower ++ more) → mark_at marks n ≡ Open p → p < length lower → Contains lower n
lower_place marks lower more n p o is lt = (p, lt, sym (get_or_append_left lower more n p lt) ∙ get_or_default (lower ++ more) p n 0 (o.there n p is).0 ∙ (o.there n p is).1)

pub upper_place : (marks : List Mark) (lower more : List ℕ) (n p : ℕ) → AreOpen marks (lower ++ more) → mark_at marks n ≡ Open p → length lower ≤ p → Contains more n
upper_place marks lower more n p o is le = (p - length lower, omega (arith, le, (o.there n p is).0, length-append lower more), sym (get_or-append_right lower more (length lower) p n refl le) ∙ get_or_default (lower ++ more) p n 0 (o.there n p is).0 ∙ (o.there n p is).1)

pub upper_open : (marks : List Mark) (lower more : List ℕ) (n : ℕ) → AreOpen marks (lower ++ more) → (h : Contains more n) → mark_at marks n ≡ Open (length lower + h.0)
upper_open marks lower more n o h = opened marks (lower ++ more) n o (length lower + h.0, omega (arith, length-append lower more, h.1), get_or-append-add lower more h.0 n ∙ h.2)

-- what is still to meet is met next
pub popped : (g : Graph) (marks : List Mark) (members todo : List ℕ) (w : ℕ) (below : List Part)
    → IsUnderWay g marks [] (record { members = members; todo = todo ++ w ∷ [] } ∷ below) → IsUnderWay g marks (w ∷ []) (record { members = members; todo = todo } ∷ below)
popped g marks members todo w below h = record {
  as_long = h.as_long;
  within = λ n i. elim (Contains-append_cases (todo_of below) todo n i) [
    | inl a ↦ h.within n (Contains-append_left (todo_of below) (todo ++ w ∷ []) n a)
    | inr b ↦ h.within n (Contains-append_right (todo_of below) (todo ++ w ∷ []) n (Contains-append_left todo (w ∷ []) n b))
  ];
  are_open = h.are_open;
  are_parts = (
    record {
      some = h.are_parts.0.some;
      together = h.are_parts.0.together;
      after = h.are_parts.0.after;
      ahead = λ a b i j. h.are_parts.0.ahead a b i (Contains-append_left todo (w ∷ []) b j);
      edges = λ a b i r. elim (h.are_parts.0.edges a b i r) [
        | inl j ↦ elim (Contains-append_cases todo (w ∷ []) b j) [ inl t ↦ inl t | inr x ↦ inr (inl x) ]
        | inr o ↦ elim o [ inl n ↦ absurd (none b n) | inr past ↦ inr (inr past) ]
      ];
    },
    parts_by g marks marks [] (w ∷ []) below (λ start b le x. elim x [ inl n ↦ absurd (none b n) | inr past ↦ inr past ]) h.are_parts.1,
  );
  are_closed = h.are_closed;
}

pub popped_leads : (g : Graph) (marks : List Mark) (members todo : List ℕ) (w : ℕ) (below : List Part)
    → IsUnderWay g marks [] (record { members = members; todo = todo ++ w ∷ [] } ∷ below) → (a : ℕ) → Contains (members_of below ++ members) a → Leads (Refers g) a w
popped_leads g marks members todo w below h a i = elim (Contains-append_cases (members_of below) members a i) [
  | inl low ↦ leads_on (Refers g) a h.are_parts.0.some.0 w (h.are_parts.0.after a h.are_parts.0.some.0 low h.are_parts.0.some.1) (h.are_parts.0.ahead h.are_parts.0.some.0 w h.are_parts.0.some.1 (Contains-push todo w))
  | inr own ↦ h.are_parts.0.ahead a w own (Contains-push todo w)
]

-- what was met is met
pub met : (g : Graph) (marks : List Mark) (w : ℕ) (parts : List Part) → IsPast marks (start_of parts) w → IsUnderWay g marks (w ∷ []) parts → IsUnderWay g marks [] parts
met g marks w parts past h = record {
  as_long = h.as_long;
  within = h.within;
  are_open = h.are_open;
  are_parts = parts_by g marks marks (w ∷ []) [] parts (λ start b le x. elim x [
    | inl o ↦ inr (subst (IsPast marks start) (only_one w b o) (past_from marks start (start_of parts) w le past))
    | inr p ↦ inr p
  ]) h.are_parts;
  are_closed = h.are_closed;
}
