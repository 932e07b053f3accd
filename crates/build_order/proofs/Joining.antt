-- The two top parts of a search are joined.
use Rattle.std.proofs.Common.{◌≡◌, inl, inr, ℕ, ◌<◌, List, [], ◌∷◌, ◌++◌, length, sym, subst, arith, length-append, append_assoc}
use Rattle.std.specs.List.{Contains}
use Rattle.std.proofs.lemmas.List.Elements.{Contains-append_left, Contains-append_right, Contains-append_cases}
use Rattle.build_order.specs.declared.search.Mark.{Mark}
use Rattle.build_order.specs.declared.search.Mark.TheVariants.{Open}
use Rattle.build_order.specs.Orders.{Leads}
use Rattle.build_order.specs.Inside.Graphs.{Graph, Refers}
use Rattle.build_order.specs.Inside.Searches.{Part, members_of, todo_of, mark_at, IsPart, AreOpen, IsUnderWay}
use Rattle.build_order.proofs.Members.{leads_on}
use Rattle.build_order.proofs.Parts.{past_from, lower_place}

abbrev pub joined : Part → Part → Part
joined lower upper = record { members = lower.members ++ upper.members; todo = lower.todo ++ upper.todo }

pub joined_members : (upper lower : Part) (below : List Part) → members_of (upper ∷ lower ∷ below) ≡ members_of (joined lower upper ∷ below)
joined_members upper lower below = append_assoc (members_of below) lower.members upper.members

pub joined_todo : (upper lower : Part) (below : List Part) → todo_of (upper ∷ lower ∷ below) ≡ todo_of (joined lower upper ∷ below)
joined_todo upper lower below = append_assoc (todo_of below) lower.todo upper.todo

one_part : (g : Graph) (marks : List Mark) (owed : List ℕ) (base : List ℕ) (upper lower : Part) (w : ℕ)
    → IsPart g marks owed (base ++ lower.members) upper → IsPart g marks owed base lower
    → ((a : ℕ) → Contains upper.members a → Leads (Refers g) a w) → Contains (base ++ lower.members) w
    → IsPart g marks owed base (joined lower upper)
one_part g marks owed base upper lower w up low leads is = record {
  some = (low.some.0, Contains-append_left lower.members upper.members low.some.0 low.some.1);
  together = λ a b i j. elim (Contains-append_cases lower.members upper.members a i) [
    | inl al ↦ elim (Contains-append_cases lower.members upper.members b j) [ inl bl ↦ low.together a b al bl | inr bu ↦ rises a b al bu ]
    | inr au ↦ elim (Contains-append_cases lower.members upper.members b j) [ inl bl ↦ falls a b au bl | inr bu ↦ up.together a b au bu ]
  ];
  after = λ a b i j. elim (Contains-append_cases lower.members upper.members b j) [
    | inl bl ↦ low.after a b i bl
    | inr bu ↦ up.after a b (Contains-append_left base lower.members a i) bu
  ];
  ahead = λ a b i j. elim (Contains-append_cases lower.members upper.members a i) [
    | inl al ↦ elim (Contains-append_cases lower.todo upper.todo b j) [
      | inl bl ↦ low.ahead a b al bl
      | inr bu ↦ leads_on (Refers g) a up.some.0 b (rises a up.some.0 al up.some.1) (up.ahead up.some.0 b up.some.1 bu)
    ]
    | inr au ↦ elim (Contains-append_cases lower.todo upper.todo b j) [
      | inl bl ↦ leads_on (Refers g) a low.some.0 b (falls a low.some.0 au low.some.1) (low.ahead low.some.0 b low.some.1 bl)
      | inr bu ↦ up.ahead a b au bu
    ]
  ];
  edges = λ a b i r. elim (Contains-append_cases lower.members upper.members a i) [
    | inl al ↦ elim (low.edges a b al r) [ inl t ↦ inl (Contains-append_left lower.todo upper.todo b t) | inr other ↦ inr other ]
    | inr au ↦ elim (up.edges a b au r) [
      | inl t ↦ inl (Contains-append_right lower.todo upper.todo b t)
      | inr other ↦ elim other [
        | inl o ↦ inr (inl o)
        | inr past ↦ inr (inr (past_from marks (length base) (length (base ++ lower.members)) b (omega (arith, length-append base lower.members)) past))
      ]
    ]
  ];
}
  where
    rises : (a b : ℕ) → Contains lower.members a → Contains upper.members b → Leads (Refers g) a b
    rises a b i j = up.after a b (Contains-append_right base lower.members a i) j

    from_w : (b : ℕ) → Contains lower.members b → Leads (Refers g) w b
    from_w b j = elim (Contains-append_cases base lower.members w is) [ inl x ↦ low.after w b x j | inr x ↦ low.together w b x j ]

    falls : (a b : ℕ) → Contains upper.members a → Contains lower.members b → Leads (Refers g) a b
    falls a b i j = leads_on (Refers g) a w b (leads a i) (from_w b j)

pub joining : (g : Graph) (marks : List Mark) (w p : ℕ) (upper lower : Part) (below : List Part)
    → mark_at marks w ≡ Open p → p < length (members_of (lower ∷ below))
    → ((a : ℕ) → Contains (members_of (upper ∷ lower ∷ below)) a → Leads (Refers g) a w)
    → IsUnderWay g marks (w ∷ []) (upper ∷ lower ∷ below) → IsUnderWay g marks (w ∷ []) (joined lower upper ∷ below)
joining g marks w p upper lower below is lt leads h = record {
  as_long = h.as_long;
  within = λ n i. h.within n (subst (λ xs. Contains xs n) (sym (joined_todo upper lower below)) i);
  are_open = subst (AreOpen marks) (joined_members upper lower below) h.are_open;
  are_parts = (
    one_part g marks (w ∷ []) (members_of below) upper lower w h.are_parts.0 h.are_parts.1.0
        (λ a i. leads a (Contains-append_right (members_of (lower ∷ below)) upper.members a i))
        (lower_place marks (members_of (lower ∷ below)) upper.members w p h.are_open is lt),
    h.are_parts.1.1,
  );
  are_closed = h.are_closed;
}
