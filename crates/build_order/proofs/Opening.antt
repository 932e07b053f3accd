-- A new number is opened.
use Rattle.std.proofs.Common.{◌≡◌, ◌≢◌, inl, inr, ℕ, ◌<◌, ◌≤◌, List, [], ◌∷◌, ◌++◌, length, get_or, set, sym, ap, ◌∙◌, subst, arith, length-append}
use Rattle.std.specs.List.{Contains}
use Rattle.std.proofs.lemmas.Bool.{cases_eq, cases_lt}
use Rattle.std.proofs.lemmas.List.{length-set, get_or-set_same, get_or-set_other, get_or_append_left, get_or_push}
use Rattle.std.proofs.lemmas.List.Elements.{Contains-append_cases}
use Rattle.build_order.specs.declared.search.Mark.{Mark}
use Rattle.build_order.specs.declared.search.Mark.TheVariants.{New, Open, Closed}
use Rattle.build_order.specs.Orders.{Leads}
use Rattle.build_order.specs.Inside.Graphs.{Graph, Refers, IsWithin}
use Rattle.build_order.specs.Inside.Searches.{Part, members_of, todo_of, mark_at, IsPast, AreOpen, IsUnderWay}
use Rattle.build_order.proofs.Members.{only_one, only_one_is, leads_here, one_step}
use Rattle.build_order.proofs.Parts.{start_within, parts_by, closed_by}

-- the number w gets the mark m
pub marked_here : (marks : List Mark) (w : ℕ) (m : Mark) → w < length marks → mark_at (set marks w m) w ≡ m
marked_here marks w m lt = get_or-set_same marks w m New lt

pub marked_other : (marks : List Mark) (w n : ℕ) (m : Mark) → n ≢ w → mark_at (set marks w m) n ≡ mark_at marks n
marked_other marks w n m ne = get_or-set_other marks w n m New ne

open_here : (marks : List Mark) (members : List ℕ) (w p : ℕ) → w < length marks → mark_at marks w ≡ New → AreOpen marks members
    → p < length (members ++ w ∷ []) → mark_at (set marks w (Open (length members))) (get_or (members ++ w ∷ []) p 0) ≡ Open p
open_here marks members w p lt new o h = elim (cases_lt p (length members)) [
  | inl low ↦ subst (λ n. mark_at (set marks w (Open (length members))) n ≡ Open p) (sym (get_or_append_left members (w ∷ []) 0 p low))
      (marked_other marks w (get_or members p 0) (Open (length members)) (λ e. apart (sym (o.here p low) ∙ ap (mark_at marks) e ∙ new)) ∙ o.here p low)
  | inr high ↦ let e : length members ≡ p = omega (arith, high, h, length-append members (w ∷ [])) in
      subst (λ n. mark_at (set marks w (Open (length members))) n ≡ Open p) (sym (get_or_push members w 0 p e)) (marked_here marks w (Open (length members)) lt ∙ ap Open e)
]
  where
    apart : Open p ≡ New → ⊥
    apart e = cc

open_there : (marks : List Mark) (members : List ℕ) (w n p : ℕ) → w < length marks → AreOpen marks members
    → mark_at (set marks w (Open (length members))) n ≡ Open p → (p < length (members ++ w ∷ [])) × (get_or (members ++ w ∷ []) p 0 ≡ n)
open_there marks members w n p lt o is = elim (cases_eq n w) [
  | inl e ↦ let at : length members ≡ p = same (sym (marked_here marks w (Open (length members)) lt) ∙ ap (mark_at (set marks w (Open (length members)))) (sym e) ∙ is) in
      (omega (arith, at, length-append members (w ∷ [])), get_or_push members w 0 p at ∙ sym e)
  | inr ne ↦ let old = o.there n p (sym (marked_other marks w n (Open (length members)) ne) ∙ is) in
      (omega (arith, old.0, length-append members (w ∷ [])), get_or_append_left members (w ∷ []) 0 p old.0 ∙ old.1)
]
  where
    same : Open (length members) ≡ Open p → length members ≡ p
    same e = cc

pub past_here : (marks : List Mark) (w start at : ℕ) → w < length marks → start ≤ at → IsPast (set marks w (Open at)) start w
past_here marks w start at lt le = record {
  known = λ e. apart (sym (marked_here marks w (Open at) lt) ∙ e);
  from = λ p e. omega (arith, le, same p (sym (marked_here marks w (Open at) lt) ∙ e));
}
  where
    apart : Open at ≡ New → ⊥
    apart e = cc

    same : (p : ℕ) → Open at ≡ Open p → at ≡ p
    same p e = cc

past_still : (marks : List Mark) (w start at b : ℕ) → w < length marks → start ≤ at → IsPast marks start b → IsPast (set marks w (Open at)) start b
past_still marks w start at b lt le h = elim (cases_eq b w) [
  | inl e ↦ subst (IsPast (set marks w (Open at)) start) (sym e) (past_here marks w start at lt le)
  | inr ne ↦ record {
    known = λ e. h.known (sym (marked_other marks w b (Open at) ne) ∙ e);
    from = λ p e. h.from p (sym (marked_other marks w b (Open at) ne) ∙ e);
  }
]

pub opening : (g : Graph) (marks : List Mark) (w : ℕ) (parts : List Part) → IsWithin g → w < length g → mark_at marks w ≡ New
    → ((a : ℕ) → Contains (members_of parts) a → Leads (Refers g) a w) → IsUnderWay g marks (w ∷ []) parts
    → IsUnderWay g (set marks w (Open (length (members_of parts)))) [] (record { members = w ∷ []; todo = get_or g w [] } ∷ parts)
opening g marks w parts inside lt new leads h = record {
  as_long = length-set marks w (Open (length (members_of parts))) ∙ h.as_long;
  within = λ n i. elim (Contains-append_cases (todo_of parts) (get_or g w []) n i) [ inl old ↦ h.within n old | inr own ↦ inside w n own ];
  are_open = record { here = λ p. open_here marks (members_of parts) w p long new h.are_open; there = λ n p. open_there marks (members_of parts) w n p long h.are_open };
  are_parts = (
    record {
      some = (w, only_one_is w);
      together = λ a b i j. subst (λ x. Leads (Refers g) x b) (only_one w a i) (subst (Leads (Refers g) w) (only_one w b j) (leads_here (Refers g) w));
      after = λ a b i j. subst (Leads (Refers g) a) (only_one w b j) (leads a i);
      ahead = λ a b i j. subst (λ x. Leads (Refers g) x b) (only_one w a i) (one_step (Refers g) w b j);
      edges = λ a b i r. inl (subst (λ x. Refers g x b) (sym (only_one w a i)) r);
    },
    parts_by g marks (set marks w (Open (length (members_of parts)))) (w ∷ []) [] parts (λ start b le x. elim x [
      | inl o ↦ inr (subst (IsPast (set marks w (Open (length (members_of parts)))) start) (only_one w b o) (past_here marks w start (length (members_of parts)) long (omega (arith, le, start_within parts))))
      | inr past ↦ inr (past_still marks w start (length (members_of parts)) b long (omega (arith, le, start_within parts)) past)
    ]) h.are_parts,
  );
  are_closed = closed_by g marks (set marks w (Open (length (members_of parts)))) back on h.are_closed;
}
  where
    long : w < length marks
    long = omega (arith, lt, h.as_long)

    open_closed : (l : ℕ) → Open (length (members_of parts)) ≡ Closed l → ⊥
    open_closed l e = cc

    new_closed : (l : ℕ) → New ≡ Closed l → ⊥
    new_closed l e = cc

    back : (n l : ℕ) → mark_at (set marks w (Open (length (members_of parts)))) n ≡ Closed l → mark_at marks n ≡ Closed l
    back n l is = elim (cases_eq n w) [
      | inl e ↦ absurd (open_closed l (sym (marked_here marks w (Open (length (members_of parts))) long) ∙ ap (mark_at (set marks w (Open (length (members_of parts))))) (sym e) ∙ is))
      | inr ne ↦ sym (marked_other marks w n (Open (length (members_of parts))) ne) ∙ is
    ]

    on : (n l : ℕ) → mark_at marks n ≡ Closed l → mark_at (set marks w (Open (length (members_of parts)))) n ≡ Closed l
    on n l is = elim (cases_eq n w) [
      | inl e ↦ absurd (new_closed l (sym new ∙ ap (mark_at marks) (sym e) ∙ is))
      | inr ne ↦ marked_other marks w n (Open (length (members_of parts))) ne ∙ is
    ]
