-- What a search that has met all numbers tells.
use Rattle.std.proofs.Common.{◌≡◌, inl, inr, ℕ, ◌<◌, ◌≤◌, List, [], length, map, refl, sym, ap, ◌∙◌, subst, arith}
use Rattle.std.specs.List.{Contains}
use Rattle.std.proofs.lemmas.Bool.{cases_lt}
use Rattle.std.proofs.lemmas.List.{get_or-map, get_or_past, length-map}
use Rattle.build_order.specs.declared.search.Mark.{Mark}
use Rattle.build_order.specs.declared.search.Mark.TheVariants.{New, Open, Closed}
use Rattle.build_order.specs.Inside.Graphs.{Graph, Refers, IsWithin, AreLeads, at}
use Rattle.build_order.specs.declared.search.Search.{Search}
use Rattle.build_order.specs.Inside.Searches.{mark_at, IsKnown, IsUnderWay, Stands, lead_of}
use Rattle.build_order.proofs.Members.{none}
use Rattle.build_order.proofs.Steps.{no_parts}

pub leads_are : (g : Graph) (marks : List Mark) → IsWithin g → IsUnderWay g marks [] [] → ((a : ℕ) → a < length g → IsKnown marks a) → AreLeads g (map lead_of marks)
leads_are g marks inside h known = record {
  as_long = length-map marks lead_of ∙ h.as_long;
  least = λ a lt. let c = closed a lt in subst (λ l. l ≤ a) (sym (lead_is a c.0 lt c.1)) (h.are_closed.least a c.0 c.1);
  lead = λ a lt. let c = closed a lt in
      ap (at (map lead_of marks)) (lead_is a c.0 lt c.1) ∙ lead_is c.0 c.0 (within c.0 c.0 (h.are_closed.lead a c.0 c.1)) (h.are_closed.lead a c.0 c.1) ∙ sym (lead_is a c.0 lt c.1);
  together = λ a b la lb same. let c = closed a la in let d = closed b lb in
      h.are_closed.together a b c.0 c.1 (d.1 ∙ ap Closed (sym (lead_is b d.0 lb d.1) ∙ sym same ∙ lead_is a c.0 la c.1));
  rank = h.are_closed.rank;
  down = λ a b r.
      let la : a < length g = from_within a b r in let lb : b < length g = inside a b r in
      let c = closed a la in let d = h.are_closed.down a b c.0 c.1 r in
      elim d.2 [
        | inl same ↦ inl (lead_is b d.0 lb d.1 ∙ same ∙ sym (lead_is a c.0 la c.1))
        | inr lt ↦ inr (subst (λ x. h.are_closed.rank x < h.are_closed.rank (at (map lead_of marks) a)) (sym (lead_is b d.0 lb d.1)) (subst (λ y. h.are_closed.rank d.0 < h.are_closed.rank y) (sym (lead_is a c.0 la c.1)) lt))
      ];
}
  where
    by_mark : (a : ℕ) → a < length g → (m : Mark) → mark_at marks a ≡ m → (l : ℕ) × (mark_at marks a ≡ Closed l)
    by_mark a lt New e = absurd (known a lt e)
    by_mark a lt (Open p) e = absurd (omega (arith, (h.are_open.there a p e).0))
    by_mark a lt (Closed l) e = (l, e)

    closed : (a : ℕ) → a < length g → (l : ℕ) × (mark_at marks a ≡ Closed l)
    closed a lt = by_mark a lt (mark_at marks a) refl

    lead_is : (a l : ℕ) → a < length g → mark_at marks a ≡ Closed l → at (map lead_of marks) a ≡ l
    lead_is a l lt e = get_or-map lead_of marks a New 0 (omega (arith, lt, h.as_long)) ∙ ap lead_of e

    apart : (l : ℕ) → New ≡ Closed l → ⊥
    apart l e = cc

    within : (a l : ℕ) → mark_at marks a ≡ Closed l → a < length g
    within a l e = elim (cases_lt a (length marks)) [
      | inl lt ↦ omega (arith, lt, h.as_long)
      | inr le ↦ absurd (apart l (sym (get_or_past marks a New le) ∙ e))
    ]

    from_within : (a b : ℕ) → Refers g a b → a < length g
    from_within a b r = elim (cases_lt a (length g)) [
      | inl lt ↦ lt
      | inr le ↦ absurd (none b (subst (λ xs. Contains xs b) (get_or_past g a [] le) r))
    ]

pub leads_told : (g : Graph) (s : Search) (leads : List ℕ) → IsWithin g → Stands g [] s → s.frames.items ≡ [] → ((a : ℕ) → a < length g → IsKnown s.marks.items a) → leads ≡ map lead_of s.marks.items → AreLeads g leads
leads_told g s leads inside h rests known is =
    subst (AreLeads g) (sym is) (leads_are g s.marks.items inside (subst (IsUnderWay g s.marks.items []) (no_parts h.parts (sym rests ∙ h.frames)) h.under_way) known)
