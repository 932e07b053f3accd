-- The tests of references say where references lead.
use Rattle.std.proofs.Common.{◌≡◌, inl, inr, ℕ, true, ◌&&◌, List, [], ◌∷◌, refl, sym, subst}
use Rattle.std.specs.List.{Contains, list_any}
use Rattle.std.specs.Str.{bytes_eq}
use Rattle.std.specs.Cmp.Lexicographic.{bytes_decides}
use Rattle.std.proofs.lemmas.Bool.{or_cases, or_left, or_right, and_from, and_parts}
use Rattle.res_path.specs.Paths.{Names}
use Rattle.build_order.specs.Orders.{Projects, Refers, IsWay, Leads}
use Rattle.build_order.proofs.Members.{none, cons_cases, leads_on, leads_here, one_step}
use Rattle.build_plan.specs.Ordered.{names_of, is_among, refers_to, leads_through, leads_to}
use Rattle.build_plan.proofs.Listed.{any_has, has_any, is_one, one_is}

same_name : (a b : List ℕ) → bytes_eq a b ≡ true → a ≡ b
same_name a b h = (bytes_decides a b).0 h

module _ (ps : Projects) where
  pub refers_true : (a b : List ℕ) → refers_to ps a b ≡ true → Refers ps a b
  refers_true a b h =
      let parts = and_parts (is_among (names_of ps) b) (list_any (λ p. bytes_eq a p.0 && is_among p.1 b) ps) h in
      let p = has_any (λ p. bytes_eq a p.0 && is_among p.1 b) ps parts.1 in
      let says = and_parts (bytes_eq a p.0.0) (is_among p.0.1 b) p.2 in
      record {
        references = p.0.1;
        here = subst (λ x. Contains ps (x, p.0.1)) (sym (same_name a p.0.0 says.0)) p.1;
        there = is_one p.0.1 b says.1;
        project = is_one (names_of ps) b parts.0;
      }

  pub true_refers : (a b : List ℕ) → Refers ps a b → refers_to ps a b ≡ true
  true_refers a b r = and_from (is_among (names_of ps) b) (list_any (λ p. bytes_eq a p.0 && is_among p.1 b) ps) (one_is (names_of ps) b r.project)
      (any_has (λ p. bytes_eq a p.0 && is_among p.1 b) ps (a, r.references) r.here (and_from (bytes_eq a a) (is_among r.references b) ((bytes_decides a a).1 refl) (one_is r.references b r.there)))

  through_true : (ms : Names) (a b : List ℕ) → leads_through ps ms a b ≡ true → Leads (Refers ps) a b
  through_true [] a b h = elim (or_cases (bytes_eq a b) (refers_to ps a b) h) [
    | inl same ↦ subst (Leads (Refers ps) a) (same_name a b same) (leads_here (Refers ps) a)
    | inr step ↦ one_step (Refers ps) a b (refers_true a b step)
  ]
  through_true (m ∷ ms) a b h = elim (or_cases (leads_through ps ms a b) (leads_through ps ms a m && leads_through ps ms m b) h) [
    | inl past ↦ through_true ms a b past
    | inr by ↦ let parts = and_parts (leads_through ps ms a m) (leads_through ps ms m b) by in leads_on (Refers ps) a m b (through_true ms a m parts.0) (through_true ms m b parts.1)
  ]

  pub leads_true : (a b : List ℕ) → leads_to ps a b ≡ true → Leads (Refers ps) a b
  leads_true a b h = through_true (names_of ps) a b h

  itself : (ms : Names) (a : List ℕ) → leads_through ps ms a a ≡ true
  itself [] a = or_left (bytes_eq a a) (refers_to ps a a) ((bytes_decides a a).1 refl)
  itself (m ∷ ms) a = or_left (leads_through ps ms a a) (leads_through ps ms a m && leads_through ps ms m a) (itself ms a)

  one : (ms : Names) (a b : List ℕ) → refers_to ps a b ≡ true → leads_through ps ms a b ≡ true
  one [] a b h = or_right (bytes_eq a b) (refers_to ps a b) h
  one (m ∷ ms) a b h = or_left (leads_through ps ms a b) (leads_through ps ms a m && leads_through ps ms m b) (one ms a b h)

  -- one step more, to one of the projects through which it may lead
  one_more : (ms : Names) (a c b : List ℕ) → refers_to ps a c ≡ true → Contains ms c → leads_through ps ms c b ≡ true → leads_through ps ms a b ≡ true
  one_more [] a c b step i h = absurd (none c i)
  one_more (m ∷ ms) a c b step i h = elim (cons_cases m ms c i) [
    | inl same ↦ by_m (subst (λ x. refers_to ps a x ≡ true) (sym same) step)
        (elim (or_cases (leads_through ps ms m b) (leads_through ps ms m m && leads_through ps ms m b) (subst (λ x. leads_through ps (m ∷ ms) x b ≡ true) (sym same) h)) [
          | inl on ↦ on
          | inr round ↦ (and_parts (leads_through ps ms m m) (leads_through ps ms m b) round).1
        ])
    | inr later ↦ elim (or_cases (leads_through ps ms c b) (leads_through ps ms c m && leads_through ps ms m b) h) [
      | inl past ↦ or_left (leads_through ps ms a b) (leads_through ps ms a m && leads_through ps ms m b) (one_more ms a c b step later past)
      | inr by ↦ let parts = and_parts (leads_through ps ms c m) (leads_through ps ms m b) by in
          through_m (one_more ms a c m step later parts.0) parts.1
    ]
  ]
    where
      through_m : leads_through ps ms a m ≡ true → leads_through ps ms m b ≡ true → leads_through ps (m ∷ ms) a b ≡ true
      through_m to from = or_right (leads_through ps ms a b) (leads_through ps ms a m && leads_through ps ms m b) (and_from (leads_through ps ms a m) (leads_through ps ms m b) to from)

      by_m : refers_to ps a m ≡ true → leads_through ps ms m b ≡ true → leads_through ps (m ∷ ms) a b ≡ true
      by_m to from = through_m (one ms a m to) from

  way_leads : (ms : Names) (a b : List ℕ) → IsWay (Refers ps) a ms b → leads_to ps a b ≡ true
  way_leads [] a b w = subst (λ x. leads_to ps a x ≡ true) w (itself (names_of ps) a)
  way_leads (m ∷ ms) a b w = one_more (names_of ps) a m b (true_refers a m w.0) w.0.project (way_leads ms m b w.1)

  pub true_leads : (a b : List ℕ) → Leads (Refers ps) a b → leads_to ps a b ≡ true
  true_leads a b h = way_leads h.0 a b h.1
