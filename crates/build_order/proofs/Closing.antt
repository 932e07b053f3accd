-- The top part of a search, with nothing to meet, is closed as a component.
use Rattle.std.proofs.Common.{◌≡◌, ◌≢◌, ◌⊎◌, inl, inr, ℕ, ◌+◌, ◌<◌, ◌≤◌, ◌==◌, cond, List, [], ◌∷◌, length, get_or, refl, sym, ◌∙◌, subst, arith, length-append}
use Rattle.std.specs.List.{Contains}
use Rattle.std.proofs.lemmas.Bool.{cases_lt}
use Rattle.std.proofs.lemmas.List.{get_or_append_left}
use Rattle.std.proofs.lemmas.List.Elements.{Contains-append_left}
use Rattle.build_order.specs.declared.search.Mark.{Mark}
use Rattle.build_order.specs.declared.search.Mark.TheVariants.{New, Open, Closed}
use Rattle.build_order.specs.Inside.Graphs.{Graph, Refers}
use Rattle.build_order.specs.Inside.Searches.{Part, members_of, todo_of, mark_at, IsPast, IsUnderWay, AreMarked}
use Rattle.build_order.proofs.Members.{none}
use Rattle.build_order.proofs.Parts.{parts_by, upper_open, upper_place}

pub open_not_closed : (m : Mark) (p l : ℕ) → m ≡ Open p → m ≡ Closed l → ⊥
open_not_closed m p l e f = apart (sym e ∙ f)
  where
    apart : Open p ≡ Closed l → ⊥
    apart x = cc

pub new_not_closed : (m : Mark) (l : ℕ) → m ≡ New → m ≡ Closed l → ⊥
new_not_closed m l e f = apart (sym e ∙ f)
  where
    apart : New ≡ Closed l → ⊥
    apart x = cc

same_open : (m : Mark) (p q : ℕ) → m ≡ Open p → m ≡ Open q → p ≡ q
same_open m p q e f = same (sym e ∙ f)
  where
    same : Open p ≡ Open q → p ≡ q
    same x = cc

same_closed : (m : Mark) (p q : ℕ) → m ≡ Closed p → m ≡ Closed q → p ≡ q
same_closed m p q e f = same (sym e ∙ f)
  where
    same : Closed p ≡ Closed q → p ≡ q
    same x = cc

-- the rank of a lead, where l is a new one
abbrev pub rank_with : (ℕ → ℕ) → ℕ → ℕ → ℕ → ℕ
rank_with rank top l n = cond (n == l) top (rank n)

rank_new : (rank : ℕ → ℕ) (top l : ℕ) → rank_with rank top l l ≡ top
rank_new rank top l = grind arith

rank_old : (rank : ℕ → ℕ) (top l n : ℕ) → n ≢ l → rank_with rank top l n ≡ rank n
rank_old rank top l n ne = grind arith

pub closing : (g : Graph) (marks new : List Mark) (part : Part) (below : List Part) (l : ℕ)
    → part.todo ≡ [] → Contains part.members l → ((a : ℕ) → Contains part.members a → l ≤ a)
    → length new ≡ length marks → AreMarked part.members (Closed l) marks new
    → IsUnderWay g marks [] (part ∷ below) → IsUnderWay g new [] below
closing g marks new part below l done is least long marked h = record {
  as_long = long ∙ h.as_long;
  within = λ n i. h.within n (Contains-append_left (todo_of below) part.todo n i);
  are_open = record { here = here; there = there };
  are_parts = parts_by g marks new [] [] below (λ start b le x. elim x [ inl n ↦ absurd (none b n) | inr past ↦ inr (still start b past) ]) h.are_parts.1;
  are_closed = record {
    rank = rank;
    top = h.are_closed.top + 1;
    least = λ a k e. elim (marked a) [
      | inl m ↦ subst (λ x. x ≤ a) (same_closed (mark_at new a) l k m.1 e) (least a m.0)
      | inr o ↦ h.are_closed.least a k (sym o.1 ∙ e)
    ];
    lead = λ a k e. elim (marked a) [
      | inl m ↦ subst (λ x. mark_at new x ≡ Closed x) (same_closed (mark_at new a) l k m.1 e) (made l is)
      | inr o ↦ kept k (old k k (h.are_closed.lead a k (sym o.1 ∙ e))) ∙ h.are_closed.lead a k (sym o.1 ∙ e)
    ];
    below = λ a k e. elim (marked a) [
      | inl m ↦ subst (λ x. rank x < h.are_closed.top + 1) (same_closed (mark_at new a) l k m.1 e) (omega (arith, rank_new h.are_closed.rank h.are_closed.top l))
      | inr o ↦ omega (arith, rank_old h.are_closed.rank h.are_closed.top l k (not_lead a k (sym o.1 ∙ e)), h.are_closed.below a k (sym o.1 ∙ e))
    ];
    together = λ a b k e f. elim (marked a) [
      | inl m ↦ elim (marked b) [
        | inl n ↦ h.are_parts.0.together a b m.0 n.0
        | inr o ↦ absurd (not_lead b k (sym o.1 ∙ f) (sym (same_closed (mark_at new a) l k m.1 e)))
      ]
      | inr m ↦ elim (marked b) [
        | inl n ↦ absurd (not_lead a k (sym m.1 ∙ e) (sym (same_closed (mark_at new b) l k n.1 f)))
        | inr o ↦ h.are_closed.together a b k (sym m.1 ∙ e) (sym o.1 ∙ f)
      ]
    ];
    down = λ a b k e r. elim (marked a) [
      | inl m ↦ own a b k m.0 (same_closed (mark_at new a) l k m.1 e) r
      | inr o ↦ other a b k (sym o.1 ∙ e) r
    ];
  };
}
  where
    rank : ℕ → ℕ
    rank = rank_with h.are_closed.rank h.are_closed.top l

    open_at : (n : ℕ) (i : Contains part.members n) → mark_at marks n ≡ Open (length (members_of below) + i.0)
    open_at n i = upper_open marks (members_of below) part.members n h.are_open i

    kept : (n : ℕ) → (Contains part.members n → ⊥) → mark_at new n ≡ mark_at marks n
    kept n out = elim (marked n) [ inl a ↦ absurd (out a.0) | inr b ↦ b.1 ]

    made : (n : ℕ) → Contains part.members n → mark_at new n ≡ Closed l
    made n i = elim (marked n) [ inl a ↦ a.1 | inr b ↦ absurd (b.0 i) ]

    old : (n k : ℕ) → mark_at marks n ≡ Closed k → Contains part.members n → ⊥
    old n k e i = open_not_closed (mark_at marks n) (length (members_of below) + i.0) k (open_at n i) e

    not_lead : (a k : ℕ) → mark_at marks a ≡ Closed k → k ≢ l
    not_lead a k e same = old k k (h.are_closed.lead a k e) (subst (Contains part.members) (sym same) is)

    before : (p : ℕ) → p < length (members_of below) → mark_at marks (get_or (members_of below) p 0) ≡ Open p
    before p lt = subst (λ x. mark_at marks x ≡ Open p) (get_or_append_left (members_of below) part.members 0 p lt) (h.are_open.here p (omega (arith, lt, length-append (members_of below) part.members)))

    here : (p : ℕ) → p < length (members_of below) → mark_at new (get_or (members_of below) p 0) ≡ Open p
    here p lt = kept (get_or (members_of below) p 0) (λ i.
        let same : length (members_of below) + i.0 ≡ p = same_open (mark_at marks (get_or (members_of below) p 0)) (length (members_of below) + i.0) p (open_at (get_or (members_of below) p 0) i) (before p lt) in
        omega (arith, lt, same)) ∙ before p lt

    there : (n p : ℕ) → mark_at new n ≡ Open p → (p < length (members_of below)) × (get_or (members_of below) p 0 ≡ n)
    there n p e = elim (marked n) [
      | inl a ↦ absurd (open_not_closed (mark_at new n) p l e a.1)
      | inr b ↦ elim (cases_lt p (length (members_of below))) [
        | inl low ↦ (low, sym (get_or_append_left (members_of below) part.members 0 p low) ∙ (h.are_open.there n p (sym b.1 ∙ e)).1)
        | inr high ↦ absurd (b.0 (upper_place marks (members_of below) part.members n p h.are_open (sym b.1 ∙ e) high))
      ]
    ]

    still : (start b : ℕ) → IsPast marks start b → IsPast new start b
    still start b past = elim (marked b) [
      | inl a ↦ record { known = λ e. new_not_closed (mark_at new b) l e a.1; from = λ p e. absurd (open_not_closed (mark_at new b) p l e a.1) }
      | inr k ↦ record { known = λ e. past.known (sym k.1 ∙ e); from = λ p e. past.from p (sym k.1 ∙ e) }
    ]

    lower_rank : (j : ℕ) → j ≢ l → h.are_closed.rank j < h.are_closed.top → rank j < rank l
    lower_rank j ne lt = omega (arith, lt, rank_new h.are_closed.rank h.are_closed.top l, rank_old h.are_closed.rank h.are_closed.top l j ne)

    by_mark : (b k : ℕ) → l ≡ k → IsPast marks (length (members_of below)) b → (m : Mark) → mark_at marks b ≡ m → (j : ℕ) × (mark_at new b ≡ Closed j) × ((j ≡ k) ⊎ (rank j < rank k))
    by_mark b k same past New e = absurd (past.known e)
    by_mark b k same past (Open p) e = (l, made b (upper_place marks (members_of below) part.members b p h.are_open e (past.from p e)), inl same)
    by_mark b k same past (Closed j) e = (j, kept b (old b j e) ∙ e, inr (subst (λ x. rank j < rank x) same (lower_rank j (not_lead b j e) (h.are_closed.below b j e))))

    own : (a b k : ℕ) → Contains part.members a → l ≡ k → Refers g a b → (j : ℕ) × (mark_at new b ≡ Closed j) × ((j ≡ k) ⊎ (rank j < rank k))
    own a b k i same r = elim (h.are_parts.0.edges a b i r) [
      | inl t ↦ absurd (none b (subst (λ xs. Contains xs b) done t))
      | inr o ↦ elim o [ inl n ↦ absurd (none b n) | inr past ↦ by_mark b k same past (mark_at marks b) refl ]
    ]

    other : (a b k : ℕ) → mark_at marks a ≡ Closed k → Refers g a b → (j : ℕ) × (mark_at new b ≡ Closed j) × ((j ≡ k) ⊎ (rank j < rank k))
    other a b k e r =
        let d = h.are_closed.down a b k e r in (
          d.0,
          kept b (old b d.0 d.1) ∙ d.1,
          elim d.2 [
            | inl same ↦ inl same
            | inr lt ↦ inr (omega (arith, lt, rank_old h.are_closed.rank h.are_closed.top l d.0 (not_lead b d.0 d.1), rank_old h.are_closed.rank h.are_closed.top l k (not_lead a k e)))
          ],
        )
