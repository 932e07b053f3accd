-- What is left where a pass is let in or taken in.
use Rattle.std.proofs.Common.{◌≡◌, ◌≢◌, ℕ, false, List, [], ◌∷◌, ◌++◌, eqb, refl, sym, ap, ◌∙◌, subst, inl, append-nil, eq-eqb, ne_eqb, if◌then◌else◌}
use Rattle.std.specs.Prelude.{Option, None}
use Rattle.ws_turn.specs.Lists.{StartsWith, longer, of, has, put_before}
use Rattle.ws_turn.specs.Passes.{Known, IsFaithful}
use Rattle.ws_turn.proofs.Lists.{of_append, or_left, eqb_other}
use Rattle.pass_turns.specs.Tokens.{took, gave}
use Rattle.pass_turns.specs.Turns.{shown, LetNobodyIn, TookIn}

-- a token that gave the machine back as it took it
abbrev pub given_back : {E : Type 0} → Known E → Known E
given_back k = record k { joined = []; holds = false }

module _ {E B : Type 0} (by : E → ℕ) (gives : E → Option ℕ) (legal : B → List E → Type 0) where
  -- the machine was given back as it was taken
  pub let_nobody : (lets_in : E → Type 0) (b : B) (k j : Known E) (h : List E) → j ≡ given_back (took k h) → StartsWith h k.seen → legal b h → IsFaithful by j
      → LetNobodyIn by gives lets_in legal b (shown k) (shown j)
  let_nobody lets_in b k j h is begins lawful faithful = record {
    found = h;
    added = [];
    begins = begins;
    at_most_one = inl refl;
    number = ap (λ z. z.number) is;
    seen = ap (λ z. z.seen) is ∙ sym (append-nil h);
    mine = ap (λ z. z.mine) is ∙ sym (append-nil k.mine);
    lost = ap (λ z. z.lost) is ∙ sym (append-nil k.lost);
    legal_seen = subst (legal b) (sym (ap (λ z. z.seen) is)) lawful;
    faithful = record { own = faithful.0; silent = faithful.1 };
  }

  -- a token to which another was joined that held the machine
  abbrev pub both : Known E → Known E → Known E
  both k o = record { number = k.number; seen = longer o.seen k.seen; mine = k.mine; lost = k.lost ++ o.lost; joined = o.number ∷ o.joined; holds = o.holds }

  -- the entry by which the other left isn't the pass's own
  pub not_own : (k o k1 o1 : Known E) (h : List E) (x : E) → o1 ≡ took o h → k1 ≡ both k o1 → has k1.number k1.joined ≡ false → by x ≡ o.number → by x ≢ k.number
  not_own k o k1 o1 h x holding joined apart is same =
      let one = subst (λ z. has z.number z.joined ≡ false) joined apart in
      let other : eqb k.number o1.number ≡ false = or_left (eqb k.number o1.number) (has k.number o1.joined) one in
      eqb_other k.number o1.number other (sym same ∙ (is ∙ sym (ap (λ z. z.number) holding)))

  pub own_then : (k k1 : Known E) (h : List E) (o1 : Known E) → k1 ≡ both k o1 → k1.seen ≡ h → of by k1.number k1.seen ≡ k1.mine → of by k.number h ≡ k.mine
  own_then k k1 h o1 joined is own = subst (λ l. of by k.number l ≡ k.mine) is (ap (λ n. of by n k1.seen) (sym (ap (λ z. z.number) joined)) ∙ (own ∙ ap (λ z. z.mine) joined))

  pub took_in : (left : E → Type 0) (b : B) (k o k1 o1 k2 : Known E) (h xs : List E) (x : E) → o1 ≡ took o h → k1 ≡ both k o1 → k1.seen ≡ h → StartsWith k1.seen k.seen → StartsWith h o.seen
      → of by o.number h ≡ o.mine → xs ≡ h ++ x ∷ [] → by x ≡ o.number → left x → gives x ≡ None → has k1.number k1.joined ≡ false → k2 ≡ gave by gives k1 xs (x ∷ []) → IsFaithful by k2 → legal b xs
      → TookIn by left legal b (shown k) (shown o) (shown k2)
  took_in left b k o k1 o1 k2 h xs x holding joined is begins theirs own list by_it leaves none apart back faithful lawful =
      let not = ap (λ c. if c then x ∷ [] else []) (ne_eqb (by x) k1.number (λ same. not_own k o k1 o1 h x holding joined apart by_it (same ∙ ap (λ z. z.number) joined))) in
      let one = ap (λ c. if c then x ∷ [] else []) (eq-eqb (by x) o.number by_it) in
      let seen : k2.seen ≡ h ++ x ∷ [] = ap (λ z. z.seen) back ∙ list in
      record {
        found = h;
        entry = x;
        begins = subst (λ l. StartsWith l k.seen) is begins;
        other_begins = theirs;
        by_it = by_it;
        leaves = leaves;
        number = ap (λ z. z.number) back ∙ ap (λ z. z.number) joined;
        seen = seen;
        mine = ap (λ z. z.mine) back ∙ (ap (λ l. k1.mine ++ l) not ∙ (append-nil k1.mine ∙ ap (λ z. z.mine) joined));
        lost = ap (λ z. z.lost) back ∙ (ap (λ g. k1.lost ++ put_before g []) none ∙ (append-nil k1.lost ∙ (ap (λ z. z.lost) joined ∙ ap (λ z. k.lost ++ z.lost) holding)));
        theirs = ap (of by o.number) seen ∙ (of_append by o.number h (x ∷ []) ∙ (ap (λ l. l ++ of by o.number (x ∷ [])) own ∙ ap (λ l. o.mine ++ l) one));
        legal_seen = subst (legal b) (sym (ap (λ z. z.seen) back)) lawful;
        faithful = record { own = faithful.0; silent = faithful.1 };
      }
