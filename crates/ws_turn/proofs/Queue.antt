-- A ticket is drawn, a look is taken at the serving word, and the next ticket is served: each keeps the rule.
use Rattle.std.proofs.Common.{◌≡◌, ◌≢◌, ◌+◌, ◌%◌, ◌^◌, ◌<◌, ℕ, suc, true, false, eqb, List, [], ◌∷◌, Option, Some, None, get_or, sym, refl, ap, ◌∙◌, subst, ⊎_elim, inl, inr, arith, length-set, get_or-set_same, get_or-set_other, eq-eqb, ne_eqb, cond, add-one, true≢false, slice_index}
use mathlib.Core.Logic.{dite}
use mathlib.Core.Option.{some, none}
use Rattle.std.proofs.Math.Nat.{mod-add-mod}
use native.Mathlib.Decide.{ℕ_discrete}
use lib.ListN.{get_elem?}
use lib.Seq.{set-get_or}
use Rattle.atomic_table.specs.Table.{State, Me, step, Act, keeps, takes, gives, stepped, Allows, Valid, carried_after, put_back, rest}
use Rattle.atomic_table.proofs.Lists.{set_here, set_again, one_turn}
use Rattle.ws_turn.specs.declared.view.View.{View}
use Rattle.ws_turn.specs.Lists.{StartsWith, of, has, HasNoneOf}
use Rattle.ws_turn.specs.Inside.Turn.{Fate, pending, lost, living, is_had, is_used, Now, Knows, Lives, Turn}
use Rattle.ws_turn.specs.Inside.Steps.{queued, Draws, holding, Looks, handed_on, HandsOn}
use Rattle.ws_turn.proofs.Lists.{some_same, none_some, by_bool, or_right, starts_here, has_append, none_within}
use Rattle.ws_turn.proofs.Views.{one_changed, lives_here, lives_else, one_view, still_one, one_ticket, few}

module _ {S E B : Type 0} (list : S → List E) (base : S → B) (by : E → ℕ) (deals : E → Option ℕ) where
  abbrev V : Type 0
  V = View S E B

  abbrev St : Type 0
  St = State (Option S) V

  -- ---- a ticket is drawn

  pub draws : (key : B) (slots id : ℕ) (me : Me (Option S) V) (n : ℕ) → me.0.spent ≡ false → me.0.ticket ≡ None → me.0.held ≡ None → me.0.number ≡ Some n
      → Allows (Turn list base by deals key) slots id me 0 (λ k. (k + 1) % 2 ^ 64) (Draws list base by deals (step slots 0 1 0 none) me)
  draws key slots id me n alive idle empty num s r deep at small =
      let t = r.now in
      let k = t.drawn in
      let named : ℕ → ℕ = λ i. cond (eqb i k) n (t.named i) in
      let t' : Now E = record t { drawn = suc k; named = named } in
      let w : V = queued list base by deals me.0 k in
      let mine = r.views id me.0 (at, alive) in
      let seated = lives_here s.views id me.0 w at alive in (
        w,
        keeps,
        tt,
        record {
          now = t';
          wide = length-set s.words 0 _ ∙ r.wide;
          next_ticket = get_or-set_same s.words 0 _ 0 (omega (arith, r.wide)) ∙ (ap (λ (i : ℕ). (i + 1) % 2 ^ 64) r.next_ticket ∙ mod-add-mod k (2 ^ 64) 1) ∙ ap (λ (i : ℕ). i % 2 ^ 64) (add-one k);
          serving = get_or-set_other s.words 0 1 _ 0 (λ e. omega (arith, e)) ∙ r.serving;
          count = get_or-set_other s.words 0 2 _ 0 (λ e. omega (arith, e)) ∙ r.count;
          value = (r.value.0, r.value.1, r.value.2, ⊎_elim inl (λ o. inr (still_one s.views id me.0 w at alive (λ u. u.held ≡ Some r.value.0) (λ e. e) o)) r.value.3);
          views = λ j u e. ⊎_elim
              (λ (p : (j ≡ id) × (w ≡ u)). subst (λ i. Knows list base by deals key t' i u) (sym p.0) (subst (Knows list base by deals key t' id) p.1 (record {
                base_is = mine.base_is;
                seen = mine.seen;
                told = mine.told;
                number = mine.number;
                mine = mine.mine;
                pending_is = λ m z. absurd (none_some t.served (sym idle ∙ (mine.pending_is m z).1));
                joined_is = mine.joined_is;
                lost_is = mine.lost_is;
                ticket = λ i z. let same : k ≡ i = some_same k i z in (
                  omega (arith, same, r.behind),
                  omega (arith, same),
                  num ∙ ap Some (sym (ap (λ b. cond b n (t.named i)) (eq-eqb i k (sym same)))),
                );
                held = λ x z. absurd (none_some x (sym empty ∙ z));
              })))
              (λ (p : (j ≢ id) × Lives s.views j u). let o = r.views j u p.1 in record {
                base_is = o.base_is;
                seen = o.seen;
                told = o.told;
                number = o.number;
                mine = o.mine;
                pending_is = o.pending_is;
                joined_is = o.joined_is;
                lost_is = o.lost_is;
                ticket = λ i z. let q = o.ticket i z in (
                  q.0,
                  omega (arith, q.1),
                  q.2 ∙ ap Some (sym (ap (λ b. cond b n (t.named i)) (ne_eqb i k (λ e. omega (arith, e, q.1))))),
                );
                held = o.held;
              })
              (one_changed s.views id w j u e);
          behind = omega (arith, r.behind);
          queue = λ i lo hi. dite (ℕ_discrete i k)
              (λ e. (id, w, seated, ap Some (sym e)))
              (λ ne. let o = r.queue i lo (omega (arith, hi, ne)) in
              let away : o.0 ≢ id = λ e. none_some i (sym idle ∙ (ap (λ (z : V). z.ticket) (one_view s.views id o.0 me.0 o.1 at e o.2) ∙ o.3)) in
              (o.0, o.1, lives_else s.views id w o.0 o.1 away o.2, o.3));
          first = r.first;
          given_is = r.given_is;
          given_once = r.given_once;
          silent = r.silent;
        },
        (k, r.next_ticket, refl),
      )

  -- ---- the serving word is read

  module _ (key : B) (slots id : ℕ) (me : Me (Option S) V) (k : ℕ) (alive : me.0.spent ≡ false) (turn : me.0.ticket ≡ Some k) (empty : me.0.held ≡ None) where
    Goal : St → Type 0
    Goal s = (w : V) × (a : Act (Option S)) × Valid s.homes me.1 a × Turn list base by deals key (stepped s 1 (slice_index s.words 1) id me.1 w a)
        × Looks list base by deals (step slots 1 0 0 none) me (slice_index s.words 1) (w, carried_after me.1 a)

    -- the value is at home where the turn has come
    at_home : (s : St) (r : Turn list base by deals key s) → get_elem? s.views id ≡ some me.0 → r.now.served ≡ k → get_elem? s.homes 0 ≡ some (some (Some r.value.0))
    at_home s r at now = ⊎_elim (λ e. e)
        (λ (o : (j : ℕ) × (v : V) × Lives s.views j v × (v.held ≡ Some r.value.0)).
        let found = (r.views o.0 o.1 o.2).held r.value.0 o.3 in
        let one : o.0 ≡ id = one_ticket list base by deals key s r o.0 id o.1 me.0 o.2 (at, alive) k (found.0 ∙ ap Some now) turn in
        absurd (none_some r.value.0 (sym empty ∙ (ap (λ (z : V). z.held) (one_view s.views id o.0 me.0 o.1 at one o.2) ∙ o.3))))
        r.value.3

    waits_on : (s : St) (r : Turn list base by deals key s) → get_elem? s.views id ≡ some me.0 → slice_index s.words 1 ≢ k % 2 ^ 64 → Goal s
    unfolding Goal
    waits_on s r at other = (
      me.0,
      keeps,
      tt,
      subst (λ (z : List ℕ × List V). Turn list base by deals key (record { words = z.0; homes = s.homes; views = z.1 })) (λ i. (sym (set-get_or s.words 1 0) i, sym (set_again s.views id me.0 at) i)) r,
      (λ u e. ((λ found. absurd (other (found ∙ ap (λ (z : ℕ). z % 2 ^ 64) (sym (some_same k u (sym turn ∙ e)))))), λ _. refl)),
    )

    comes : (s : St) (r : Turn list base by deals key s) → get_elem? s.views id ≡ some me.0 → slice_index s.words 1 ≡ k % 2 ^ 64 → Goal s
    unfolding Goal
    comes s r at found =
        let t = r.now in
        let mine = r.views id me.0 (at, alive) in
        let waits = mine.ticket k turn in
        let bound = few list base by deals key s r in
        let now : t.served ≡ k = one_turn t.served k (2 ^ 64) waits.0 (omega (arith, waits.1, bound)) (sym r.serving ∙ found) in
        let x = r.value.0 in
        let w : V = holding list base by deals me.0 x in
        let home = at_home s r at now in
        let own : (n : ℕ) → me.0.number ≡ Some n → of by n (list x) ≡ me.0.mine = λ n z. ap (of by n) r.value.1 ∙ (mine.mine n z).0 in
        let none_lost : HasNoneOf by me.0.lost (list x) = none_within by me.0.lost t.history (list x) (subst (StartsWith t.history) (sym r.value.1) (starts_here t.history)) (λ n e. r.silent n (ap is_had (mine.lost_is n e))) in (
          w,
          takes 0 (Some x),
          home,
          record {
            now = t;
            wide = length-set s.words 1 _ ∙ r.wide;
            next_ticket = get_or-set_other s.words 1 0 _ 0 (λ e. omega (arith, e)) ∙ r.next_ticket;
            serving = ap (λ (ws : List ℕ). get_or ws 1 0) (set-get_or s.words 1 0) ∙ r.serving;
            count = get_or-set_other s.words 1 2 _ 0 (λ e. omega (arith, e)) ∙ r.count;
            value = (x, r.value.1, r.value.2, inr (id, w, lives_here s.views id me.0 w at alive, refl));
            views = λ j u e. ⊎_elim
                (λ (p : (j ≡ id) × (w ≡ u)). subst (λ i. Knows list base by deals key t i u) (sym p.0) (subst (Knows list base by deals key t id) p.1 (record {
                  base_is = mine.base_is;
                  seen = subst (StartsWith t.history) (sym r.value.1) (starts_here t.history);
                  told = mine.told;
                  number = mine.number;
                  mine = λ n z. ((mine.mine n z).0, own n z);
                  pending_is = mine.pending_is;
                  joined_is = λ n z. absurd (true≢false (sym z));
                  lost_is = mine.lost_is;
                  ticket = mine.ticket;
                  held = λ y z. let same : x ≡ y = some_same x y z in (turn ∙ ap Some (sym now), r.value.1, ap list (sym same) ∙ r.value.1, ap base (sym same) ∙ r.value.2);
                })))
                (λ (p : (j ≢ id) × Lives s.views j u). r.views j u p.1)
                (one_changed s.views id w j u e);
            behind = r.behind;
            queue = λ i lo hi. still_one s.views id me.0 w at alive (λ u. u.ticket ≡ Some i) (λ e. e) (r.queue i lo hi);
            first = r.first;
            given_is = r.given_is;
            given_once = r.given_once;
            silent = r.silent;
          },
          (λ u e. (
            (λ _. (x, refl, subst (λ (l : List E). StartsWith l me.0.seen) (sym r.value.1) mine.seen, ap Some r.value.2 ∙ sym mine.base_is, (λ n z. (own n z, refl), none_lost))),
            λ no. absurd (no (found ∙ ap (λ (z : ℕ). z % 2 ^ 64) (some_same k u (sym turn ∙ e)))),
          )),
        )

    pub looks : Allows (Turn list base by deals key) slots id me 1 (λ i. i) (Looks list base by deals (step slots 1 0 0 none) me)
    unfolding Goal
    looks s r deep at small = dite (ℕ_discrete (slice_index s.words 1) (k % 2 ^ 64)) (comes s r at) (waits_on s r at)

  -- ---- the next ticket is served

  pub hands_on : (key : B) (slots id : ℕ) (me : Me (Option S) V) (y : S) → 0 < slots → me.0.spent ≡ false → me.0.held ≡ Some y → me.1 ≡ (0, Some y) ∷ []
      → Allows (Turn list base by deals key) slots id me 1 (λ k. (k + 1) % 2 ^ 64) (HandsOn list base by deals (step slots 1 1 0 none) me)
  hands_on key slots id me y some_slot alive held carried s r deep at small =
      let t = r.now in
      let gone = me.0.pending in
      let fate : ℕ → Fate = λ n. cond (has n gone) lost (t.fate n) in
      let t' : Now E = record t { served = suc t.served; fate = fate } in
      let w : V = handed_on list base by deals me.0 in
      let mine = r.views id me.0 (at, alive) in
      let now = mine.held y held in
      let my_ticket = mine.ticket t.served now.0 in
      let other_ticket : (j : ℕ) (u : V) → j ≢ id → Lives s.views j u → u.ticket ≡ Some t.served → ⊥ = λ j u ne e q. ne (one_ticket list base by deals key s r j id u me.0 e (at, alive) t.served q now.0) in
      let was_pending : (n : ℕ) → has n gone ≡ true → t.fate n ≡ pending = λ n e. (mine.pending_is n e).0 in
      -- what has become of the other numbers stays
      let stays : (n : ℕ) (f : Fate) → t.fate n ≡ f → (pending ≢ f) → fate n ≡ f = λ n f e other. by_bool (has n gone)
      (λ z. absurd (other (sym (was_pending n z) ∙ e)))
      (λ z. ap (λ b. cond b lost (t.fate n)) z ∙ e) in
      let had_same : (n : ℕ) → is_had (fate n) ≡ is_had (t.fate n) = λ n. by_bool (has n gone)
      (λ z. ap (λ b. is_had (cond b lost (t.fate n))) z ∙ sym (ap is_had (was_pending n z)))
      (λ z. ap (λ b. is_had (cond b lost (t.fate n))) z) in
      let used_same : (n : ℕ) → is_used (fate n) ≡ is_used (t.fate n) = λ n. by_bool (has n gone)
      (λ z. ap (λ b. is_used (cond b lost (t.fate n))) z ∙ sym (ap is_used (was_pending n z)))
      (λ z. ap (λ b. is_used (cond b lost (t.fate n))) z) in
      let home : get_elem? (put_back s.homes me.1) 0 ≡ some (some (Some y)) = subst (λ c. get_elem? (put_back s.homes c) 0 ≡ some (some (Some y))) (sym carried) (set_here s.homes 0 (some (Some y)) (omega (arith, deep, some_slot))) in (
        w,
        gives,
        tt,
        record {
          now = t';
          wide = length-set s.words 1 _ ∙ r.wide;
          next_ticket = get_or-set_other s.words 1 0 _ 0 (λ q. omega (arith, q)) ∙ r.next_ticket;
          serving = get_or-set_same s.words 1 _ 0 (omega (arith, r.wide)) ∙ (ap (λ (k : ℕ). (k + 1) % 2 ^ 64) r.serving ∙ mod-add-mod t.served (2 ^ 64) 1) ∙ ap (λ (k : ℕ). k % 2 ^ 64) (add-one t.served);
          count = get_or-set_other s.words 1 2 _ 0 (λ q. omega (arith, q)) ∙ r.count;
          value = (y, now.2, now.3, inl home);
          views = λ j u e. ⊎_elim
              (λ (p : (j ≡ id) × (w ≡ u)). subst (λ i. Knows list base by deals key t' i u) (sym p.0) (subst (Knows list base by deals key t' id) p.1 (record {
                base_is = mine.base_is;
                seen = mine.seen;
                told = mine.told;
                number = λ n z. let o = mine.number n z in (o.0, stays n (living id) o.1 (λ c. cc));
                mine = mine.mine;
                pending_is = λ n z. absurd (true≢false (sym z));
                joined_is = λ n z. absurd (true≢false (sym z));
                lost_is = λ n z. by_bool (has n gone)
                    (λ q. ap (λ b. cond b lost (t.fate n)) q)
                    (λ q. stays n lost (mine.lost_is n (or_right (has n me.0.lost) (has n gone) (sym (has_append n me.0.lost gone) ∙ z) q)) (λ c. cc));
                ticket = λ k z. absurd (none_some k z);
                held = λ x z. absurd (none_some x z);
              })))
              (λ (p : (j ≢ id) × Lives s.views j u). let o = r.views j u p.1 in record {
                base_is = o.base_is;
                seen = o.seen;
                told = o.told;
                number = λ n z. let q = o.number n z in (q.0, stays n (living j) q.1 (λ c. cc));
                mine = o.mine;
                pending_is = λ n z. absurd (other_ticket j u p.0 p.1 (o.pending_is n z).1);
                joined_is = λ n z. stays n _ (o.joined_is n z) (λ c. cc);
                lost_is = λ n z. stays n lost (o.lost_is n z) (λ c. cc);
                ticket = λ k z. let q = o.ticket k z in let ne : t.served ≢ k = λ same. other_ticket j u p.0 p.1 (z ∙ ap Some (sym same)) in (omega (arith, q.0, ne), q.1, q.2);
                held = λ x z. absurd (other_ticket j u p.0 p.1 (o.held x z).0);
              })
              (one_changed s.views id w j u e);
          behind = omega (arith, my_ticket.1);
          queue = λ k lo hi. let o = r.queue k (omega (arith, lo)) hi in
              let away : o.0 ≢ id = λ e. let same : t.served ≡ k = some_same t.served k (sym now.0 ∙ (ap (λ (z : V). z.ticket) (one_view s.views id o.0 me.0 o.1 at e o.2) ∙ o.3)) in omega (arith, same, lo) in
              (o.0, o.1, lives_else s.views id w o.0 o.1 away o.2, o.3);
          first = had_same 0 ∙ r.first;
          given_is = λ n nz. r.given_is n nz ∙ sym (used_same n);
          given_once = r.given_once;
          silent = λ n e. r.silent n (sym (had_same n) ∙ e);
        },
        ap (λ c. (w, rest c)) carried,
      )
