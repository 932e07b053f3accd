-- The count is raised for what the value has become: this keeps the rule.
use Rattle.std.proofs.Common.{◌≡◌, ◌≢◌, ℕ, true, false, eqb, List, [], ◌++◌, length, Option, Some, sym, refl, ap, ◌∙◌, subst, ⊎_elim, inr, arith, length-set, get_or-set_same, get_or-set_other, cond, ◌||◌, true≢false, append-nil}
use mathlib.Core.Option.{none}
use Rattle.std.specs.List.{IsDistinct}
use Rattle.std.proofs.lemmas.List.{append_cancel_left}
use Rattle.atomic_table.specs.Table.{Me, step, keeps, Allows}
use Rattle.ws_turn.specs.declared.view.View.{View}
use Rattle.ws_turn.specs.Lists.{StartsWith, of, has, numbers, given}
use Rattle.ws_turn.specs.Inside.Turn.{Fate, unused, pending, living, joined, lost, is_had, is_used, Now, Knows, Lives, Turn}
use Rattle.ws_turn.specs.Inside.Steps.{own, MayRaise, raised, Raises}
use Rattle.ws_turn.proofs.Lists.{some_same, by_bool, or_false, or_true, starts_here, starts_further, of_append, given_append, numbers_append, distinct_append}
use Rattle.ws_turn.proofs.Views.{one_changed, lives_here, still_one, one_ticket, living_same, unused_is, apart_from_joined}

module _ {S E B : Type 0} (list : S → List E) (base : S → B) (by : E → ℕ) (deals : E → Option ℕ) where
  abbrev V : Type 0
  V = View S E B

  pub raises : (key : B) (slots id : ℕ) (me : Me (Option S) V) (y : S) (more : List E) (count : ℕ) → count ≡ length (list y) → me.0.spent ≡ false → me.0.pending ≡ []
      → MayRaise list base by deals y more me.0
      → Allows (Turn list base by deals key) slots id me 2 (λ _. count) (λ _. Raises list base by deals (Some y) (step slots 2 count 0 none) me count)
  raises key slots id me y more count len alive settled may s r deep at small =
      let t = r.now in
      let h = t.history in
      let new = numbers deals more in
      let fate : ℕ → Fate = λ m. cond (has m new) pending (t.fate m) in
      let t' : Now E = record t { history = list y; fate = fate } in
      let w : V = raised list base by deals me.0 y more in
      let mine = r.views id me.0 (at, alive) in
      let x = may.held.0 in
      let now = mine.held x may.held.1 in
      let n = may.number.0 in
      let num = may.number.1 in
      let grown : list y ≡ h ++ more = may.list_is ∙ ap (λ (l : List E). l ++ more) now.1 in
      let based : base y ≡ key = some_same (base y) key (may.base_is ∙ mine.base_is) in
      let is_new : (m : ℕ) → has m new ≡ true → (m ≢ 0) × (given deals m h ≡ false) = λ m e. let o = may.new m e in (o.0, subst (λ l. given deals m l ≡ false) now.1 o.1) in
      let was_unused : (m : ℕ) → has m new ≡ true → t.fate m ≡ unused = λ m e. let o = is_new m e in unused_is (t.fate m) (sym (r.given_is m o.0) ∙ o.1) in
      -- what has become of the numbers that are used stays
      let stays : (m : ℕ) (f : Fate) → t.fate m ≡ f → is_used f ≡ true → fate m ≡ f = λ m f e used. by_bool (has m new)
      (λ z. absurd (true≢false (sym used ∙ (ap is_used (sym e) ∙ ap is_used (was_unused m z)))))
      (λ z. ap (λ b. cond b pending (t.fate m)) z ∙ e) in
      let had_same : (m : ℕ) → is_had (fate m) ≡ is_had (t.fate m) = λ m. by_bool (has m new)
      (λ z. ap (λ b. is_had (cond b pending (t.fate m))) z ∙ sym (ap is_had (was_unused m z)))
      (λ z. ap (λ b. is_had (cond b pending (t.fate m))) z) in
      -- the new entries are of no other number
      let foreign : (m : ℕ) → m ≢ n → t.fate m ≢ joined → of by m more ≡ [] = λ m ne nj. may.number.2 m ne (by_bool (has m me.0.joined) (λ z. absurd (nj (mine.joined_is m z))) (λ z. z)) in
      let n_lives = (mine.number n num).1 in
      let of_more : (m : ℕ) → of by m (list y) ≡ of by m h ++ of by m more = λ m. ap (of by m) grown ∙ of_append by m h more in
      let unchanged : (m : ℕ) (l : List E) → of by m h ≡ l → of by m more ≡ [] → of by m (list y) ≡ l = λ m l e z. of_more m ∙ (ap (λ k. of by m h ++ k) z ∙ (append-nil (of by m h) ∙ e)) in
      let further : (l : List E) → StartsWith h l → StartsWith (list y) l = λ l z. subst (λ k. StartsWith k l) (sym grown) (starts_further h more l z) in
      let not_mine : (m j : ℕ) → t.fate m ≡ living j → j ≢ id → m ≢ n = λ m j e ne same. ne (living_same j id (sym e ∙ (ap t.fate same ∙ n_lives))) in
      let own_more : (m : ℕ) → me.0.number ≡ Some m → me.0.mine ++ of by m more ≡ w.mine = λ m z. ap (λ o. me.0.mine ++ own list base by deals o more) (sym z) in
      let more_of : (m : ℕ) → me.0.number ≡ Some m → of by m (list y) ≡ w.mine = λ m z. of_more m ∙ (ap (λ k. k ++ of by m more) (mine.mine m z).0 ∙ own_more m z) in
      let silent : (m : ℕ) → is_had (fate m) ≡ false → of by m (list y) ≡ [] = λ m e.
      let had : is_had (t.fate m) ≡ false = sym (had_same m) ∙ e in
      unchanged m [] (r.silent m had) (foreign m (λ same. true≢false (sym (ap is_had n_lives) ∙ (ap (λ i. is_had (t.fate i)) (sym same) ∙ had))) (λ c. true≢false (sym (ap is_had c) ∙ had))) in
      let now_pending : (m : ℕ) → has m new ≡ true → fate m ≡ pending = λ m z. ap (λ b. cond b pending (t.fate m)) z in (
        w,
        keeps,
        tt,
        record {
          now = t';
          wide = length-set s.words 2 _ ∙ r.wide;
          next_ticket = get_or-set_other s.words 2 0 _ 0 (λ q. omega (arith, q)) ∙ r.next_ticket;
          serving = get_or-set_other s.words 2 1 _ 0 (λ q. omega (arith, q)) ∙ r.serving;
          count = get_or-set_same s.words 2 _ 0 (omega (arith, r.wide)) ∙ len;
          value = (y, refl, based, inr (id, w, lives_here s.views id me.0 w at alive, refl));
          views = λ j u e. ⊎_elim
              (λ (p : (j ≡ id) × (w ≡ u)). subst (λ i. Knows list base by deals key t' i u) (sym p.0) (subst (Knows list base by deals key t' id) p.1 (record {
                base_is = mine.base_is;
                seen = starts_here (list y);
                told = further me.0.told mine.told;
                number = λ m z. let o = mine.number m z in (o.0, stays m (living id) o.1 refl);
                mine = λ m z. (more_of m z, more_of m z);
                pending_is = λ m z. (now_pending m z, now.0);
                joined_is = λ m z. stays m joined (mine.joined_is m z) refl;
                lost_is = λ m z. stays m lost (mine.lost_is m z) refl;
                ticket = mine.ticket;
                held = λ z e'. let same : y ≡ z = some_same y z e' in (now.0, refl, ap list (sym same), ap base (sym same) ∙ based);
              })))
              (λ (p : (j ≢ id) × Lives s.views j u). let o = r.views j u p.1 in record {
                base_is = o.base_is;
                seen = further u.seen o.seen;
                told = further u.told o.told;
                number = λ m z. let q = o.number m z in (q.0, stays m (living j) q.1 refl);
                mine = λ m z. let q = o.number m z in (unchanged m u.mine (o.mine m z).0 (foreign m (not_mine m j q.1 p.0) (λ c. let c : living j ≡ joined = sym q.1 ∙ c in cc)), (o.mine m z).1);
                pending_is = λ m z. let q = o.pending_is m z in (stays m pending q.0 refl, q.1);
                joined_is = λ m z. stays m joined (o.joined_is m z) refl;
                lost_is = λ m z. stays m lost (o.lost_is m z) refl;
                ticket = o.ticket;
                held = λ z e'. absurd (p.0 (one_ticket list base by deals key s r j id u me.0 p.1 (at, alive) t.served (o.held z e').0 now.0));
              })
              (one_changed s.views id w j u e);
          behind = r.behind;
          queue = λ k lo hi. still_one s.views id me.0 w at alive (λ u. u.ticket ≡ Some k) (λ e. e) (r.queue k lo hi);
          first = had_same 0 ∙ r.first;
          given_is = λ m nz. ap (given deals m) grown ∙ (given_append deals m h more ∙ by_bool (has m new)
              (λ z. ap (λ b. given deals m h || b) z ∙ (or_true (given deals m h) ∙ sym (ap (λ b. is_used (cond b pending (t.fate m))) z)))
              (λ z. ap (λ b. given deals m h || b) z ∙ (or_false (given deals m h) ∙ (r.given_is m nz ∙ sym (ap (λ b. is_used (cond b pending (t.fate m))) z)))));
          given_once = subst (IsDistinct eqb) (sym (ap (numbers deals) grown ∙ numbers_append deals h more))
              (distinct_append (numbers deals h) new r.given_once may.once (λ m e. by_bool (has m new) (λ z. absurd (true≢false (sym e ∙ (is_new m z).1))) (λ z. z)));
          silent = silent;
        },
        (λ z told. (
          (λ rest e.
              let same : y ≡ z = some_same y z told in
              let all : more ≡ rest = append_cancel_left me.0.seen more rest (sym may.list_is ∙ (ap list same ∙ e)) in
              let P : S → List E → Type 0 = λ a l. let m' : Me (Option S) V = (w, me.1) in m' ≡ (raised list base by deals me.0 a l, me.1) in
              subst (λ a. P a rest) same (subst (P y) all refl)),
          (λ m z. (more_of m z, apart_from_joined list base by deals key t id me.0 mine m z), λ m z. silent m (ap is_had (stays m lost (mine.lost_is m z) refl))),
          λ m z. silent m (ap is_had (now_pending m z)),
        )),
      )
