-- The opening, the ring of a bell, and the steps on seats: a new pass, a note, what a note told, and a pass that is joined to another. Each keeps the rule.
use Rattle.std.proofs.Common.{◌⊎◌, ◌≡◌, ◌≢◌, ◌^◌, ◌%◌, ◌+◌, ◌<◌, ◌≤◌, ℕ, zero, suc, false, eqb, List, [], ◌∷◌, ◌++◌, length, replicate, Option, Some, None, set, get_or, sym, refl, ap, ◌∙◌, subst, ⊎_elim, inl, inr, arith, length-set, get_or-set_other, cond, ◌||◌, true≢false, eq-eqb, ne_eqb}
use mathlib.Core.Logic.{dite}
use mathlib.Core.Option.{some, none, some-injective}
use native.Mathlib.Decide.{ℕ_discrete}
use lib.ListN.{get_elem?}
use lib.Seq.{set-get_or}
use Rattle.std.specs.List.{IsDistinct}
use Rattle.atomic_table.specs.Table.{State, Me, step, keeps, Allows, Splits, Joins, opening}
use Rattle.atomic_table.proofs.Lists.{at_longer, set_else, set_again}
use Rattle.ws_turn.specs.declared.view.View.{View}
use Rattle.ws_turn.specs.Lists.{StartsWith, of, has, put_before}
use Rattle.ws_turn.specs.Inside.Turn.{Fate, unused, pending, living, joined, lost, is_had, is_used, Now, Knows, Lives, Turn}
use Rattle.ws_turn.specs.Inside.Steps.{first_view, note, over, told_of, first_of, rest_of, fork, forked, merged, informed, Learns, Rings}
use Rattle.ws_turn.proofs.Lists.{some_same, none_some, by_bool, or_right, starts_both, none_before, none_within, between, longer_is, has_append, eqb_same, some_of}
use Rattle.ws_turn.proofs.Views.{at_end, one_changed, lives_here, lives_else, still_one, one_ticket, apart_from_joined, living_same}

module _ {S E B : Type 0} (list : S → List E) (base : S → B) (by : E → ℕ) (deals : E → Option ℕ) where
  abbrev V : Type 0
  V = View S E B

  abbrev St : Type 0
  St = State (Option S) V

  -- ---- the opening

  alone : (a v : V) (j : ℕ) → get_elem? (a ∷ []) j ≡ some v → (j ≡ 0) × (a ≡ v)
  alone a v zero e = (refl, some-injective a v e)
  alone a v (suc j) e = absurd (none_is v e)
    where
      none_is : (v : V) → none ≡ some v → ⊥
      none_is v e = let e : none ≡ some v = e in cc

  none_twice : IsDistinct eqb []
  unfolding IsDistinct
  none_twice = tt

  first_fate : ℕ → Fate
  first_fate n = cond (eqb n 0) (living 0) unused

  pub opens : (x : S) → list x ≡ [] → Turn list base by deals (base x) (opening (replicate 67 0) (Some x ∷ []) (first_view (base x)))
  unfolding first_fate
  opens x blank = record {
    now = record { history = []; drawn = 0; served = 0; fate = first_fate; named = λ _. 0 };
    wide = refl;
    next_ticket = refl;
    serving = refl;
    count = refl;
    value = (x, blank, refl, inl refl);
    views = λ j v e. let one = alone (first_view (base x)) v j e.0 in
        subst (λ i. Knows list base by deals (base x) (record { history = []; drawn = 0; served = 0; fate = first_fate; named = λ _. 0 }) i v) (sym one.0)
        (subst (Knows list base by deals (base x) (record { history = []; drawn = 0; served = 0; fate = first_fate; named = λ _. 0 }) 0) one.1 (record {
          base_is = refl;
          seen = ([], refl);
          told = ([], refl);
          number = λ n z. let same : 0 ≡ n = some_same 0 n z in subst (λ (i : ℕ). (i < 2 ^ 64) × (first_fate i ≡ living 0)) same (omega arith, refl);
          mine = λ n z. (refl, refl);
          pending_is = λ n z. absurd (true≢false (sym z));
          joined_is = λ n z. absurd (true≢false (sym z));
          lost_is = λ n z. absurd (true≢false (sym z));
          ticket = λ k z. absurd (none_some k z);
          held = λ y z. absurd (none_some y z);
        }));
    behind = omega arith;
    queue = λ k lo hi. absurd (omega (arith, hi));
    first = refl;
    given_is = λ n nz. sym (ap (λ b. is_used (cond b (living 0) unused)) (ne_eqb n 0 nz));
    given_once = none_twice;
    silent = λ n e. refl;
  }

  -- ---- a note of what a pass has seen

  pub notes : (key : B) (id : ℕ) (v : V) → v.spent ≡ false → Splits (Turn list base by deals key) id v v (note v)
  notes key id v alive s r at =
      let mine = r.views id v (at, alive) in
      let same : set s.views id v ≡ s.views = set_again s.views id v at in
      let old : (j : ℕ) (u : V) → Lives s.views j u → Lives (set s.views id v ++ note v ∷ []) j u = λ j u e. (at_longer (set s.views id v) (note v ∷ []) j u (subst (λ vs. get_elem? vs j ≡ some u) (sym same) e.0), e.1) in record {
        now = r.now;
        wide = r.wide;
        next_ticket = r.next_ticket;
        serving = r.serving;
        count = r.count;
        value = (r.value.0, r.value.1, r.value.2, ⊎_elim inl (λ (o : (j : ℕ) × (u : V) × Lives s.views j u × (u.held ≡ Some r.value.0)). inr (o.0, o.1, old o.0 o.1 o.2, o.3)) r.value.3);
        views = λ j u e. ⊎_elim
            (λ f. r.views j u (subst (λ vs. get_elem? vs j ≡ some u) same f, e.1))
            (λ (p : (j ≡ length (set s.views id v)) × (note v ≡ u)). subst (Knows list base by deals key r.now j) p.1 (record {
              base_is = mine.base_is;
              seen = mine.seen;
              told = (r.now.history, refl);
              number = λ n z. absurd (none_some n z);
              mine = λ n z. absurd (none_some n z);
              pending_is = λ n z. absurd (true≢false (sym z));
              joined_is = λ n z. absurd (true≢false (sym z));
              lost_is = λ n z. absurd (true≢false (sym z));
              ticket = λ k z. absurd (none_some k z);
              held = λ y z. absurd (none_some y z);
            }))
            (at_end (set s.views id v) (note v) u j e.0);
        behind = r.behind;
        queue = λ k lo hi. let o = r.queue k lo hi in (o.0, o.1, old o.0 o.1 o.2, o.3);
        first = r.first;
        given_is = r.given_is;
        given_once = r.given_once;
        silent = r.silent;
      }

  -- ---- two views of which the second is spent afterwards

  -- a view after that is the first or an old one
  pub two_changed : (views : List V) (id : ℕ) (b : V) (other j : ℕ) (u : V) → Lives (set (set views id b) other over) j u
      → ((j ≡ id) × (b ≡ u)) ⊎ ((j ≢ id) × (j ≢ other) × Lives views j u)
  two_changed views id b other j u e = ⊎_elim
      (λ (p : (j ≡ other) × (over ≡ u)). absurd (true≢false (ap (λ (z : V). z.spent) p.1 ∙ e.1)))
      (λ (p : (j ≢ other) × Lives (set views id b) j u). ⊎_elim inl (λ (q : (j ≢ id) × Lives views j u). inr (q.0, p.0, q.1)) (one_changed views id b j u p.1))
      (one_changed (set views id b) other over j u e)

  -- a fact that some live view has, but not the one that is spent
  pub still_two : (views : List V) (id : ℕ) (v b : V) (other : ℕ) (w : V) → get_elem? views id ≡ some v → other ≢ id → get_elem? (set views id b) other ≡ some w → b.spent ≡ false
      → (P : V → Type 0) → (P v → P b) → (P w → ⊥)
      → ((j : ℕ) × (u : V) × Lives views j u × P u) → (j : ℕ) × (u : V) × Lives (set (set views id b) other over) j u × P u
  still_two views id v b other w at ne there alive P goes never o =
      let one = still_one views id v b at alive P goes o in
      let away : one.0 ≢ other = λ e. never (subst P (sym (some-injective w one.1 (sym there ∙ subst (λ i. get_elem? (set views id b) i ≡ some one.1) e one.2.0))) one.3) in
      (one.0, one.1, lives_else (set views id b) other over one.0 one.1 away one.2, one.3)

  -- ---- a pass takes a note

  pub tells : (key : B) (id : ℕ) (v : V) (other : ℕ) (w : V) → v.spent ≡ false → w.spent ≡ false → w.ticket ≡ None → w.held ≡ None
      → Joins (Turn list base by deals key) id v other w (told_of v w) over
  tells key id v other w alive alive_w idle empty s r at ne there =
      let b : V = told_of v w in
      let mine = r.views id v (at, alive) in
      let was_w : Lives s.views other w = (sym (set_else s.views id other b ne) ∙ there, alive_w) in
      let theirs = r.views other w was_w in record {
        now = r.now;
        wide = r.wide;
        next_ticket = r.next_ticket;
        serving = r.serving;
        count = r.count;
        value = (r.value.0, r.value.1, r.value.2, ⊎_elim inl (λ o. inr (still_two s.views id v b other w at ne there alive (λ u. u.held ≡ Some r.value.0) (λ e. e) (λ e. none_some r.value.0 (sym empty ∙ e)) o)) r.value.3);
        views = λ j u e. ⊎_elim
            (λ (p : (j ≡ id) × (b ≡ u)). subst (λ i. Knows list base by deals key r.now i u) (sym p.0) (subst (Knows list base by deals key r.now id) p.1 (record {
              base_is = mine.base_is;
              seen = mine.seen;
              told = theirs.seen;
              number = mine.number;
              mine = mine.mine;
              pending_is = mine.pending_is;
              joined_is = mine.joined_is;
              lost_is = mine.lost_is;
              ticket = mine.ticket;
              held = mine.held;
            })))
            (λ (p : (j ≢ id) × (j ≢ other) × Lives s.views j u). r.views j u p.2)
            (two_changed s.views id b other j u e);
        behind = r.behind;
        queue = λ k lo hi. still_two s.views id v b other w at ne there alive (λ u. u.ticket ≡ Some k) (λ e. e) (λ e. none_some k (sym idle ∙ e)) (r.queue k lo hi);
        first = r.first;
        given_is = r.given_is;
        given_once = r.given_once;
        silent = r.silent;
      }

  -- ---- what was told is seen

  pub learns : (key : B) (slots id : ℕ) (me : Me (Option S) V) → me.0.spent ≡ false
      → Allows (Turn list base by deals key) slots id me 1 (λ i. i) (Learns list base by deals (step slots 1 0 0 none) me)
  learns key slots id me alive s r deep at small =
      let t = r.now in
      let v = me.0 in
      let w : V = informed list base by deals v in
      let mine = r.views id v (at, alive) in
      let long = longer_is t.history v.seen v.told mine.seen mine.told in
      let own : (n : ℕ) → v.number ≡ Some n → of by n w.seen ≡ v.mine = λ n z. between by n t.history v.seen w.seen v.mine long.within long.left (mine.mine n z).0 (mine.mine n z).1 in
      let whole : v.seen ≡ t.history → w.seen ≡ t.history = λ e. starts_both t.history w.seen long.within (subst (StartsWith w.seen) e long.left) in (
        w,
        keeps,
        tt,
        record {
          now = t;
          wide = length-set s.words 1 _ ∙ r.wide;
          next_ticket = get_or-set_other s.words 1 0 _ 0 (λ e. omega (arith, e)) ∙ r.next_ticket;
          serving = ap (λ (ws : List ℕ). get_or ws 1 0) (set-get_or s.words 1 0) ∙ r.serving;
          count = get_or-set_other s.words 1 2 _ 0 (λ e. omega (arith, e)) ∙ r.count;
          value = (r.value.0, r.value.1, r.value.2, ⊎_elim inl (λ o. inr (still_one s.views id v w at alive (λ u. u.held ≡ Some r.value.0) (λ e. e) o)) r.value.3);
          views = λ j u e. ⊎_elim
              (λ (p : (j ≡ id) × (w ≡ u)). subst (λ i. Knows list base by deals key t i u) (sym p.0) (subst (Knows list base by deals key t id) p.1 (record {
                base_is = mine.base_is;
                seen = long.within;
                told = (t.history, refl);
                number = mine.number;
                mine = λ n z. ((mine.mine n z).0, own n z);
                pending_is = mine.pending_is;
                joined_is = mine.joined_is;
                lost_is = mine.lost_is;
                ticket = mine.ticket;
                held = λ x z. let q = mine.held x z in (q.0, whole q.1, q.2, q.3);
              })))
              (λ (p : (j ≢ id) × Lives s.views j u). r.views j u p.1)
              (one_changed s.views id w j u e);
          behind = r.behind;
          queue = λ k lo hi. still_one s.views id v w at alive (λ u. u.ticket ≡ Some k) (λ e. e) (r.queue k lo hi);
          first = r.first;
          given_is = r.given_is;
          given_once = r.given_once;
          silent = r.silent;
        },
        (refl, long.left, long.right, (λ n z. (own n z, apart_from_joined list base by deals key t id v mine n z), none_within by v.lost t.history w.seen long.within (λ n e. r.silent n (ap is_had (mine.lost_is n e)))), λ e. let x = some_of v.held e in let q = (mine.held x.0 x.1).1 in whole q ∙ sym q),
      )

  -- ---- a bell is rung

  pub rings : (key : B) (slots id : ℕ) (me : Me (Option S) V) (i : ℕ) → 3 ≤ i
      → Allows (Turn list base by deals key) slots id me i (λ k. (k + 1) % 2 ^ 64) (Rings list base by deals (step slots i 1 0 none) me)
  rings key slots id me i high s r deep at small =
      let rung : List ℕ = set s.words i ((get_or s.words i 0 + 1) % 2 ^ 64) in
      let kept : Turn list base by deals key (record { words = rung; homes = s.homes; views = s.views }) = record {
        now = r.now;
        wide = length-set s.words i _ ∙ r.wide;
        next_ticket = get_or-set_other s.words i 0 _ 0 (λ e. omega (arith, e, high)) ∙ r.next_ticket;
        serving = get_or-set_other s.words i 1 _ 0 (λ e. omega (arith, e, high)) ∙ r.serving;
        count = get_or-set_other s.words i 2 _ 0 (λ e. omega (arith, e, high)) ∙ r.count;
        value = r.value;
        views = r.views;
        behind = r.behind;
        queue = r.queue;
        first = r.first;
        given_is = r.given_is;
        given_once = r.given_once;
        silent = r.silent;
      } in (
        me.0,
        keeps,
        tt,
        subst (λ (vs : List V). Turn list base by deals key (record { words = rung; homes = s.homes; views = vs })) (sym (set_again s.views id me.0 at)) kept,
        refl,
      )

  -- ---- a new pass

  pub forks : (key : B) (id : ℕ) (v : V) (n : ℕ) → n < 2 ^ 64 → v.spent ≡ false → v.pending ≡ n ∷ [] → Splits (Turn list base by deals key) id v (forked v) (fork v)
  forks key id v n small alive one s r at =
      let t = r.now in
      let w : V = forked v in
      let vs = set s.views id w in
      let new = length vs in
      let fate : ℕ → Fate = λ m. cond (eqb m n) (living new) (t.fate m) in
      let t' : Now E = record t { fate = fate } in
      let mine = r.views id v (at, alive) in
      let mine_is = mine.pending_is n (ap (has n) one ∙ ap (λ b. b || false) (eq-eqb n n refl)) in
      let now = mine_is.1 in
      let seated = lives_here s.views id v w at alive in
      let here : fate n ≡ living new = ap (λ b. cond b (living new) (t.fate n)) (eq-eqb n n refl) in
      -- what has become of the other numbers stays
      let stays : (m : ℕ) (f : Fate) → t.fate m ≡ f → (pending ≢ f) → fate m ≡ f = λ m f e other. by_bool (eqb m n)
      (λ z. absurd (other (sym mine_is.0 ∙ (ap t.fate (sym (eqb_same m n z)) ∙ e))))
      (λ z. ap (λ b. cond b (living new) (t.fate m)) z ∙ e) in
      let there : (j : ℕ) (u : V) → Lives vs j u → Lives (vs ++ fork v ∷ []) j u = λ j u e. (at_longer vs (fork v ∷ []) j u e.0, e.1) in
      let pass_on : (P : V → Type 0) → (P v → P w) → ((j : ℕ) × (u : V) × Lives s.views j u × P u) → (j : ℕ) × (u : V) × Lives (vs ++ fork v ∷ []) j u × P u = λ P goes o.
      let q = still_one s.views id v w at alive P goes o in (q.0, q.1, there q.0 q.1 q.2, q.3) in
      let number_is : (m : ℕ) → first_of v.pending ≡ Some m → n ≡ m = λ m z. some_same n m (sym (ap first_of one) ∙ z) in
      let nobody : of by n t.history ≡ [] = r.silent n (ap is_had mine_is.0) in record {
        now = t';
        wide = r.wide;
        next_ticket = r.next_ticket;
        serving = r.serving;
        count = r.count;
        value = (r.value.0, r.value.1, r.value.2, ⊎_elim inl (λ o. inr (pass_on (λ u. u.held ≡ Some r.value.0) (λ e. e) o)) r.value.3);
        views = λ j u e. ⊎_elim
            (λ f. ⊎_elim
            (λ (p : (j ≡ id) × (w ≡ u)). subst (λ i. Knows list base by deals key t' i u) (sym p.0) (subst (Knows list base by deals key t' id) p.1 (record {
              base_is = mine.base_is;
              seen = mine.seen;
              told = mine.told;
              number = λ m z. let q = mine.number m z in (q.0, stays m (living id) q.1 (λ c. cc));
              mine = mine.mine;
              pending_is = λ m z. absurd (true≢false (sym z ∙ ap (λ l. has m (rest_of l)) one));
              joined_is = λ m z. stays m joined (mine.joined_is m z) (λ c. cc);
              lost_is = λ m z. stays m lost (mine.lost_is m z) (λ c. cc);
              ticket = mine.ticket;
              held = mine.held;
            })))
            (λ (p : (j ≢ id) × Lives s.views j u). let o = r.views j u p.1 in record {
              base_is = o.base_is;
              seen = o.seen;
              told = o.told;
              number = λ m z. let q = o.number m z in (q.0, stays m (living j) q.1 (λ c. cc));
              mine = o.mine;
              pending_is = λ m z. absurd (p.0 (one_ticket list base by deals key s r j id u v p.1 (at, alive) t.served (o.pending_is m z).1 now));
              joined_is = λ m z. stays m joined (o.joined_is m z) (λ c. cc);
              lost_is = λ m z. stays m lost (o.lost_is m z) (λ c. cc);
              ticket = o.ticket;
              held = o.held;
            })
            (one_changed s.views id w j u (f, e.1)))
            (λ (p : (j ≡ new) × (fork v ≡ u)). subst (λ i. Knows list base by deals key t' i u) (sym p.0) (subst (Knows list base by deals key t' new) p.1 (record {
              base_is = mine.base_is;
              seen = mine.seen;
              told = (t.history, refl);
              number = λ m z. subst (λ (i : ℕ). (i < 2 ^ 64) × (fate i ≡ living new)) (number_is m z) (small, here);
              mine = λ m z. subst (λ (i : ℕ). (of by i t.history ≡ []) × (of by i v.seen ≡ [])) (number_is m z) (nobody, none_before by n t.history v.seen mine.seen nobody);
              pending_is = λ m z. absurd (true≢false (sym z));
              joined_is = λ m z. absurd (true≢false (sym z));
              lost_is = λ m z. absurd (true≢false (sym z));
              ticket = λ k z. absurd (none_some k z);
              held = λ y z. absurd (none_some y z);
            })))
            (at_end vs (fork v) u j e.0);
        behind = r.behind;
        queue = λ k lo hi. pass_on (λ u. u.ticket ≡ Some k) (λ e. e) (r.queue k lo hi);
        first = by_bool (eqb 0 n) (λ z. ap (λ b. is_had (cond b (living new) (t.fate 0))) z) (λ z. ap (λ b. is_had (cond b (living new) (t.fate 0))) z ∙ r.first);
        given_is = λ m nz. r.given_is m nz ∙ by_bool (eqb m n)
            (λ z. ap (λ i. is_used (t.fate i)) (eqb_same m n z) ∙ (ap is_used mine_is.0 ∙ sym (ap (λ b. is_used (cond b (living new) (t.fate m))) z)))
            (λ z. sym (ap (λ b. is_used (cond b (living new) (t.fate m))) z));
        given_once = r.given_once;
        silent = λ m e. by_bool (eqb m n)
            (λ z. absurd (true≢false (sym (ap (λ b. is_had (cond b (living new) (t.fate m))) z) ∙ e)))
            (λ z. r.silent m (sym (ap (λ b. is_had (cond b (living new) (t.fate m))) z) ∙ e));
      }

  -- ---- a pass is joined to another

  pub merges : (key : B) (id : ℕ) (v : V) (b : ℕ) (other : ℕ) (w : V) (a : ℕ) → v.spent ≡ false → w.spent ≡ false → v.number ≡ Some b → w.number ≡ Some a
      → w.ticket ≡ None → w.held ≡ None → StartsWith v.seen w.seen → Joins (Turn list base by deals key) id v other w (merged v w) over
  merges key id v b other w a alive alive_w num_v num_w idle empty further s r at ne there =
      let t = r.now in
      let u' : V = merged v w in
      let mine = r.views id v (at, alive) in
      let was_w : Lives s.views other w = (sym (set_else s.views id other u' ne) ∙ there, alive_w) in
      let theirs = r.views other w was_w in
      let b_lives = (mine.number b num_v).1 in
      let a_lives = (theirs.number a num_w).1 in
      let fate : ℕ → Fate = λ m. cond (eqb m b) joined (cond (eqb m a) (living id) (t.fate m)) in
      let named : ℕ → ℕ = λ k. cond (eqb (t.named k) b) a (t.named k) in
      let t' : Now E = record t { fate = fate; named = named } in
      let differ : a ≢ b = λ e. ne (living_same other id (sym a_lives ∙ (ap t.fate e ∙ b_lives))) in
      let at_a : fate a ≡ living id = ap (λ z. cond z joined (cond (eqb a a) (living id) (t.fate a))) (ne_eqb a b differ) ∙ ap (λ z. cond z (living id) (t.fate a)) (eq-eqb a a refl) in
      let at_b : (m : ℕ) → m ≡ b → fate m ≡ joined = λ m e. ap (λ z. cond z joined (cond (eqb m a) (living id) (t.fate m))) (eq-eqb m b e) in
      let stays : (m : ℕ) → m ≢ a → m ≢ b → fate m ≡ t.fate m = λ m na nb. ap (λ z. cond z joined (cond (eqb m a) (living id) (t.fate m))) (ne_eqb m b nb) ∙ ap (λ z. cond z (living id) (t.fate m)) (ne_eqb m a na) in
      -- what has become of a number that no pass has stays
      let stays_dead : (m : ℕ) (f : Fate) → t.fate m ≡ f → ((j : ℕ) → living j ≢ f) → fate m ≡ f = λ m f e dead.
      stays m (λ same. dead other (sym a_lives ∙ (ap t.fate (sym same) ∙ e))) (λ same. dead id (sym b_lives ∙ (ap t.fate (sym same) ∙ e))) ∙ e in
      let had_same : (m : ℕ) → is_had (fate m) ≡ is_had (t.fate m) = λ m. dite (ℕ_discrete m b)
      (λ e. ap is_had (at_b m e) ∙ sym (ap (λ i. is_had (t.fate i)) e ∙ ap is_had b_lives))
      (λ nb. dite (ℕ_discrete m a)
      (λ e. ap (λ i. is_had (fate i)) e ∙ (ap is_had at_a ∙ sym (ap (λ i. is_had (t.fate i)) e ∙ ap is_had a_lives)))
      (λ na. ap is_had (stays m na nb))) in
      let used_same : (m : ℕ) → is_used (fate m) ≡ is_used (t.fate m) = λ m. dite (ℕ_discrete m b)
      (λ e. ap is_used (at_b m e) ∙ sym (ap (λ i. is_used (t.fate i)) e ∙ ap is_used b_lives))
      (λ nb. dite (ℕ_discrete m a)
      (λ e. ap (λ i. is_used (fate i)) e ∙ (ap is_used at_a ∙ sym (ap (λ i. is_used (t.fate i)) e ∙ ap is_used a_lives)))
      (λ na. ap is_used (stays m na nb))) in
      let named_b : (k : ℕ) → t.named k ≡ b → named k ≡ a = λ k e. ap (λ z. cond z a (t.named k)) (eq-eqb (t.named k) b e) in
      let named_else : (k : ℕ) → t.named k ≢ b → named k ≡ t.named k = λ k e. ap (λ z. cond z a (t.named k)) (ne_eqb (t.named k) b e) in record {
        now = t';
        wide = r.wide;
        next_ticket = r.next_ticket;
        serving = r.serving;
        count = r.count;
        value = (r.value.0, r.value.1, r.value.2, ⊎_elim inl (λ o. inr (still_two s.views id v u' other w at ne there alive (λ u. u.held ≡ Some r.value.0) (λ e. e) (λ e. none_some r.value.0 (sym empty ∙ e)) o)) r.value.3);
        views = λ j u e. ⊎_elim
            (λ (p : (j ≡ id) × (u' ≡ u)). subst (λ i. Knows list base by deals key t' i u) (sym p.0) (subst (Knows list base by deals key t' id) p.1 (record {
              base_is = mine.base_is;
              seen = mine.seen;
              told = mine.told;
              number = λ m z. subst (λ (i : ℕ). (i < 2 ^ 64) × (fate i ≡ living id)) (some_same a m (sym num_w ∙ z)) ((theirs.number a num_w).0, at_a);
              mine = λ m z. let q = theirs.mine m z in (q.0, between by m t.history w.seen v.seen w.mine mine.seen further q.0 q.1);
              pending_is = λ m z. let q = mine.pending_is m z in (stays_dead m pending q.0 (λ i c. cc), q.1);
              joined_is = λ m z. by_bool (eqb m b)
                  (λ e. at_b m (eqb_same m b e))
                  (λ e. stays_dead m joined (mine.joined_is m (sym (ap (λ x. x || has m v.joined) e) ∙ (sym (ap (λ o. has m (put_before o v.joined)) num_v) ∙ z))) (λ i c. cc));
              lost_is = λ m z. by_bool (has m v.lost)
                  (λ e. stays_dead m lost (mine.lost_is m e) (λ i c. cc))
                  (λ e. stays_dead m lost (theirs.lost_is m (or_right (has m w.lost) (has m v.lost) (sym (has_append m w.lost v.lost) ∙ z) e)) (λ i c. cc));
              ticket = λ k z. let q = mine.ticket k z in (q.0, q.1, num_w ∙ ap Some (sym (named_b k (some_same (t.named k) b (sym q.2 ∙ num_v)))));
              held = mine.held;
            })))
            (λ (p : (j ≢ id) × (j ≢ other) × Lives s.views j u). let o = r.views j u p.2 in
            let apart_a : (m : ℕ) → t.fate m ≡ living j → m ≢ a = λ m e' same. p.1 (living_same j other (sym e' ∙ (ap t.fate same ∙ a_lives))) in
            let apart_b : (m : ℕ) → t.fate m ≡ living j → m ≢ b = λ m e' same. p.0 (living_same j id (sym e' ∙ (ap t.fate same ∙ b_lives))) in record {
              base_is = o.base_is;
              seen = o.seen;
              told = o.told;
              number = λ m z. let q = o.number m z in (q.0, stays m (apart_a m q.1) (apart_b m q.1) ∙ q.1);
              mine = o.mine;
              pending_is = λ m z. let q = o.pending_is m z in (stays_dead m pending q.0 (λ i c. cc), q.1);
              joined_is = λ m z. stays_dead m joined (o.joined_is m z) (λ i c. cc);
              lost_is = λ m z. stays_dead m lost (o.lost_is m z) (λ i c. cc);
              ticket = λ k z. let q = o.ticket k z in (q.0, q.1, q.2 ∙ ap Some (sym (named_else k (apart_b (t.named k) (o.number (t.named k) q.2).1))));
              held = o.held;
            })
            (two_changed s.views id u' other j u e);
        behind = r.behind;
        queue = λ k lo hi. still_two s.views id v u' other w at ne there alive (λ u. u.ticket ≡ Some k) (λ e. e) (λ e. none_some k (sym idle ∙ e)) (r.queue k lo hi);
        first = had_same 0 ∙ r.first;
        given_is = λ m nz. r.given_is m nz ∙ sym (used_same m);
        given_once = r.given_once;
        silent = λ m e. r.silent m (sym (had_same m) ∙ e);
      }
