-- Where all passes that are still there have met, and what is new at the next such meeting.
use Rattle.std.proofs.Common.{◌≡◌, ◌∙◌, inl, inr, ◌<◌, ◌≤◌, ◌+◌, ℕ, suc, false, List, [], ◌∷◌, ◌++◌, length, map, refl, sym, ap, subst, arith, append-nil}
use Rattle.std.proofs.lemmas.List.{length-map}
use Rattle.core_event.specs.declared.entry.Entry.{Entry}
use Rattle.ws_core.specs.States.{Moment}
use Rattle.ws_core.specs.Histories.{has_entered, entered, replay, Legal}
use Rattle.ws_core.proofs.Grown.{entered_append, replay_append}
use Rattle.run_order.specs.Lists.{own, Begins, Grew}
use Rattle.run_order.specs.Fronts.{enters, Front}
use Rattle.run_order.proofs.Lists.{begins_on, own_append}
use Rattle.run_order.proofs.Meetings.{above}
use Rattle.phase_pool.specs.Passes.{Known, LooksOn}
use Rattle.phase_pool.specs.Phases.{Came}
use Rattle.phase_pool.specs.Workers.{Hand, Together, nobody, worker_at}
use Rattle.phase_pool.specs.Inside.Meeting.{Gathers, HasSeen, IsOfOne}
use Rattle.phase_pool.proofs.Pairs.{pairs_at, pairs_len}
use Rattle.phase_pool.proofs.Passes.{begins_both, grew_at, makes_looks, same_at}
use Rattle.pass_crew.specs.Inside.Assembled.{Assembled, Ended}
use Rattle.pass_crew.proofs.Gone.{IsGone, after_gone, both, silent, was_given}
use Rattle.pass_crew.proofs.Stages.{nothing_new, stage, up_to}

-- what one of the workers has seen is no more than what pass 0 has
no_more : (h h' : List Entry) (hands : List Hand) → Begins h h' → ((i : ℕ) → i < length hands → Begins (worker_at hands i).known.seen h) → IsOfOne h' hands → h' ≡ h
no_more h h' [] b f o = absurd o
no_more h h' (w ∷ ws) b f o = elim o [
  | inl e ↦ begins_both h h' b (subst (λ z. Begins z h) (sym e) (f 0 (omega arith)))
  | inr p ↦ no_more h h' ws b (λ i lt. f (suc i) (omega (arith, lt))) p
]

-- where the workers had seen no more than pass 0, nothing is new to it
pub gathered_same : (k k' : Known) (vs ws : List Hand) → Gathers k k' vs ws → ((i : ℕ) → i < length vs → Begins (worker_at vs i).known.seen k.seen) → k'.seen ≡ k.seen
gathered_same k k' vs ws g f = elim g.one [ inl e ↦ e | inr o ↦ no_more k.seen k'.seen vs g.looks.begins f o ]

-- ---- all passes, and those that are still there

module _ (Kept : ℕ → List Entry → Type 0) (s : Moment) where
  pub assembled_of : (k : Known) (hands : List Hand) → Together s k hands → Assembled Kept s (length hands) 0 k hands
  assembled_of k hands t = record {
    front = t.front;
    zeroth = t.zeroth;
    len = omega arith;
    numbers = λ i lt. let e = t.numbers i lt in omega (arith, e);
    seen = t.seen;
    absent = λ j p q. absurd (omega (arith, p, q));
    kept = λ j p q. absurd (omega (arith, p, q));
  }

  pub together_of : (n : ℕ) (k : Known) (hands : List Hand) → Assembled Kept s n 0 k hands → Together s k hands
  together_of n k hands a = let e = a.len in let same : n ≡ length hands = omega (arith, e) in record {
    front = subst (λ m. Front m s k.seen) same a.front;
    zeroth = a.zeroth;
    numbers = λ i lt. let e = a.numbers i lt in omega (arith, e);
    seen = a.seen;
  }

module _ {Kept : ℕ → List Entry → Type 0} {s : Moment} {n gone : ℕ} {k0 : Known} {vs : List Hand} (a : Assembled Kept s n gone k0 vs) where
  -- ---- those that are gone

  is_gone : (j : ℕ) → 0 < j → j ≤ gone → IsGone j (replay s k0.seen).manager
  is_gone j p q = let e = a.len in (a.absent j p q, was_given n s k0.seen a.front j (omega (arith, e, q)))

  pub gone_same : (h : List Entry) → Begins k0.seen h → Legal s h → (j : ℕ) → 0 < j → j ≤ gone → own j h ≡ own j k0.seen
  gone_same h b legal j p q =
      let rest = (both (entered s k0.seen) (entered (replay s k0.seen) b.0) (sym (entered_append s k0.seen b.0) ∙ (ap (entered s) (sym b.1) ∙ legal.entered))).1 in
      ap (own j) b.1 ∙ (own_append j k0.seen b.0 ∙ (ap (λ l. own j k0.seen ++ l) (silent j (replay s k0.seen) b.0 (is_gone j p q) rest) ∙ append-nil (own j k0.seen)))

  pub gone_after : (h : List Entry) → Begins k0.seen h → (j : ℕ) → 0 < j → j ≤ gone → has_entered j (replay s h) ≡ false
  gone_after h b j p q = ap (has_entered j) (ap (replay s) b.1 ∙ replay_append s k0.seen b.0) ∙ (after_gone j (replay s k0.seen) b.0 (is_gone j p q)).0

  -- where a run ends, of those that are still there and of those that are gone
  pub ended_of : (m : ℕ) → n ≤ m → ((i : ℕ) → i < length vs → Kept (worker_at vs i).known.number (worker_at vs i).known.seen) → Ended Kept m k0 vs
  ended_of m le now = let e = a.len in record {
    zeroth = a.zeroth;
    len = omega (arith, e, le);
    seen = a.seen;
    some = λ i lt. let f = a.numbers i lt in omega (arith, f);
    few = λ i lt. let f = a.numbers i lt in omega (arith, f, e, lt, le);
    kept = λ j p q. let z = a.front.zeroth in up_to gone n (λ l. Kept l k0.seen) a.kept
        (λ i f. let lt : i < length vs = omega (arith, e, f) in subst (λ h. Kept (gone + (i + 1)) h) (a.seen i lt) (subst (λ l. Kept l (worker_at vs i).known.seen) (a.numbers i lt) (now i lt)))
        j p (omega (arith, q, z));
  }

  -- ---- where nobody made anything

  module _ (k1 k2 : Known) (ws : List Hand) (l : LooksOn k0 k1) (g : Gathers k1 k2 vs ws) (legal : Legal s k2.seen) where
    len : length ws ≡ length vs
    len = pairs_len (HasSeen k2.seen) vs ws g.workers

    at : (i : ℕ) → i < length vs → HasSeen k2.seen (worker_at vs i) (worker_at ws i)
    at i lt = pairs_at (HasSeen k2.seen) vs ws i nobody lt g.workers

    begins : Begins k0.seen k2.seen
    begins = begins_on k0.seen k1.seen k2.seen l.begins g.looks.begins

    looks : LooksOn k0 k2
    looks = makes_looks (λ h. h ≡ []) k0 k1 k2 l g.looks

    all_same : (j : ℕ) → 0 < j → j ≤ n → own j k2.seen ≡ own j k0.seen
    all_same = up_to gone n (λ j. own j k2.seen ≡ own j k0.seen) (gone_same k2.seen begins legal)
        (λ i le. let e = a.len in let lt : i < length vs = omega (arith, e, le) in
        same_at (gone + (i + 1)) k0.seen k2.seen (worker_at vs i).known (worker_at ws i).known (a.numbers i lt) (a.seen i lt) (at i lt).seen (at i lt).looks)

    front : Front n s k2.seen
    front = record {
      opened = a.front.opened;
      legal = legal;
      zeroth = ap enters (same_at 0 k0.seen k2.seen k0 k2 a.zeroth refl refl looks) ∙ a.front.zeroth;
      workers = λ i lt. ap enters (all_same (i + 1) (omega arith) (omega (arith, lt))) ∙ a.front.workers i lt;
    }

    pub same_seen : k2.seen ≡ k0.seen
    same_seen = nothing_new k0.seen k2.seen (stage n 0 (λ h. h ≡ []) k0.seen k2.seen begins (λ j le ne. all_same j (omega (arith, ne)) le) (above n s k2.seen front)
        (grew_at (λ h. h ≡ []) 0 k0.seen k2.seen k0 k2 a.zeroth refl refl looks))

    pub assembled_still : Assembled Kept s n gone k2 ws
    assembled_still = record {
      front = front;
      zeroth = looks.number ∙ a.zeroth;
      len = ap (λ m. gone + m) len ∙ a.len;
      numbers = λ i lt. let there = subst (λ m. i < m) len lt in (at i there).looks.number ∙ a.numbers i there;
      seen = λ i lt. (at i (subst (λ m. i < m) len lt)).seen;
      absent = λ j p q. gone_after k2.seen begins j p q;
      kept = λ j p q. subst (Kept j) (sym same_seen) (a.kept j p q);
    }

-- ---- as many workers as before

pub gathered_len : {W : Type 0} (f : W → Hand) (k k' : Known) (xs ys : List W) → Gathers k k' (map f xs) (map f ys) → length ys ≡ length xs
gathered_len f k k' xs ys g = sym (length-map ys f) ∙ (pairs_len (HasSeen k'.seen) (map f xs) (map f ys) g.workers ∙ length-map xs f)

-- ---- where all came to what nothing is new behind

pub came_still : (Kept : ℕ → List Entry → Type 0) (s : Moment) (P : List Entry → Type 0) (k k1 k2 : Known) (vs ws zs : List Hand) → Came s P k vs k1 ws
    → ((n : ℕ) (gone : ℕ) → Assembled Kept s n gone k1 ws → Assembled Kept s n gone k2 zs) → k2.seen ≡ k1.seen → Came s P k vs k2 zs
came_still Kept s P k k1 k2 vs ws zs c f same =
    let a = f (length ws) 0 (assembled_of Kept s k1 ws c.together) in
    let e = a.len in
    let d = c.len in
    record { len = omega (arith, e, d); together = together_of Kept s (length ws) k2 zs a; grew = subst (Grew P k.seen) (sym same) c.grew }
