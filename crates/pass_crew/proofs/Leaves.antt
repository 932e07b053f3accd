-- The next pass leaves, or stays.
use Rattle.std.proofs.Common.{◌≡◌, ◌≢◌, ◌∙◌, inl, inr, ◌<◌, ◌≤◌, ◌+◌, ℕ, zero, suc, false, List, [], ◌∷◌, ◌++◌, length, refl, sym, ap, subst, arith, length-append}
use Rattle.core_event.specs.declared.entry.Entry.{Entry}
use Rattle.ws_core.specs.States.{Moment}
use Rattle.ws_core.specs.Histories.{has_entered, replay, Legal}
use Rattle.run_order.specs.Lists.{own, Begins, Cut, Grew}
use Rattle.run_order.specs.Fronts.{enters, Front}
use Rattle.run_order.proofs.Lists.{begins_on, cut_none, cut_whole, some_acts}
use Rattle.run_order.proofs.Meetings.{above}
use Rattle.run_order.proofs.Numbers.{enters_append}
use Rattle.core_event.specs.declared.event.Event.TheVariants.{Leave}
use Rattle.phase_pool.specs.Passes.{Known, LooksOn, Makes}
use Rattle.phase_pool.specs.Workers.{Hand, nobody, worker_at}
use Rattle.phase_pool.specs.Inside.Meeting.{Gathers, HasSeen}
use Rattle.phase_pool.proofs.Pairs.{pairs_at, pairs_len}
use Rattle.phase_pool.proofs.Passes.{grew_at, makes_looks, makes_wider, same_at}
use Rattle.pass_crew.specs.Passes.{Leaving, Remains, TakesIn}
use Rattle.pass_crew.specs.declared.stopped.Stays.{Stays}
use Rattle.pass_crew.specs.declared.stopped.Stays.TheVariants.{Busy, Memory}
use Rattle.pass_crew.specs.Inside.Assembled.{Assembled, LeftNone, LeftOne}
use Rattle.pass_crew.proofs.Entering.{cut_leaving_quiet, leaving_quiet}
use Rattle.pass_crew.proofs.Meetings.{gathered_same, gone_after, gone_same}
use Rattle.pass_crew.proofs.Places.{at_front, at_last, each_more}
use Rattle.pass_crew.proofs.Stages.{below_or_not, same_or_not, stage, up_to}

-- what a pass that stays made is the beginning of leaving
pub remained : (why : Stays) (k k' : Known) → Remains why k k' → Makes (Cut (Leaving k.number)) k k'
remained Busy k k' r = makes_wider (Leaving k.number) (Cut (Leaving k.number)) k k' (cut_whole (Leaving k.number)) r
remained Memory k k' r = makes_wider (λ h. h ≡ []) (Cut (Leaving k.number)) k k' (λ h e. subst (Cut (Leaving k.number)) (sym e) (cut_none (Leaving k.number) (some_acts ((k.number, Leave) ∷ [])))) r

module _ {Kept : ℕ → List Entry → Type 0} {s : Moment} {n gone : ℕ} {k0 : Known} (o : Hand) (vs : List Hand) (a : Assembled Kept s n gone k0 (o ∷ vs)) where
  -- ---- the first worker

  pub its_number : o.known.number ≡ gone + 1
  its_number = a.numbers 0 (omega arith)

  its_seen : o.known.seen ≡ k0.seen
  its_seen = a.seen 0 (omega arith)

  next_number : (i : ℕ) → i < length vs → (worker_at vs i).known.number ≡ (gone + 1) + (i + 1)
  next_number i lt = let e = a.numbers (suc i) (omega (arith, lt)) in omega (arith, e)

  next_seen : (i : ℕ) → i < length vs → (worker_at vs i).known.seen ≡ k0.seen
  next_seen i lt = a.seen (suc i) (omega (arith, lt))

  -- ---- it alone made something

  module _ (k2 : Known) (ws : List Hand) (P : List Entry → Type 0) (quiet : (l : List Entry) → P l → enters l ≡ 0) (begins : Begins k0.seen k2.seen) (legal : Legal s k2.seen) (looks : LooksOn k0 k2)
      (at : (i : ℕ) → i < length vs → HasSeen k2.seen (worker_at vs i) (worker_at ws i)) (made : Grew P (own (gone + 1) k0.seen) (own (gone + 1) k2.seen)) where
    zeroth_same : own 0 k2.seen ≡ own 0 k0.seen
    zeroth_same = same_at 0 k0.seen k2.seen k0 k2 a.zeroth refl refl looks

    others_same : (j : ℕ) → 0 < j → j ≤ n → j ≢ gone + 1 → own j k2.seen ≡ own j k0.seen
    others_same = up_to (gone + 1) n (λ j. j ≢ gone + 1 → own j k2.seen ≡ own j k0.seen)
        (λ j p q ne. gone_same a k2.seen begins legal j p (omega (arith, q, ne)))
        (λ i le ne. let e = a.len in let lt : i < length vs = omega (arith, e, le) in
        same_at ((gone + 1) + (i + 1)) k0.seen k2.seen (worker_at vs i).known (worker_at ws i).known (next_number i lt) (next_seen i lt) (at i lt).seen (at i lt).looks)

    workers_none : (i : ℕ) → i < n → enters (own (i + 1) k2.seen) ≡ 0
    workers_none i lt = elim (same_or_not (i + 1) (gone + 1)) [
      | inl is ↦ (let before = a.front.workers i lt in
          let one = ap (λ j. enters (own j k0.seen)) is in
          let more = ap enters made.1 ∙ enters_append (own (gone + 1) k0.seen) made.0 in
          let none = quiet made.0 made.2 in
          let that : enters (own (gone + 1) k2.seen) ≡ 0 = omega (arith, before, one, more, none) in
          subst (λ j. enters (own j k2.seen) ≡ 0) (sym is) that)
      | inr ne ↦ ap enters (others_same (i + 1) (omega arith) (omega (arith, lt)) ne) ∙ a.front.workers i lt
    ]

    pub front_after : Front n s k2.seen
    front_after = record { opened = a.front.opened; legal = legal; zeroth = ap enters zeroth_same ∙ a.front.zeroth; workers = workers_none }

    rest_same : (j : ℕ) → j ≤ n → j ≢ gone + 1 → own j k2.seen ≡ own j k0.seen
    rest_same zero le ne = zeroth_same
    rest_same (suc i) le ne = others_same (suc i) (omega arith) le ne

    pub grew_after : Grew P k0.seen k2.seen
    grew_after = stage n (gone + 1) P k0.seen k2.seen begins rest_same (above n s k2.seen front_after) made

  module _ (keeps : (j : ℕ) (g h : List Entry) → Kept j g → Begins g h → own j h ≡ own j g → Kept j h) where
    kept_before : (h : List Entry) → Begins k0.seen h → Legal s h → (j : ℕ) → 0 < j → j ≤ gone → Kept j h
    kept_before h b legal j p q = keeps j k0.seen h (a.kept j p q) b (gone_same a h b legal j p q)

    -- ---- it left

    module _ (k1 k2 : Known) (ws : List Hand) (t : TakesIn s k0 o.known k1) (g : Gathers k1 k2 vs ws) (legal : Legal s k2.seen) (now : Kept o.known.number k1.seen) where
      same : k2.seen ≡ k1.seen
      same = gathered_same k1 k2 vs ws g (λ i lt. subst (λ h. Begins h k1.seen) (sym (next_seen i lt)) t.looks.begins)

      begins : Begins k0.seen k2.seen
      begins = begins_on k0.seen k1.seen k2.seen t.looks.begins g.looks.begins

      looks : LooksOn k0 k2
      looks = makes_looks (λ h. h ≡ []) k0 k1 k2 t.looks g.looks

      len : length ws ≡ length vs
      len = pairs_len (HasSeen k2.seen) vs ws g.workers

      at : (i : ℕ) → i < length vs → HasSeen k2.seen (worker_at vs i) (worker_at ws i)
      at i lt = pairs_at (HasSeen k2.seen) vs ws i nobody lt g.workers

      made : Grew (Leaving (gone + 1)) (own (gone + 1) k0.seen) (own (gone + 1) k2.seen)
      made = subst (λ h. Grew (Leaving (gone + 1)) (own (gone + 1) k0.seen) (own (gone + 1) h)) (sym same)
          (subst (λ h. Grew (Leaving (gone + 1)) (own (gone + 1) h) (own (gone + 1) k1.seen)) its_seen
          (subst (λ m. Grew (Leaving m) (own m o.known.seen) (own m k1.seen)) its_number t.left))

      -- what holds of those that were gone, and of it
      with_it : (Q : ℕ → Type 0) → ((j : ℕ) → 0 < j → j ≤ gone → Q j) → Q (gone + 1) → (j : ℕ) → 0 < j → j ≤ gone + 1 → Q j
      with_it Q f q j some few = elim (below_or_not gone j) [
        | inl lt ↦ (let is : gone + 1 ≡ j = omega (arith, lt, few) in subst Q is q)
        | inr le ↦ f j some le
      ]

      pub left_one : LeftOne Kept s n gone k0 k2 ws
      left_one = record {
        grew = grew_after k2 ws (Leaving (gone + 1)) (leaving_quiet (gone + 1)) begins legal looks at made;
        assembled = record {
          front = front_after k2 ws (Leaving (gone + 1)) (leaving_quiet (gone + 1)) begins legal looks at made;
          zeroth = looks.number ∙ a.zeroth;
          len = (let e = a.len in let f = len in omega (arith, e, f));
          numbers = λ i lt. let there = subst (λ m. i < m) len lt in (at i there).looks.number ∙ next_number i there;
          seen = λ i lt. (at i (subst (λ m. i < m) len lt)).seen;
          absent = with_it (λ j. has_entered j (replay s k2.seen) ≡ false) (gone_after a k2.seen begins)
              (subst (λ h. has_entered (gone + 1) (replay s h) ≡ false) (sym same) (subst (λ m. has_entered m (replay s k1.seen) ≡ false) its_number t.gone));
          kept = with_it (λ j. Kept j k2.seen) (kept_before k2.seen begins legal) (subst (Kept (gone + 1)) (sym same) (subst (λ m. Kept m k1.seen) its_number now));
        };
      }

    -- ---- it stays

    module _ (k1 k2 : Known) (e : Hand) (ws : List Hand) (l : LooksOn k0 k1) (r : Makes (Cut (Leaving o.known.number)) o.known e.known) (g : Gathers k1 k2 (vs ++ e ∷ []) ws) (legal : Legal s k2.seen)
        (now : (i : ℕ) → i < length ws → Kept (worker_at ws i).known.number (worker_at ws i).known.seen) where
      stay_begins : Begins k0.seen k2.seen
      stay_begins = begins_on k0.seen k1.seen k2.seen l.begins g.looks.begins

      stay_looks : LooksOn k0 k2
      stay_looks = makes_looks (λ h. h ≡ []) k0 k1 k2 l g.looks

      stay_len : length ws ≡ length vs + 1
      stay_len = pairs_len (HasSeen k2.seen) (vs ++ e ∷ []) ws g.workers ∙ length-append vs (e ∷ [])

      each : (i : ℕ) → i < length ws → HasSeen k2.seen (worker_at (vs ++ e ∷ []) i) (worker_at ws i)
      each i lt = pairs_at (HasSeen k2.seen) (vs ++ e ∷ []) ws i nobody (subst (λ m. i < m) (pairs_len (HasSeen k2.seen) (vs ++ e ∷ []) ws g.workers) lt) g.workers

      stay_at : (i : ℕ) → i < length vs → HasSeen k2.seen (worker_at vs i) (worker_at ws i)
      stay_at i lt = let f = stay_len in subst (λ v. HasSeen k2.seen v (worker_at ws i)) (at_front vs e i lt) (each i (omega (arith, f, lt)))

      last : HasSeen k2.seen e (worker_at ws (length vs))
      last = let f = stay_len in subst (λ v. HasSeen k2.seen v (worker_at ws (length vs))) (at_last vs e) (each (length vs) (omega (arith, f)))

      last_number : (worker_at ws (length vs)).known.number ≡ gone + 1
      last_number = last.looks.number ∙ (r.number ∙ its_number)

      stay_made : Grew (Cut (Leaving (gone + 1))) (own (gone + 1) k0.seen) (own (gone + 1) k2.seen)
      stay_made = grew_at (Cut (Leaving (gone + 1))) (gone + 1) k0.seen k2.seen o.known (worker_at ws (length vs)).known its_number its_seen last.seen
          (makes_looks (Cut (Leaving (gone + 1))) o.known e.known (worker_at ws (length vs)).known (subst (λ m. Makes (Cut (Leaving m)) o.known e.known) its_number r) last.looks)

      numbered : (i : ℕ) → i < length ws → (0 < (worker_at ws i).known.number) × ((worker_at ws i).known.number ≤ n)
      numbered i lt =
          let is = (each i lt).looks.number in
          let those = each_more (λ h j. (0 < h.known.number) × (h.known.number ≤ n)) vs e
          (λ j less. let m = next_number j less in let f = a.len in (omega (arith, m), omega (arith, m, f, less)))
          (let m = r.number ∙ its_number in let f = a.len in (omega (arith, m), omega (arith, m, f))) i
          (subst (λ m. i < m) (pairs_len (HasSeen k2.seen) (vs ++ e ∷ []) ws g.workers) lt) in
          let some = those.0 in
          let few = those.1 in
          (omega (arith, is, some), omega (arith, is, few))

      front_stay : Front n s k2.seen
      front_stay = front_after k2 ws (Cut (Leaving (gone + 1))) (cut_leaving_quiet (gone + 1)) stay_begins legal stay_looks stay_at stay_made

      -- by the place of a worker
      kept_at : (i m : ℕ) → i < length ws → (worker_at ws i).known.number ≡ m → (worker_at ws i).known.seen ≡ k2.seen → Kept m k2.seen
      kept_at i m lt is seen = subst (λ h. Kept m h) seen (subst (λ j. Kept j (worker_at ws i).known.seen) is (now i lt))

      kept_all : (j : ℕ) → 0 < j → j ≤ n → Kept j k2.seen
      kept_all = up_to (gone + 1) n (λ j. Kept j k2.seen)
          (λ j some few. elim (below_or_not gone j) [
            | inl lt ↦ (let f = stay_len in kept_at (length vs) j (omega (arith, f)) (last_number ∙ omega (arith, lt, few)) last.seen)
            | inr le ↦ kept_before k2.seen stay_begins legal j some le
          ])
          (λ i le. let f = a.len in let h = stay_len in let lt : i < length vs = omega (arith, f, le) in
          kept_at i ((gone + 1) + (i + 1)) (omega (arith, h, lt)) ((stay_at i lt).looks.number ∙ next_number i lt) (stay_at i lt).seen)

      pub left_none : LeftNone Kept n gone k0 k2 ws
      left_none = record {
        some = (let f = stay_len in omega (arith, f));
        grew = grew_after k2 ws (Cut (Leaving (gone + 1))) (cut_leaving_quiet (gone + 1)) stay_begins legal stay_looks stay_at stay_made;
        ended = record {
          zeroth = stay_looks.number ∙ a.zeroth;
          len = (let f = stay_len in let e = a.len in omega (arith, e, f));
          seen = λ i lt. (each i lt).seen;
          some = λ i lt. (numbered i lt).0;
          few = λ i lt. (numbered i lt).1;
          kept = λ j p q. let z = front_stay.zeroth in kept_all j p (omega (arith, q, z));
        };
      }
