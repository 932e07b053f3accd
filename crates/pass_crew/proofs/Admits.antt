-- One more pass is let in.
use Rattle.std.proofs.Common.{◌≡◌, ◌∙◌, ◌⊎◌, inl, inr, ◌<◌, ◌≤◌, ◌+◌, ℕ, zero, suc, true, false, List, [], ◌∷◌, ◌++◌, length, refl, sym, ap, subst, arith, length-append}
use Rattle.core_event.specs.declared.event.Event.TheVariants.{Enter}
use Rattle.pass_table.specs.Passes.{Passes, first_pass}
use Rattle.ws_core.specs.States.{Moment}
use Rattle.ws_core.specs.Histories.{entered, replay, Legal}
use Rattle.ws_core.proofs.Grown.{entered_append}
use Rattle.run_order.specs.Lists.{acts, entry, own, Begins}
use Rattle.run_order.specs.Fronts.{enters, Front}
use Rattle.run_order.specs.Orders.{Enters}
use Rattle.run_order.proofs.Lists.{begins_on, begins_same}
use Rattle.run_order.proofs.Numbers.{Below, enters_append, first_below, within}
use Rattle.phase_pool.specs.Passes.{Known, LooksOn}
use Rattle.phase_pool.specs.Workers.{Hand, nobody, worker_at}
use Rattle.phase_pool.specs.Inside.Meeting.{Gathers, HasSeen}
use Rattle.phase_pool.proofs.Pairs.{pairs_at, pairs_len}
use Rattle.phase_pool.proofs.Passes.{grew_at, same_at}
use Rattle.phase_pool.proofs.Phases.{go_on_gathered}
use Rattle.pass_crew.specs.Passes.{LetsIn}
use Rattle.pass_crew.specs.Inside.Admitted.{Admitted}
use Rattle.pass_crew.proofs.Entering.{entered_many, enters_more, own_end_no, own_end_yes}
use Rattle.pass_crew.proofs.Gone.{both}
use Rattle.pass_crew.proofs.Meetings.{assembled_of, assembled_still, gathered_same, same_seen, together_of}
use Rattle.pass_crew.proofs.Places.{at_front, each_more}
use Rattle.pass_crew.proofs.Stages.{below_or_not, nothing_new, stage}

from_one : (n : ℕ) (Q : ℕ → Type 0) → ((i : ℕ) → i < n → Q (i + 1)) → (j : ℕ) → 0 < j → j ≤ n → Q j
from_one n Q f zero a b = absurd (omega (arith, a))
from_one n Q f (suc i) a b = let e : i + 1 ≡ suc i = omega arith in subst Q e (f i (omega (arith, b)))

-- no pass was let in yet
pub admitted_none : (s : Moment) (k : Known) → s.manager.passes ≡ first_pass → k.number ≡ 0 → k.seen ≡ [] → Legal s k.seen → Admitted s k []
admitted_none s k opened zeroth none legal = record {
  together = record {
    front = record { opened = opened; legal = legal; zeroth = ap (λ h. enters (own 0 h)) none; workers = λ i lt. absurd (omega (arith, lt)) };
    zeroth = zeroth;
    numbers = λ i lt. absurd (omega (arith, lt));
    seen = λ i lt. absurd (omega (arith, lt));
  };
  enter = ap acts none;
  go_on = λ i lt. absurd (omega (arith, lt));
}

-- no other is let in
pub admitted_still : (s : Moment) (k0 k1 k2 : Known) (vs ws : List Hand) → Admitted s k0 vs → LooksOn k0 k1 → Gathers k1 k2 vs ws → Legal s k2.seen → Admitted s k2 ws
admitted_still s k0 k1 k2 vs ws a l g legal =
    let whole = assembled_of (λ j h. Unit {0}) s k0 vs a.together in
    let same = same_seen whole k1 k2 ws l g legal in
    record {
      together = together_of (λ j h. Unit {0}) s (length vs) k2 ws (assembled_still whole k1 k2 ws l g legal);
      enter = subst (λ n. Enters n k2.seen) (sym (pairs_len (HasSeen k2.seen) vs ws g.workers)) (subst (Enters (length vs)) (sym same) a.enter);
      go_on = go_on_gathered k1 k2 vs ws g a.go_on;
    }

below_or_same : (i n : ℕ) → i < n + 1 → (i < n) ⊎ (i ≡ n)
below_or_same i n lt = elim (below_or_not i n) [ inl less ↦ inl less | inr le ↦ inr (omega (arith, lt, le)) ]

module _ (s : Moment) (k0 k1 k2 new : Known) (vs ws : List Hand) (w : Hand) (is : w.known ≡ new) (goes : w.stopped ≡ false) (a : Admitted s k0 vs) (l : LetsIn k0 k1 new)
    (g : Gathers k1 k2 (vs ++ w ∷ []) ws) (legal : Legal s k2.seen) where
  -- ---- the meeting

  to_new : Begins k0.seen k1.seen
  to_new = begins_on k0.seen l.found.seen k1.seen l.looked.begins (entry k0.number Enter l.reply ∷ [], l.seen)

  same : k2.seen ≡ k1.seen
  same = gathered_same k1 k2 (vs ++ w ∷ []) ws g (each_more (λ h j. Begins h.known.seen k1.seen) vs w
      (λ i lt. subst (λ h. Begins h k1.seen) (sym (a.together.seen i lt)) to_new)
      (subst (λ h. Begins h k1.seen) (sym (ap (λ (k : Known). k.seen) is ∙ l.new_seen)) (begins_same k1.seen)))

  len : length ws ≡ length vs + 1
  len = pairs_len (HasSeen k2.seen) (vs ++ w ∷ []) ws g.workers ∙ length-append vs (w ∷ [])

  at : (i : ℕ) → i < length ws → HasSeen k2.seen (worker_at (vs ++ w ∷ []) i) (worker_at ws i)
  at i lt = pairs_at (HasSeen k2.seen) (vs ++ w ∷ []) ws i nobody (subst (λ m. i < m) (pairs_len (HasSeen k2.seen) (vs ++ w ∷ []) ws g.workers) lt) g.workers

  -- the others made nothing
  worker_same : (i : ℕ) → i < length vs → own (i + 1) k1.seen ≡ own (i + 1) k0.seen
  worker_same i lt =
      let e = len in
      let h = subst (λ v. HasSeen k2.seen v (worker_at ws i)) (at_front vs w i lt) (at i (omega (arith, e, lt))) in
      subst (λ z. own (i + 1) z ≡ own (i + 1) k0.seen) same
      (same_at (i + 1) k0.seen k2.seen (worker_at vs i).known (worker_at ws i).known (a.together.numbers i lt) (a.together.seen i lt) h.seen h.looks)

  -- ---- what pass 0 found

  found_zeroth : own 0 l.found.seen ≡ own 0 k0.seen
  found_zeroth = same_at 0 k0.seen l.found.seen k0 l.found a.together.zeroth refl refl l.looked

  found_worker : (i : ℕ) → i < length vs → own (i + 1) l.found.seen ≡ own (i + 1) k0.seen
  found_worker i lt =
      let z = a.together.zeroth in
      sym (own_end_no (i + 1) l.found.seen (entry k0.number Enter l.reply) (λ e. absurd (omega (arith, e, z)))) ∙ (ap (own (i + 1)) (sym l.seen) ∙ worker_same i lt)

  found_entered : entered s l.found.seen ≡ true
  found_entered = (both (entered s l.found.seen) (entered (replay s l.found.seen) (entry k0.number Enter l.reply ∷ []))
      (sym (entered_append s l.found.seen (entry k0.number Enter l.reply ∷ [])) ∙ (ap (entered s) (sym l.seen ∙ sym same) ∙ legal.entered))).0

  found_above : (j : ℕ) → length vs < j → own j l.found.seen ≡ []
  found_above =
      let f = a.together.front in
      let next = ap (λ (p : Passes _). p.next) f.opened in
      let zeroth = ap enters found_zeroth ∙ f.zeroth in
      within (length vs) s l.found.seen (subst (λ (p : Passes _). Below p.there p.next) (sym f.opened) first_below) found_entered (omega (arith, zeroth, next))
      (from_one (length vs) (λ j. enters (own j l.found.seen) ≡ 0) (λ i lt. ap enters (found_worker i lt) ∙ f.workers i lt))

  found_same : l.found.seen ≡ k0.seen
  found_same = nothing_new k0.seen l.found.seen (stage (length vs) 0 (λ h. h ≡ []) k0.seen l.found.seen l.looked.begins
      (λ j le ne. from_one (length vs) (λ i. own i l.found.seen ≡ own i k0.seen) found_worker j (omega (arith, ne)) le) found_above
      (grew_at (λ h. h ≡ []) 0 k0.seen l.found.seen k0 l.found a.together.zeroth refl refl l.looked))

  one_more : k1.seen ≡ k0.seen ++ entry k0.number Enter l.reply ∷ []
  one_more = l.seen ∙ ap (λ h. h ++ entry k0.number Enter l.reply ∷ []) found_same

  enter : Enters (length vs + 1) k2.seen
  enter = subst (Enters (length vs + 1)) (sym (same ∙ one_more))
      (enters_more (length vs) k0.seen (entry k0.number Enter l.reply ∷ []) a.enter (ap (λ m. (m, Enter) ∷ []) a.together.zeroth))

  -- ---- the new one

  new_number : new.number ≡ length vs + 1
  new_number = l.new_number ∙ (ap enters (sym same) ∙ entered_many (length vs + 1) k2.seen enter)

  new_quiet : own (length vs + 1) k2.seen ≡ []
  new_quiet = ap (λ h. own (length vs + 1) h) (same ∙ sym l.new_seen) ∙ subst (λ m. own m new.seen ≡ []) new_number l.new_quiet

  zeroth_more : enters (own 0 k2.seen) ≡ length vs + 1
  zeroth_more =
      let e = ap (λ h. enters (own 0 h)) (same ∙ one_more) in
      let f = ap enters (own_end_yes 0 k0.seen (entry k0.number Enter l.reply) a.together.zeroth) in
      let h = enters_append (own 0 k0.seen) (entry k0.number Enter l.reply ∷ []) in
      let z = a.together.front.zeroth in
      omega (arith, e, f, h, z)

  workers_none : (i : ℕ) → i < length vs + 1 → enters (own (i + 1) k2.seen) ≡ 0
  workers_none i lt = elim (below_or_same i (length vs) lt) [
    | inl less ↦ ap enters (ap (own (i + 1)) same ∙ worker_same i less) ∙ a.together.front.workers i less
    | inr e ↦ ap enters (subst (λ j. own (j + 1) k2.seen ≡ []) (sym e) new_quiet)
  ]

  pub admitted_more : Admitted s k2 ws
  admitted_more = record {
    together = record {
      front = subst (λ m. Front m s k2.seen) (sym len) (record { opened = a.together.front.opened; legal = legal; zeroth = zeroth_more; workers = workers_none });
      zeroth = g.looks.number ∙ (l.number ∙ a.together.zeroth);
      numbers = λ i lt. (at i lt).looks.number ∙ each_more (λ h j. h.known.number ≡ j + 1) vs w a.together.numbers (ap (λ (k : Known). k.number) is ∙ new_number) i
          (subst (λ m. i < m) (pairs_len (HasSeen k2.seen) (vs ++ w ∷ []) ws g.workers) lt);
      seen = λ i lt. (at i lt).seen;
    };
    enter = subst (λ m. Enters m k2.seen) (sym len) enter;
    go_on = go_on_gathered k1 k2 (vs ++ w ∷ []) ws g (each_more (λ h j. h.stopped ≡ false) vs w a.go_on goes);
  }

  pub admitted_len : length ws ≡ length vs + 1
  admitted_len = len
