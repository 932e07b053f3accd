-- Phases one after another, and whole histories.
use Rattle.std.proofs.Common.{◌<◌, ◌≤◌, inl, inr, ℕ, List, [], ◌∷◌, ◌++◌, length, refl, ap, sym, subst, arith, append-nil}
use Rattle.core_event.specs.declared.entry.Entry.{Entry}
use Rattle.ws_core.specs.States.{Moment}
use Rattle.ws_core.specs.Histories.{replay}
use Rattle.run_order.specs.Lists.{Cut, Grew}
use Rattle.run_order.specs.Plans.{Phase}
use Rattle.run_order.specs.Parts.{Making}
use Rattle.run_order.specs.Orders.{IsPhase, IsCutPhase, Phases, Enters, Leaves, IsRun, IsCutRun, Shuffle, CutShuffle}
use Rattle.run_order.proofs.Lists.{cut_whole}

module _ {C : Type 0} (Made : Making C) where
  -- one more phase
  pub phases_more : (n : ℕ) (s : Moment) (ps : List (Phase C)) (p : Phase C) (g h m : List Entry) → Phases Made n s ps g h → IsPhase Made n p (replay s h) m → Phases Made n s (ps ++ p ∷ []) g (h ++ m)
  phases_more n s [] p g h m a b = (m, subst (λ l. IsPhase Made n p (replay s l) m) a b, ap (λ l. l ++ m) a)
  phases_more n s (q ∷ ps) p g h m a b = (a.0, a.1, phases_more n s ps p (g ++ a.0) h m a.2 b)

  pub phases_grew : (n : ℕ) (s : Moment) (ps : List (Phase C)) (p : Phase C) (g h h' : List Entry) → Phases Made n s ps g h → Grew (IsPhase Made n p (replay s h)) h h' → Phases Made n s (ps ++ p ∷ []) g h'
  phases_grew n s ps p g h h' a b = subst (Phases Made n s (ps ++ p ∷ []) g) (sym b.1) (phases_more n s ps p g h b.0 a b.2)

  -- ---- a run that came to its end

  pub run_whole : (s : Moment) (phases : List (Phase C)) (n : ℕ) (enters front leaves : List Entry) → Enters n enters → Phases Made n s phases enters front → Leaves n leaves → IsRun Made s phases n (front ++ leaves)
  run_whole s phases n enters front leaves enter run leave = record { enters = enters; front = front; leaves = leaves; are = refl; enter = enter; run = run; leave = leave }

  pub shuffle_of : (s : Moment) (phases : List (Phase C)) (n : ℕ) (h : List Entry) → 0 < length phases → IsRun Made s phases n h → Shuffle Made s phases n h
  shuffle_of s [] n h some run = absurd (omega (arith, some))
  shuffle_of s (p ∷ ps) n h some run = run

  -- ---- a run that was stopped

  -- among the Enter entries
  pub cut_entering : (s : Moment) (phases : List (Phase C)) (n entered : ℕ) (enters leaves : List Entry) → entered ≤ n → Enters entered enters → Cut (Leaves n) leaves → IsCutRun Made s phases n (enters ++ leaves)
  cut_entering s phases n entered enters leaves few enter leave = record {
    entered = entered;
    done = [];
    later = phases;
    enters = enters;
    front = enters;
    middle = [];
    leaves = leaves;
    are = ap (λ l. l ++ leaves) (sym (append-nil enters));
    script = refl;
    few = few;
    none = λ _. refl;
    enter = enter;
    run = refl;
    stop = inl refl;
    leave = leave;
  }

  -- in a phase
  pub cut_in_phase : (s : Moment) (done : List (Phase C)) (p : Phase C) (later : List (Phase C)) (n : ℕ) (enters front middle leaves : List Entry) → Enters n enters → Phases Made n s done enters front
      → IsCutPhase Made n p (replay s front) middle → Cut (Leaves n) leaves → IsCutRun Made s (done ++ p ∷ later) n ((front ++ middle) ++ leaves)
  cut_in_phase s done p later n enters front middle leaves enter run phase leave = record {
    entered = n;
    done = done;
    later = p ∷ later;
    enters = enters;
    front = front;
    middle = middle;
    leaves = leaves;
    are = refl;
    script = refl;
    few = omega arith;
    none = λ z. absurd (omega (arith, z));
    enter = enter;
    run = run;
    stop = inr (refl, phase);
    leave = leave;
  }

  -- between two phases, or after the last one
  pub cut_between : (s : Moment) (done later : List (Phase C)) (n : ℕ) (enters front leaves : List Entry) → Enters n enters → Phases Made n s done enters front
      → Cut (Leaves n) leaves → IsCutRun Made s (done ++ later) n (front ++ leaves)
  cut_between s done later n enters front leaves enter run leave = record {
    entered = n;
    done = done;
    later = later;
    enters = enters;
    front = front;
    middle = [];
    leaves = leaves;
    are = ap (λ l. l ++ leaves) (sym (append-nil front));
    script = refl;
    few = omega arith;
    none = λ z. absurd (omega (arith, z));
    enter = enter;
    run = run;
    stop = inl refl;
    leave = leave;
  }

  -- a run that came to its end is one that was stopped after it
  cut_of_run : (s : Moment) (phases : List (Phase C)) (n : ℕ) (h : List Entry) → IsRun Made s phases n h → IsCutRun Made s phases n h
  cut_of_run s phases n h r = subst (IsCutRun Made s phases n) (sym r.are) (subst (λ ps. IsCutRun Made s ps n (r.front ++ r.leaves)) (append-nil phases)
      (cut_between s phases [] n r.enters r.front r.leaves r.enter r.run (cut_whole (Leaves n) r.leaves r.leave)))

  pub cut_of_shuffle : (s : Moment) (phases : List (Phase C)) (n : ℕ) (h : List Entry) → Shuffle Made s phases n h → CutShuffle Made s phases n h
  cut_of_shuffle s [] n h run = run
  cut_of_shuffle s (p ∷ ps) n h run = cut_of_run s (p ∷ ps) n h run

  pub cut_shuffle_of : (s : Moment) (phases : List (Phase C)) (n : ℕ) (h : List Entry) → 0 < length phases → IsCutRun Made s phases n h → CutShuffle Made s phases n h
  cut_shuffle_of s [] n h some run = absurd (omega (arith, some))
  cut_shuffle_of s (p ∷ ps) n h some run = run
