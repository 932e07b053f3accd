-- Phases one after another, and what all passes have at the end.
use Rattle.std.proofs.Common.{◌≡◌, ◌∙◌, inl, inr, ◌<◌, ◌≤◌, ◌+◌, ℕ, zero, suc, List, [], ◌∷◌, length, map, take, drop, get_or, sym, subst, arith}
use Rattle.std.specs.List.{AllByRecursion}
use Rattle.std.proofs.lemmas.List.{take_all, length-map, get_or-map}
use Rattle.core_event.specs.declared.entry.Entry.{Entry}
use Rattle.ws_core.specs.States.{Moment}
use Rattle.ws_core.specs.Histories.{replay}
use Rattle.run_order.specs.Lists.{Begins, Grew}
use Rattle.run_order.specs.Plans.{Phase}
use Rattle.run_order.specs.Parts.{Making}
use Rattle.run_order.specs.Fronts.{Front}
use Rattle.run_order.specs.Orders.{IsCutPhase, IsPhase, Phases}
use Rattle.run_order.proofs.Counted.{list_at, phases_next}
use Rattle.phase_pool.specs.Passes.{Known}
use Rattle.phase_pool.specs.Workers.{Hand, LetIn, Together, nobody, worker_at}
use Rattle.phase_pool.specs.Phases.{CutPhases}
use Rattle.phase_pool.specs.Inside.Meeting.{Gathers, HasSeen, IsOfOne}
use Rattle.phase_pool.proofs.Pairs.{pairs_at, pairs_len}
use Rattle.phase_pool.proofs.Passes.{begins_both}

-- ---- phases

module _ {C D : Type 0} (Made : Making C) (plan : D → Phase C) (n : ℕ) (s : Moment) (ps : List D) where
  few : (i : ℕ) → i < length ps → i < length (map plan ps)
  few i lt = subst (λ k. i < k) (sym (length-map ps plan)) lt

  plan_at : (i : ℕ) (d : D) → i < length ps → get_or (map plan ps) i (plan d) ≡ plan (get_or ps i d)
  plan_at i d lt = get_or-map plan ps i d (plan d) lt

  -- one more phase
  pub runs_next : (i : ℕ) (d : D) (g h h' : List Entry) → i < length ps → Phases Made n s (take i (map plan ps)) g h → Grew (IsPhase Made n (plan (get_or ps i d)) (replay s h)) h h'
      → Phases Made n s (take (i + 1) (map plan ps)) g h'
  runs_next i d g h h' lt run m = subst (Phases Made n s (take (i + 1) (map plan ps)) g) (sym m.1)
      (phases_next Made n s (map plan ps) i (plan d) g h m.0 (few i lt) run (subst (λ p. IsPhase Made n p (replay s h) m.0) (sym (plan_at i d lt)) m.2))

  -- the next one is cut
  pub runs_cut : (i : ℕ) (d : D) (g h h' : List Entry) → i < length ps → Phases Made n s (take i (map plan ps)) g h → Grew (IsCutPhase Made n (plan (get_or ps i d)) (replay s h)) h h'
      → CutPhases Made n s (map plan ps) g h'
  runs_cut i d g h h' lt run m = record {
    done = take i (map plan ps);
    later = get_or (map plan ps) i (plan d) ∷ drop (i + 1) (map plan ps);
    front = h;
    middle = m.0;
    script = sym (list_at (map plan ps) i (plan d) (few i lt));
    are = m.1;
    run = run;
    stop = subst (λ p. IsCutPhase Made n p (replay s h) m.0) (sym (plan_at i d lt)) m.2;
  }

  pub runs_all : (i : ℕ) (g h : List Entry) → length ps ≤ i → Phases Made n s (take i (map plan ps)) g h → Phases Made n s (map plan ps) g h
  runs_all i g h le run = subst (λ l. Phases Made n s l g h) (take_all i (map plan ps) (subst (λ k. k ≤ i) (sym (length-map ps plan)) le)) run

-- ---- what holds of each pass where all have met

-- by the number of a pass, what holds of pass 0 and of each worker
pub each_pass : {W : Type 0} (Good : ℕ → List Entry → Type 0) (f : W → Hand) (s : Moment) (k : Known) (ws : List W) → Together s k (map f ws) → Good k.number k.seen → AllByRecursion (λ w. Good (f w).known.number (f w).known.seen) ws
    → (n : ℕ) → n ≤ length ws → Good n k.seen
each_pass Good f s k ws t zeroth all zero le = subst (λ m. Good m k.seen) t.zeroth zeroth
each_pass Good f s k ws t zeroth all (suc i) le =
    let there : i < length (map f ws) = subst (λ m. i < m) (sym (length-map ws f)) (omega (arith, le)) in
    let one = image_at_place Good f ws i there all in
    let on : i + 1 ≡ suc i = omega arith in
    subst (λ m. Good m k.seen) (t.numbers i there ∙ on) (subst (Good (worker_at (map f ws) i).known.number) (t.seen i there) one)
  where
    image_at_place : {W : Type 0} (Good : ℕ → List Entry → Type 0) (f : W → Hand) (ws : List W) (i : ℕ) → i < length (map f ws) → AllByRecursion (λ w. Good (f w).known.number (f w).known.seen) ws
        → Good (worker_at (map f ws) i).known.number (worker_at (map f ws) i).known.seen
    image_at_place Good f [] i lt all = absurd (omega (arith, lt))
    image_at_place Good f (w ∷ ws) zero lt all = all.0
    image_at_place Good f (w ∷ ws) (suc i) lt all = image_at_place Good f ws i (omega (arith, lt)) all.1

-- where each worker has seen what pass 0 has, what holds of what it has seen
pub each_seen : {W : Type 0} (Q : W → List Entry → Type 0) (f : W → Hand) (h : List Entry) (ws : List W) → ((i : ℕ) → i < length (map f ws) → (worker_at (map f ws) i).known.seen ≡ h)
    → AllByRecursion (λ w. Q w (f w).known.seen) ws → AllByRecursion (λ w. Q w h) ws
each_seen Q f h [] e all = tt
each_seen Q f h (w ∷ ws) e all = (subst (Q w) (e 0 (omega arith)) all.0, each_seen Q f h ws (λ i lt. e (suc i) (omega (arith, lt))) all.1)

pub all_wider : {W : Type 0} (P Q : W → Type 0) → ((w : W) → P w → Q w) → (ws : List W) → AllByRecursion P ws → AllByRecursion Q ws
all_wider P Q f [] all = tt
all_wider P Q f (w ∷ ws) all = (f w all.0, all_wider P Q f ws all.1)

-- ---- the first meeting

-- what one of the workers has seen is no more than what pass 0 has
no_more : (h h' : List Entry) (hands : List Hand) → Begins h h' → ((i : ℕ) → i < length hands → Begins (worker_at hands i).known.seen h) → IsOfOne h' hands → h' ≡ h
no_more h h' [] b f o = absurd o
no_more h h' (w ∷ ws) b f o = elim o [
  | inl e ↦ begins_both h h' b (subst (λ z. Begins z h) (sym e) (f 0 (omega arith)))
  | inr p ↦ no_more h h' ws b (λ i lt. f (suc i) (omega (arith, lt))) p
]

module _ (s : Moment) (k k' : Known) (vs ws : List Hand) (l : LetIn s k vs) (g : Gathers k k' vs ws) where
  -- nothing is new
  pub same_seen : k'.seen ≡ k.seen
  same_seen = elim g.one [ inl e ↦ e | inr o ↦ no_more k.seen k'.seen vs g.looks.begins l.begin o ]

  len : length ws ≡ length vs
  len = pairs_len (HasSeen k'.seen) vs ws g.workers

  at : (i : ℕ) → i < length ws → HasSeen k'.seen (worker_at vs i) (worker_at ws i)
  at i lt = pairs_at (HasSeen k'.seen) vs ws i nobody (subst (λ n. i < n) len lt) g.workers

  pub met_first : Together s k' ws
  met_first = record {
    front = subst (λ n. Front n s k'.seen) (sym len) (subst (Front (length vs) s) (sym same_seen) l.front);
    zeroth = g.looks.number ∙ l.zeroth;
    numbers = λ i lt. (at i lt).looks.number ∙ l.numbers i (subst (λ n. i < n) len lt);
    seen = λ i lt. (at i lt).seen;
  }
