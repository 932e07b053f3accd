-- How a run comes to be whole, or cut.
use Rattle.std.proofs.Common.{◌≡◌, ◌∙◌, inl, inr, ◌<◌, ◌≤◌, ◌+◌, ◌==◌, ℕ, zero, suc, false, List, [], ◌∷◌, ◌++◌, length, map, refl, sym, ap, subst, arith, append-nil, append_assoc}
use Rattle.std.proofs.lemmas.Bool.{false≢true}
use Rattle.core_event.specs.declared.entry.Entry.{Entry}
use Rattle.core_event.specs.declared.event.Event.{Event}
use Rattle.core_event.specs.declared.event.Event.TheVariants.{Leave}
use Rattle.ws_core.specs.States.{Moment}
use Rattle.run_order.specs.Lists.{acts, Cut, Grew}
use Rattle.run_order.specs.Plans.{Phase}
use Rattle.run_order.specs.Parts.{Making}
use Rattle.run_order.specs.Orders.{Enters, IsCutRun, IsRun, Leaves, Phases, numbers}
use Rattle.run_order.proofs.Lists.{acts_append, acts_cut, cut_none, some_acts}
use Rattle.run_order.proofs.Whole.{cut_between, cut_entering, run_whole}
use Rattle.phase_pool.specs.Phases.{CutPhases}
use Rattle.pass_crew.specs.Passes.{Leaving}
use Rattle.pass_crew.specs.Inside.Running.{GoesPartly, GoesThrough}
use Rattle.pass_crew.proofs.Places.{map_more}

-- ---- passes leave, one after another

abbrev left_by : ℕ → ℕ × Event
left_by k = (k, Leave)

pub leaves_none : Leaves 0 []
leaves_none = refl

pub leaves_more : (m : ℕ) (a b : List Entry) → Leaves m a → Leaving (m + 1) b → Leaves (m + 1) (a ++ b)
leaves_more m a b p q =
    let on : suc m ≡ m + 1 = omega arith in
    acts_append a b ∙ (ap (λ z. z ++ acts b) p ∙ (ap (λ z. map left_by (numbers m) ++ z) q
    ∙ (sym (map_more left_by (numbers m) (m + 1)) ∙ (ap (λ k. map left_by (numbers m ++ k ∷ [])) (sym on) ∙ ap (λ k. map left_by (numbers k)) on))))

numbers_front : (m d : ℕ) → (ys : List ℕ) × (numbers (d + m) ≡ numbers m ++ ys)
numbers_front m zero = let e : zero + m ≡ m = omega arith in ([], ap numbers e ∙ sym (append-nil (numbers m)))
numbers_front m (suc d) =
    let r = numbers_front m d in
    let on : suc (d + m) ≡ suc d + m = omega arith in
    (r.0 ++ suc (d + m) ∷ [], ap numbers (sym on) ∙ (ap (λ l. l ++ suc (d + m) ∷ []) r.1 ∙ append_assoc (numbers m) r.0 (suc (d + m) ∷ [])))

map_both : (xs ys : List ℕ) → map left_by (xs ++ ys) ≡ map left_by xs ++ map left_by ys
map_both [] ys = refl
map_both (x ∷ xs) ys = ap (λ l. left_by x ∷ l) (map_both xs ys)

gap_of : (m n : ℕ) → m ≤ n → (d : ℕ) × (d + m ≡ n)
gap_of zero n le = (n, omega arith)
gap_of (suc m) zero le = absurd (omega (arith, le))
gap_of (suc m) (suc n) le = let r = gap_of m n (omega (arith, le)) in let e = r.1 in (r.0, omega (arith, e))

leaves_begun : (m n : ℕ) (a : List Entry) → m ≤ n → Leaves m a → Cut (Leaves n) a
leaves_begun m n a le p =
    let d = gap_of m n le in
    let r = numbers_front m d.0 in
    subst (λ z. Cut (λ l. acts l ≡ z) a) (sym (ap (λ k. map left_by (numbers k)) (sym d.1) ∙ (ap (map left_by) r.1 ∙ map_both (numbers m) r.0)))
    (acts_cut (map left_by (numbers m)) (map left_by r.0) a p)

pub leaves_cut : (m n : ℕ) (a b : List Entry) → m < n → Leaves m a → Cut (Leaving (m + 1)) b → Cut (Leaves n) (a ++ b)
leaves_cut m n a b lt p q =
    let z = leaves_begun (m + 1) n (a ++ (b ++ q.0)) (omega (arith, lt)) (leaves_more m a (b ++ q.0) p q.1) in
    (q.0 ++ z.0, subst (Leaves n) (ap (λ l. l ++ z.0) (sym (append_assoc a b q.0)) ∙ append_assoc (a ++ b) q.0 z.0) z.1)

no_leave : (n : ℕ) → Cut (Leaves n) []
no_leave n = cut_none (Leaves n) (some_acts (map left_by (numbers n)))

-- ---- the whole history

module _ {C : Type 0} (Made : Making C) (s : Moment) (ps : List (Phase C)) (n : ℕ) where
  pub run_of : (g h h' : List Entry) → Enters n g → Phases Made n s ps g h → Grew (Leaves n) h h' → IsRun Made s ps n h'
  run_of g h h' enter run l = subst (IsRun Made s ps n) (sym l.1) (run_whole Made s ps n g h l.0 enter run l.2)

  -- while passes were let in
  pub cut_admitting : (m : ℕ) (h : List Entry) → m ≤ n → Enters m h → IsCutRun Made s ps n h
  cut_admitting m h few enter = subst (IsCutRun Made s ps n) (append-nil h) (cut_entering Made s ps n m h [] few enter (no_leave n))

  -- in a phase
  pub cut_running : (g h : List Entry) → Enters n g → CutPhases Made n s ps g h → IsCutRun Made s ps n h
  cut_running g h enter c = record {
    entered = n;
    done = c.done;
    later = c.later;
    enters = g;
    front = c.front;
    middle = c.middle;
    leaves = [];
    are = c.are ∙ sym (append-nil (c.front ++ c.middle));
    script = c.script;
    few = omega arith;
    none = λ z. absurd (omega (arith, z));
    enter = enter;
    run = c.run;
    stop = inr (refl, c.stop);
    leave = no_leave n;
  }

  -- while they left
  pub cut_leaving : (g h h' : List Entry) → Enters n g → Phases Made n s ps g h → Grew (Cut (Leaves n)) h h' → IsCutRun Made s ps n h'
  cut_leaving g h h' enter run l = subst (IsCutRun Made s ps n) (sym l.1) (subst (λ z. IsCutRun Made s z n (h ++ l.0)) (append-nil ps) (cut_between Made s ps [] n g h l.0 enter run l.2))

  -- once passes were let in
  pub run_through : (g h : List Entry) → Enters n g → GoesThrough Made n s ps g h → IsRun Made s ps n h
  run_through g h enter w = run_of g w.0 h enter w.1 w.2

  pub cut_through : (g h : List Entry) → Enters n g → GoesPartly Made n s ps g h → IsCutRun Made s ps n h
  cut_through g h enter w = elim w [ inl c ↦ cut_running g h enter c | inr l ↦ cut_leaving g l.0 h enter l.1 l.2 ]

-- there is a phase
pub some_phases : {C D : Type 0} (plan : D → Phase C) (ds : List D) → false ≡ (length ds == 0) → 0 < length (map plan ds)
some_phases plan [] e = absurd (false≢true e)
some_phases plan (d ∷ ds) e = omega arith
