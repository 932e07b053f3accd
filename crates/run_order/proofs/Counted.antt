-- What was made, by how many of a list were done: as loops know it.
use Rattle.std.proofs.Common.{◌≡◌, ◌<◌, ◌+◌, ℕ, List, [], ◌∷◌, ◌++◌, length, take, drop, get_or, map, refl, ap, sym, ◌∙◌, subst, append_assoc}
use Rattle.std.proofs.lemmas.List.{take_more, take-append-drop}
use Rattle.core_event.specs.declared.entry.Entry.{Entry}
use Rattle.core_event.specs.declared.event.Event.{Event}
use Rattle.ws_core.specs.States.{Moment}
use Rattle.ws_core.specs.Histories.{replay}
use Rattle.run_order.specs.Lists.{acts, Cut, InTurn}
use Rattle.run_order.specs.Plans.{Phase}
use Rattle.run_order.specs.Parts.{Making}
use Rattle.run_order.specs.Orders.{IsPhase, IsCutPhase, Phases, Enters, Leaves, IsCutRun}
use Rattle.run_order.proofs.Lists.{acts_append, acts_cut, turn_more, turn_cut, turn_begun}
use Rattle.run_order.proofs.Whole.{phases_more, cut_in_phase, cut_between}

module _ {A : Type 0} where
  -- a list by one of its items
  pub list_at : (xs : List A) (i : ℕ) (d : A) → i < length xs → take i xs ++ get_or xs i d ∷ drop (i + 1) xs ≡ xs
  list_at xs i d lt = sym (append_assoc (take i xs) (get_or xs i d ∷ []) (drop (i + 1) xs)) ∙ (ap (λ l. l ++ drop (i + 1) xs) (sym (take_more xs i d lt)) ∙ take-append-drop (i + 1) xs)

-- ---- lists in turn

module _ {A : Type 0} (P : A → List Entry → Type 0) where
  -- one more is done
  pub turn_next : (xs : List A) (i : ℕ) (d : A) (a b : List Entry) → i < length xs → InTurn P (take i xs) a → P (get_or xs i d) b → InTurn P (take (i + 1) xs) (a ++ b)
  turn_next xs i d a b lt p q = subst (λ l. InTurn P l (a ++ b)) (sym (take_more xs i d lt)) (turn_more P (take i xs) (get_or xs i d) a b p q)

  -- the next one is cut
  pub turn_cut_at : ((x : A) → (l : List Entry) × P x l) → (xs : List A) (i : ℕ) (d : A) (a b : List Entry) → i < length xs → InTurn P (take i xs) a → Cut (P (get_or xs i d)) b → Cut (InTurn P xs) (a ++ b)
  turn_cut_at some xs i d a b lt p q = subst (λ l. Cut (InTurn P l) (a ++ b)) (list_at xs i d lt) (turn_cut P some (take i xs) (get_or xs i d) (drop (i + 1) xs) a b p q)

  -- no other is begun
  pub turn_begun_at : ((x : A) → (l : List Entry) × P x l) → (xs : List A) (i : ℕ) (a : List Entry) → InTurn P (take i xs) a → Cut (InTurn P xs) a
  turn_begun_at some xs i a p = subst (λ l. Cut (InTurn P l) a) (take-append-drop i xs) (turn_begun P some (take i xs) (drop i xs) a p)

-- ---- entries of one act each

module _ {A : Type 0} (act : A → ℕ × Event) where
  map_append : (xs ys : List A) → map act (xs ++ ys) ≡ map act xs ++ map act ys
  map_append [] ys = refl
  map_append (x ∷ xs) ys = ap (λ l. act x ∷ l) (map_append xs ys)

  -- one more is made
  pub acts_next : (xs : List A) (i : ℕ) (d : A) (a l : List Entry) → i < length xs → acts a ≡ map act (take i xs) → acts l ≡ act (get_or xs i d) ∷ [] → acts (a ++ l) ≡ map act (take (i + 1) xs)
  acts_next xs i d a l lt p q = acts_append a l ∙ (ap (λ z. z ++ acts l) p ∙ (ap (λ z. map act (take i xs) ++ z) q
      ∙ (sym (map_append (take i xs) (get_or xs i d ∷ [])) ∙ ap (map act) (sym (take_more xs i d lt)))))

  -- no other is made
  pub acts_begun : (xs : List A) (i : ℕ) (a : List Entry) → acts a ≡ map act (take i xs) → Cut (λ l. acts l ≡ map act xs) a
  acts_begun xs i a p = subst (λ z. Cut (λ l. acts l ≡ z) a) (sym (map_append (take i xs) (drop i xs)) ∙ ap (map act) (take-append-drop i xs)) (acts_cut (map act (take i xs)) (map act (drop i xs)) a p)

-- ---- phases

module _ {C : Type 0} (Made : Making C) where
  pub phases_next : (n : ℕ) (s : Moment) (ps : List (Phase C)) (i : ℕ) (d : Phase C) (g h m : List Entry) → i < length ps → Phases Made n s (take i ps) g h → IsPhase Made n (get_or ps i d) (replay s h) m
      → Phases Made n s (take (i + 1) ps) g (h ++ m)
  phases_next n s ps i d g h m lt a b = subst (λ z. Phases Made n s z g (h ++ m)) (sym (take_more ps i d lt)) (phases_more Made n s (take i ps) (get_or ps i d) g h m a b)

  -- the next phase is cut
  pub cut_in_phase_at : (s : Moment) (ps : List (Phase C)) (i : ℕ) (d : Phase C) (n : ℕ) (g h m leaves : List Entry) → i < length ps → Enters n g → Phases Made n s (take i ps) g h
      → IsCutPhase Made n (get_or ps i d) (replay s h) m → Cut (Leaves n) leaves → IsCutRun Made s ps n ((h ++ m) ++ leaves)
  cut_in_phase_at s ps i d n g h m leaves lt enter run phase leave =
      subst (λ z. IsCutRun Made s z n ((h ++ m) ++ leaves)) (list_at ps i d lt) (cut_in_phase Made s (take i ps) (get_or ps i d) (drop (i + 1) ps) n g h m leaves enter run phase leave)

  -- no other phase is begun
  pub cut_between_at : (s : Moment) (ps : List (Phase C)) (i : ℕ) (n : ℕ) (g h leaves : List Entry) → Enters n g → Phases Made n s (take i ps) g h → Cut (Leaves n) leaves → IsCutRun Made s ps n (h ++ leaves)
  cut_between_at s ps i n g h leaves enter run leave = subst (λ z. IsCutRun Made s z n (h ++ leaves)) (take-append-drop i ps) (cut_between Made s (take i ps) (drop i ps) n g h leaves enter run leave)
