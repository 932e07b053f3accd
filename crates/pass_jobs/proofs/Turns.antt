-- A pass makes such entries for each of a list, one after another: as loops know it.
use Rattle.std.proofs.Common.{◌≡◌, ◌∙◌, ◌<◌, ◌≤◌, ◌+◌, ℕ, List, [], ◌∷◌, ◌++◌, length, take, get_or, map, refl, sym, ap, subst}
use Rattle.std.proofs.lemmas.List.{take_all}
use Rattle.std.specs.Prelude.{Result, Ok, Err}
use Rattle.std.specs.declared.alloc.AllocError.{AllocError}
use Rattle.core_event.specs.declared.entry.Entry.{Entry}
use Rattle.core_event.specs.declared.event.Event.{Event}
use Rattle.run_order.specs.Lists.{acts, Cut, InTurn}
use Rattle.run_order.specs.Parts.{CommandEntries}
use Rattle.run_order.proofs.Lists.{acts_append, cut_none, cut_on, some_acts}
use Rattle.run_order.proofs.Counted.{turn_next, turn_begun_at, turn_cut_at}
use Rattle.phase_pool.specs.Passes.{Known, Makes}
use Rattle.phase_pool.specs.Inside.Laws.{makes_none, makes_on}
use Rattle.phase_pool.proofs.Passes.{makes_wider}
use Rattle.pass_jobs.specs.Inside.Floors.{Does}

module _ {A : Type 0} (P : A → List Entry → Type 0) (some : (x : A) → (l : List Entry) × P x l) (xs : List A) (k : Known) where
  pub turns_none : Makes (InTurn P (take 0 xs)) k k
  turns_none = makes_none (InTurn P (take 0 xs)) k refl

  module _ (i : ℕ) (d : A) (j h : Known) (lt : i < length xs) (before : Makes (InTurn P (take i xs)) k j) where
    -- the next is done
    pub turns_next : Makes (P (get_or xs i d)) j h → Makes (InTurn P (take (i + 1) xs)) k h
    turns_next m = makes_on (InTurn P (take i xs)) (P (get_or xs i d)) (InTurn P (take (i + 1) xs)) k j h (λ a b p q. turn_next P xs i d a b lt p q) before m

    -- the next is cut
    pub turns_cut : Makes (Cut (P (get_or xs i d))) j h → Makes (Cut (InTurn P xs)) k h
    turns_cut m = makes_on (InTurn P (take i xs)) (Cut (P (get_or xs i d))) (Cut (InTurn P xs)) k j h (λ a b p q. turn_cut_at P some xs i d a b lt p q) before m

  -- all are done
  pub turns_all : (i : ℕ) (j : Known) → length xs ≤ i → Makes (InTurn P (take i xs)) k j → Makes (InTurn P xs) k j
  turns_all i j le m = subst (λ l. Makes (InTurn P l) k j) (take_all i xs le) m

-- ---- one step after another, and in other words

module _ {A : Type 0} (P Q R : List Entry → Type 0) (f : (a b : List Entry) → P a → Q b → R (a ++ b)) (k j h : Known) (before : Makes P k j) where
  pub does_on : (r : Result A AllocError) → Does r Q j h → Does r R k h
  does_on (Ok x) m = makes_on P Q R k j h f before m
  does_on (Err e) m = makes_on P (Cut Q) (Cut R) k j h (cut_on P Q R f) before m

module _ (P Q : List Entry → Type 0) (f : (l : List Entry) → P l → Q l) (k j : Known) where
  pub makes_cut : Makes (Cut P) k j → Makes (Cut Q) k j
  makes_cut m = makes_wider (Cut P) (Cut Q) k j (λ l c. (c.0, f (l ++ c.0) c.1)) m

  pub does_wider : {A : Type 0} (r : Result A AllocError) → Does r P k j → Does r Q k j
  does_wider (Ok x) m = makes_wider P Q k j f m
  does_wider (Err e) m = makes_cut m

-- ---- acts

-- entries of one act each
pub turn_acts : {A : Type 0} (act : A → ℕ × Event) (xs : List A) (h : List Entry) → InTurn (λ x l. acts l ≡ act x ∷ []) xs h → acts h ≡ map act xs
turn_acts act [] h m = ap acts m
turn_acts act (x ∷ xs) h m = ap acts m.2 ∙ (acts_append m.0 m.1 ∙ (ap (λ z. z ++ acts m.1) m.3 ∙ ap (λ z. act x ∷ z) (turn_acts act xs m.1 m.4)))

-- an event of pass 0 is such an act
pub one_act : (n : ℕ) (e e' : Event) → n ≡ 0 → e ≡ e' → (h : List Entry) → CommandEntries n e h → acts h ≡ (0, e') ∷ []
one_act n e e' z is h m = ap acts m.1 ∙ (λ i. (z i, is i) ∷ [])

-- nothing yet is the beginning of one
pub no_act : (x : ℕ × Event) (k : Known) → Makes (Cut (λ h. acts h ≡ x ∷ [])) k k
no_act x k = makes_none (Cut (λ h. acts h ≡ x ∷ [])) k (cut_none (λ h. acts h ≡ x ∷ []) (some_acts (x ∷ [])))

module _ {A : Type 0} (act : A → ℕ × Event) (xs : List A) (ys : List (ℕ × Event)) (same : map act xs ≡ ys) (k j : Known) where
  in_acts : (h : List Entry) → InTurn (λ x l. acts l ≡ act x ∷ []) xs h → acts h ≡ ys
  in_acts h m = turn_acts act xs h m ∙ same

  -- one act after another, all told
  pub acts_all : Makes (InTurn (λ x l. acts l ≡ act x ∷ []) xs) k j → Makes (λ h. acts h ≡ ys) k j
  acts_all m = makes_wider (InTurn (λ x l. acts l ≡ act x ∷ []) xs) (λ h. acts h ≡ ys) k j in_acts m

  pub acts_cut : Makes (Cut (InTurn (λ x l. acts l ≡ act x ∷ []) xs)) k j → Makes (Cut (λ h. acts h ≡ ys)) k j
  acts_cut m = makes_cut (InTurn (λ x l. acts l ≡ act x ∷ []) xs) (λ h. acts h ≡ ys) in_acts k j m
