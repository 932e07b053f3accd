-- What holds where all passes that are still there have met, while they leave.
use Rattle.std.specs.Prelude.{◌≡◌, ◌<◌, ◌≤◌, ◌+◌, ℕ, false, List, length}
use Rattle.core_event.specs.declared.entry.Entry.{Entry}
use Rattle.ws_core.specs.States.{Moment}
use Rattle.ws_core.specs.Histories.{has_entered, replay}
use Rattle.run_order.specs.Lists.{Cut, Grew, own}
use Rattle.run_order.specs.Fronts.{enters, Front}
use Rattle.phase_pool.specs.Passes.{Known}
use Rattle.phase_pool.specs.Workers.{Hand, worker_at}
use Rattle.pass_crew.specs.Passes.{Leaving}
use Rattle.pass_crew.specs.Told.{HasTold}

-- what is known of the pass of a number in a history: what holds of it there, and what it told of its own entries
abbrev pub IsKept : {P : Type 0} → (ℕ → List Entry → Type 0) → (P → Known) → (P → List Entry → Type 0) → ℕ → List Entry → Type 0
IsKept Good knows Tells k h = Good k h × HasTold knows Tells k h

-- Of the n passes that pass 0 let in the first ones are gone, of which so much is known; each worker is the next one, in its
-- place, and has seen what pass 0 has
pub record Assembled (Kept : ℕ → List Entry → Type 0) (s : Moment) (n gone : ℕ) (k : Known) (hands : List Hand) : Type 0 where
  pub front : Front n s k.seen
  pub zeroth : k.number ≡ 0
  pub len : gone + length hands ≡ n
  pub numbers : (i : ℕ) → i < length hands → (worker_at hands i).known.number ≡ gone + (i + 1)
  pub seen : (i : ℕ) → i < length hands → (worker_at hands i).known.seen ≡ k.seen
  pub absent : (j : ℕ) → 0 < j → j ≤ gone → has_entered j (replay s k.seen) ≡ false
  pub kept : (j : ℕ) → 0 < j → j ≤ gone → Kept j k.seen

-- the next one left
pub record LeftOne (Kept : ℕ → List Entry → Type 0) (s : Moment) (n gone : ℕ) (k k' : Known) (hands' : List Hand) : Type 0 where
  pub assembled : Assembled Kept s n (gone + 1) k' hands'
  pub grew : Grew (Leaving (gone + 1)) k.seen k'.seen

-- Where a run ended: the workers have seen what pass 0 has, and so much is known of each pass that pass 0 let in
pub record Ended (Kept : ℕ → List Entry → Type 0) (n : ℕ) (k : Known) (hands : List Hand) : Type 0 where
  pub zeroth : k.number ≡ 0
  pub len : length hands ≤ n
  pub seen : (i : ℕ) → i < length hands → (worker_at hands i).known.seen ≡ k.seen
  pub some : (i : ℕ) → i < length hands → 0 < (worker_at hands i).known.number
  pub few : (i : ℕ) → i < length hands → (worker_at hands i).known.number ≤ n
  pub kept : (j : ℕ) → 0 < j → j ≤ enters (own 0 k.seen) → Kept j k.seen

-- the next one didn't leave, though it may have asked to
pub record LeftNone (Kept : ℕ → List Entry → Type 0) (n gone : ℕ) (k k' : Known) (hands' : List Hand) : Type 0 where
  pub ended : Ended Kept n k' hands'
  pub some : 0 < length hands'
  pub grew : Grew (Cut (Leaving (gone + 1))) k.seen k'.seen
