-- What is left of phases that were run.
use Rattle.std.specs.Prelude.{◌≡◌, ℕ, List, ◌++◌, length}
use Rattle.core_event.specs.declared.entry.Entry.{Entry}
use Rattle.ws_core.specs.States.{Moment}
use Rattle.ws_core.specs.Histories.{replay}
use Rattle.run_order.specs.Lists.{Grew}
use Rattle.run_order.specs.Plans.{Phase}
use Rattle.run_order.specs.Parts.{Making}
use Rattle.run_order.specs.Orders.{IsCutNext, Phases}
use Rattle.phase_pool.specs.Passes.{Known}
use Rattle.phase_pool.specs.Workers.{Hand, Together}

-- pass 0 and as many workers as before have met, and what all have seen grew by such entries
pub record Came (s : Moment) (P : List Entry → Type 0) (k : Known) (hands : List Hand) (k' : Known) (hands' : List Hand) : Type 0 where
  pub len : length hands' ≡ length hands
  pub together : Together s k' hands'
  pub grew : Grew P k.seen k'.seen

-- from one front of the history that began at s to another by the first ones of the phases, of which the last may be cut
pub record CutPhases {C : Type 0} (Made : Making C) (n : ℕ) (s : Moment) (phases : List (Phase C)) (g h : List Entry) : Type 0 where
  pub done : List (Phase C)
  pub later : List (Phase C)
  pub front : List Entry
  pub middle : List Entry
  pub script : phases ≡ done ++ later
  pub are : h ≡ front ++ middle
  pub run : Phases Made n s done g front
  pub stop : IsCutNext Made n later (replay s front) middle
