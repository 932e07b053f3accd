-- How a run goes on once passes were let in.
use Rattle.std.specs.Prelude.{◌⊎◌, ℕ, List}
use Rattle.core_event.specs.declared.entry.Entry.{Entry}
use Rattle.ws_core.specs.States.{Moment}
use Rattle.run_order.specs.Lists.{Cut, Grew}
use Rattle.run_order.specs.Plans.{Phase}
use Rattle.run_order.specs.Parts.{Making}
use Rattle.run_order.specs.Orders.{Leaves, Phases}
use Rattle.phase_pool.specs.Phases.{CutPhases}

-- from one history to another by the phases, and then the n passes left
abbrev pub GoesThrough : {C : Type 0} → Making C → ℕ → Moment → List (Phase C) → List Entry → List Entry → Type 0
GoesThrough Made n s phases g h = (front : List Entry) × Phases Made n s phases g front × Grew (Leaves n) front h

-- the same, where a phase was cut, or not all passes left
abbrev pub GoesPartly : {C : Type 0} → Making C → ℕ → Moment → List (Phase C) → List Entry → List Entry → Type 0
GoesPartly Made n s phases g h = CutPhases Made n s phases g h ⊎ ((front : List Entry) × Phases Made n s phases g front × Grew (Cut (Leaves n)) front h)
