-- Room for entries.
use Rattle.std.specs.Prelude.{◌≤◌, ◌⊎◌, ℕ, ◌+◌, length, Option, Some, None}
use Rattle.sched_rules.specs.declared.ws_atom.WsAtom.{WsAtom}
use Rattle.pass_table.specs.Passes.{Passes}
use Rattle.core_event.specs.declared.event.Event.{Event}
use Rattle.job_manager.specs.Ends.{EndsLast}
use Rattle.ws_core.specs.Ends.{ChecksIn}
use Rattle.ws_core.specs.States.{Moment}

-- how many check-ins are to come: one where a pass has the services
abbrev pub due_back : Option ℕ → ℕ
due_back None = 0
due_back (Some pass) = 1

-- there is room for an entry for each rule that is held, and for one more while a pass has the services
abbrev pub Fits : Passes WsAtom → ℕ → ℕ → Type 0
Fits passes len capacity = len + length passes.rules + due_back passes.services ≤ capacity

-- the event is one for whose entry room is kept
abbrev pub IsKept : Moment → ℕ → Event → Type 0
IsKept s pass event = EndsLast s.manager.passes.rules pass event ⊎ ChecksIn s pass event

-- there is room for the event's entry, and then for one for each rule that may be held and one for the services
abbrev pub HasRoom : Moment → ℕ → Event → ℕ → ℕ → Type 0
HasRoom s pass event len capacity = (len + length s.manager.passes.rules + 3 ≤ capacity) ⊎ (IsKept s pass event × Fits s.manager.passes len capacity)
