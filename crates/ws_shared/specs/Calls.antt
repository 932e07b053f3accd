-- What contracts see of a workspace and its passes.
use Rattle.std.specs.Prelude.{ℕ, List, Option, Result}
use Rattle.std.specs.declared.alloc.AllocError.{AllocError}
use Rattle.core_event.specs.declared.entry.Entry.{Entry}
use Rattle.core_event.specs.declared.event.Event.{Event}
use Rattle.core_event.specs.declared.reply.Reply.{Reply}
use Rattle.ws_core.specs.Histories.{Legal}
use Rattle.pass_turns.specs.Turns as rooms
use Rattle.pass_turns.specs.Turns.{Knows, TookTurn}
use Rattle.ws_locked.specs.Asked.{HasStood, WasAsked, WasTried}
use Rattle.ws_locked.specs.Halls.{state_in}
use Rattle.pass_turns.specs.declared.machine.Machine.{Ghosts as Machine}
use Rattle.pass_turns.specs.declared.pass.Pass.{Pass}
use Rattle.ws_turn.specs.declared.logged.Logged.{Ghosts as Logged}
use Rattle.ws_locked.specs.declared.locked.Locked.{Locked}
use Rattle.ws_locked.specs.declared.services.Opening.{Opening}
use Rattle.ws_shared.specs.declared.workspace.Workspace.{Workspace}

-- the pass that made an entry
abbrev pub pass_of : Entry → ℕ
pass_of x = x.pass

-- the entries may follow it
abbrev pub legal_from : {D B P : Type 0} → Opening D B P → List Entry → Type 0
legal_from o h = Legal (state_in o) h

-- the pass did the event in a turn of its own: it found a history that begins with what it had seen, and its entry is the last
-- of what it has seen then
abbrev pub Asked : {D B P : Type 0} → Opening D B P → Event → Result Reply AllocError → Knows Entry → Knows Entry → Type 0
Asked o e answer k k' = TookTurn pass_of legal_from (λ p. WasAsked e (state_in p)) o answer k k'

-- the same of an event that waited until it was more than an attempt
abbrev pub Stood : {D B P : Type 0} → Opening D B P → Event → Result Reply AllocError → Knows Entry → Knows Entry → Type 0
Stood o e answer k k' = TookTurn pass_of legal_from (λ p. HasStood e (state_in p)) o answer k k'

-- the same of an event that may be given up where it only found that it must wait
abbrev pub StoodUnless : {D B P : Type 0} → Opening D B P → Event → Result (Option Reply) AllocError → Knows Entry → Knows Entry → Type 0
StoodUnless o e answer k k' = TookTurn pass_of legal_from (λ p. WasTried e (state_in p)) o answer k k'

module _ {D B P V : Type 0} {M : Machine (Locked D B P V) Entry (Opening D B P)} {L : Logged (Locked D B P V) Entry (Opening D B P)} where
  -- the pass is one of this workspace's
  abbrev pub IsOf : Workspace D B P V → Pass (Locked D B P V) Entry (Opening D B P) M L → Type 0
  IsOf w p = rooms.IsOf w.room p

-- with what the workspace was opened
abbrev pub opening_of : {D B P V : Type 0} → Workspace D B P V → Opening D B P
opening_of w = rooms.base_of (λ l. l.opening) w.room
