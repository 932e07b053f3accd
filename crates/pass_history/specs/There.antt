-- Who is there after a history, and which numbers it gave.
use Rattle.std.specs.Prelude.{◌≡◌, ℕ, Bool, List, Option, Some, None}
use Rattle.core_event.specs.declared.entry.Entry.{Entry}
use Rattle.core_event.specs.declared.event.Event.{Event}
use Rattle.core_event.specs.declared.event.Event.TheVariants.{Enter, Leave}
use Rattle.core_event.specs.declared.reply.Answer.{Answer}
use Rattle.core_event.specs.declared.reply.Answer.TheVariants.{Done, Id, Refused}
use Rattle.core_event.specs.declared.reply.Refusal.TheVariants.{PassBusy}
use Rattle.ws_core.specs.States.{Moment}
use Rattle.ws_core.specs.Histories.{has_entered, replay}

-- after the history the pass is there: it has entered and hasn't left
abbrev pub is_there : Moment → List Entry → ℕ → Bool
is_there s h n = has_entered n (replay s h)

abbrev pub number_in : Answer → Option ℕ
number_in (Id n) = Some n
number_in answer = None

abbrev pub given_by : Event → Answer → Option ℕ
given_by Enter answer = number_in answer
given_by event answer = None

-- the number of the pass that the entry lets in, if it lets one in
abbrev pub gives : Entry → Option ℕ
gives x = given_by x.event x.reply.answer

-- the entry lets a pass in
abbrev pub LetsIn : Entry → Type 0
LetsIn x = x.event ≡ Enter

-- by the entry its pass has left
abbrev pub HasLeft : Entry → Type 0
HasLeft x = (x.event ≡ Leave) × (x.reply.answer ≡ Done)

-- by the entry its pass asked to leave, and it stays, since it is busy
abbrev pub WasBusy : Entry → Type 0
WasBusy x = (x.event ≡ Leave) × (x.reply.answer ≡ Refused PassBusy)
