-- What the entries of a history do in saves.
use Rattle.std.specs.Prelude.{◌≡◌, ◌+◌, ℕ, Bool, true, false, if◌then◌else◌, List, [], ◌∷◌, ◌++◌, Option, Some, None}
use Rattle.std.specs.List.{AllByRecursion}
use Rattle.std.specs.Option.{option_to_list}
use Rattle.save_kind.specs.declared.answer.SaveAnswer.{SaveAnswer}
use Rattle.save_kind.specs.declared.answer.SaveAnswer.TheVariants.{Saved, SaveFailed, ParticipantFailed, SaveTooLarge, SaveNumbers, NoMemory}
use Rattle.save_kind.specs.declared.kind.SaveKind.{SaveKind}
use Rattle.save_kind.specs.declared.state.PartState.{PartState}
use Rattle.core_event.specs.declared.entry.Entry.{Entry}
use Rattle.core_event.specs.declared.event.Event.{Event}
use Rattle.core_event.specs.declared.event.Event.TheVariants.{Service}
use Rattle.core_event.specs.declared.reply.Answer.{Answer}
use Rattle.core_event.specs.declared.reply.Answer.TheVariants.{Refused}
use Rattle.core_event.specs.declared.service.Outcomes.TheVariants as outcomes
use Rattle.core_event.specs.declared.service.Purpose.TheVariants as purposes
use Rattle.core_event.specs.declared.service.ServiceEvent.{ServiceEvent}
use Rattle.core_event.specs.declared.service.ServiceEvent.TheVariants.{Checkout, CheckIn, Handed, Commit, Clean, Saving}

-- a step of a save: it begins, states are kept, or it ends
pub data SaveStep : Type 0 where
  Begins : SaveKind → SaveStep
  Keeps : List (List ℕ × PartState) → SaveStep
  Ends : SaveAnswer → SaveStep

-- the step that is asked, if one is
abbrev pub step_asked : ServiceEvent → Option SaveStep
step_asked (Checkout (purposes.Build kind scope)) = None
step_asked (Checkout (purposes.Save kind)) = Some (Begins kind)
step_asked (CheckIn (outcomes.Build outcome)) = None
step_asked (CheckIn (outcomes.Save answer)) = Some (Ends answer)
step_asked (Handed project index kind) = None
step_asked (Commit edits) = None
step_asked (Clean project index) = None
step_asked (Saving states) = Some (Keeps states)

-- the same of any event
abbrev pub step_in : Event → Option SaveStep
step_in (Service x) = step_asked x
step_in event = None

-- the event isn't refused
abbrev pub was_done : Answer → Bool
was_done (Refused refusal) = false
was_done answer = true

-- the step that an event with its answer made, if it made one: what is refused makes none
abbrev pub step_of : Event → Answer → Option SaveStep
step_of event answer = if was_done answer then step_in event else None

-- those that a history made, oldest first
abbrev pub steps_of : List Entry → List SaveStep
steps_of [] = []
steps_of (x ∷ h) = option_to_list (step_of x.event x.reply.answer) ++ steps_of h

-- no entry asks a step
abbrev pub NoSaves : List Entry → Type 0
NoSaves = AllByRecursion (λ (x : Entry). step_in x.event ≡ None)

-- the states that were kept, oldest first
abbrev pub states_kept : List SaveStep → List (List ℕ × PartState)
states_kept [] = []
states_kept (Begins kind ∷ steps) = states_kept steps
states_kept (Keeps states ∷ steps) = states ++ states_kept steps
states_kept (Ends answer ∷ steps) = states_kept steps

-- ---- saves that failed

-- 1 where a call on the disk failed
abbrev pub failure : SaveAnswer → ℕ
failure Saved = 0
failure SaveFailed = 1
failure (ParticipantFailed name) = 0
failure SaveTooLarge = 0
failure SaveNumbers = 0
failure NoMemory = 0

abbrev pub failure_in : SaveStep → ℕ
failure_in (Begins kind) = 0
failure_in (Keeps states) = 0
failure_in (Ends answer) = failure answer

-- how many saves ended because a call on the disk failed
abbrev pub failures : List SaveStep → ℕ
failures [] = 0
failures (step ∷ steps) = failure_in step + failures steps
