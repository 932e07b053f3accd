-- What is handed is due.
use Rattle.std.specs.Prelude.{◌≡◌, List, [], ◌∷◌, IsSomeAnd}
use Rattle.core_event.specs.declared.entry.Entry.{Entry}
use Rattle.core_event.specs.declared.event.Event.{Event}
use Rattle.core_event.specs.declared.event.Event.TheVariants as events
use Rattle.core_event.specs.declared.reply.Answer.{Answer}
use Rattle.core_event.specs.declared.reply.Answer.TheVariants as answers
use Rattle.core_event.specs.declared.service.ServiceEvent.{ServiceEvent}
use Rattle.core_event.specs.declared.service.ServiceEvent.TheVariants as services
use Rattle.build_laws.specs.States.{State, due, item}
use Rattle.ws_core.specs.States.{Moment}
use Rattle.ws_core.specs.Histories.{after}
use Rattle.build_core.specs.States.{state_of}
use Rattle.build_history.specs.Calls.{command_at}

-- what is handed for a command is exactly what is due for the one at its place
abbrev pub HandsDue : State → ServiceEvent → Answer → Type 0
HandsDue s (services.Handed project index kind) (answers.Handed handed) = IsSomeAnd (command_at s.descs project index) (λ command. handed ≡ due s (item project index command) kind)
HandsDue s event answer = Unit {0}

abbrev pub IsDue : Moment → Event → Answer → Type 0
IsDue s (events.Service x) answer = HandsDue (state_of s) x answer
IsDue s event answer = Unit {0}

-- so it is at each place of a history from a state on
abbrev pub AreDue : Moment → List Entry → Type 0
AreDue s [] = Unit {0}
AreDue s (x ∷ h) = IsDue s x.event x.reply.answer × AreDue (after s x) h
