-- For what the entries of a history call builders.
use Rattle.std.specs.Prelude.{◌≡◌, ℕ, List, [], ◌∷◌, ◌++◌, Option, option_and_then, slice_get}
use Rattle.std.specs.Option.{option_map, option_to_list}
use Rattle.proj_desc.specs.declared.command.Command.{Command}
use Rattle.builder_api.specs.Told.{Call, Built, Cleaned, Told, WasFirstCalled}
use Rattle.build_laws.specs.States.{Descs}
use Rattle.build_plan.specs.Descriptions.{desc_at}
use Rattle.core_event.specs.declared.entry.Entry.{Entry}
use Rattle.core_event.specs.declared.event.Event.{Event}
use Rattle.core_event.specs.declared.event.Event.TheVariants as events
use Rattle.core_event.specs.declared.reply.Answer.{Answer}
use Rattle.core_event.specs.declared.reply.Answer.TheVariants as answers
use Rattle.core_event.specs.declared.service.ServiceEvent.{ServiceEvent}
use Rattle.core_event.specs.declared.service.ServiceEvent.TheVariants as services
use Rattle.ws_core.specs.States.{Moment}
use Rattle.ws_core.specs.Histories.{after}

-- the command of this number of the open project of this name, as its description has it
abbrev pub command_at : Descs → List ℕ → ℕ → Option Command
command_at descs project index = option_and_then (λ d. slice_get d.commands index) (descs project)

-- a call of the builder of a name
abbrev pub NamedCall : Type 0
NamedCall = List ℕ × Call

-- one call of the builder that the command names, if there is a command
abbrev pub calls_for : Option Command → (Command → Call) → List NamedCall
calls_for command call = option_to_list (option_map (λ c. (c.builder, call c)) command)

-- for what is handed the command's builder is called, and where one is cleaned, unless that is refused
abbrev pub service_calls : Descs → ServiceEvent → Answer → List NamedCall
service_calls descs (services.Handed project index kind) (answers.Handed handed) = calls_for (command_at descs project index) (λ c. Built c handed)
service_calls descs (services.Clean project index) (answers.Refused refusal) = []
service_calls descs (services.Clean project index) answer = calls_for (command_at descs project index) (λ c. Cleaned)
service_calls descs event answer = []

-- the calls that an event with its answer asks, in a state
abbrev pub calls_of : Moment → Event → Answer → List NamedCall
calls_of s (events.Service x) answer = service_calls (desc_at s.resources.tree) x answer
calls_of s event answer = []

-- those that a history asks from a state on, in their order
abbrev pub calls : Moment → List Entry → List NamedCall
calls s [] = []
calls s (x ∷ h) = calls_of s x.event x.reply.answer ++ calls (after s x) h

-- the first builder of each name was called for these, one after another, and no other builder was called
abbrev pub WereCalled : List NamedCall → List Told → List Told → Type 0
WereCalled [] old new = new ≡ old
WereCalled (c ∷ cs) old new = (then : List Told) × WasFirstCalled c.0 c.1 old then × WereCalled cs then new
