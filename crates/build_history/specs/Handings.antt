-- What was handed last, what was committed for it, and what outcomes tell of it.
use Rattle.std.specs.Prelude.{◌≡◌, ◌≤◌, ◌⊎◌, ◌^◌, ◌-◌, ◌+◌, ℕ, if◌then◌else◌, List, [], ◌∷◌, Option, Some, None, IfSome, MatchOption}
use Rattle.std.specs.Option.{IsSomeAnd, option_map, option_or}
use Rattle.std.specs.Str.{bytes_eq}
use Rattle.proj_desc.specs.declared.command.Command.{Command}
use Rattle.builder_api.specs.declared.edits.Edits.{Edits}
use Rattle.builder_api.specs.declared.handed.Handed.{Handed}
use Rattle.builder_api.specs.declared.outcome.BuildOutcome.TheVariants.{BuilderFailed}
use Rattle.builder_api.specs.Lawful.{Right}
use Rattle.builder_api.specs.Meanings.{Meanings}
use Rattle.builder_api.specs.Told.{Told, first_named}
use Rattle.build_laws.specs.States.{Descs, Item, State, item, last_tree, task}
use Rattle.build_plan.specs.Descriptions.{desc_at}
use Rattle.core_event.specs.declared.entry.Entry.{Entry}
use Rattle.core_event.specs.declared.event.Event.{Event}
use Rattle.core_event.specs.declared.event.Event.TheVariants as events
use Rattle.core_event.specs.declared.reply.Answer.{Answer}
use Rattle.core_event.specs.declared.reply.Answer.TheVariants as answers
use Rattle.core_event.specs.declared.service.Outcomes.TheVariants as outcomes
use Rattle.core_event.specs.declared.service.ServiceEvent.TheVariants as services
use Rattle.ws_core.specs.States.{Moment}
use Rattle.ws_core.specs.Histories.{after}
use Rattle.build_core.specs.States.{state_of}
use Rattle.build_history.specs.Calls.{command_at}

-- a command, and what it was handed
pub record Handing : Type 0 where
  pub item : Item
  pub handed : Handed

abbrev pub handing_of : List ℕ → ℕ → Handed → Command → Handing
handing_of project index handed command = record { item = item project index command; handed = handed }

-- what an event with its answer handed, for the command at its place
abbrev pub handed_by : Descs → Event → Answer → Option Handing
handed_by descs (events.Service (services.Handed project index kind)) (answers.Handed handed) = option_map (handing_of project index handed) (command_at descs project index)
handed_by descs event answer = None

-- what was handed last, after an entry in a state
abbrev pub handed_with : Option Handing → Moment → Entry → Option Handing
handed_with last s x = option_or (handed_by (desc_at s.resources.tree) x.event x.reply.answer) last

-- ---- what was committed

-- the edits that an event with its answer committed
abbrev pub committed_by : Event → Answer → Option Edits
committed_by (events.Service (services.Commit edits)) (answers.Committed touched problems) = Some edits
committed_by event answer = None

-- edits that are committed in a state are right for what was handed: they make what the builder's meaning says
abbrev pub IsRight : Meanings → State → Edits → Handing → Type 0
IsRight ms s edits g = Right ms (task g.item) g.handed.delta (last_tree s g.item) s.tree edits

-- those of each commit of a history are right for what was handed last; this was it before the history
abbrev pub AreRight : Meanings → Option Handing → Moment → List Entry → Type 0
AreRight ms last s [] = Unit {0}
AreRight ms last s (x ∷ h) = IfSome (committed_by x.event x.reply.answer) (λ edits. IsSomeAnd last (IsRight ms (state_of s) edits)) × AreRight ms (handed_with last s x) (after s x) h

-- ---- what outcomes tell

-- the project and the number of the command whose builder failed, where that is the outcome that is checked in
abbrev pub failed_by : Event → Option (List ℕ × ℕ)
failed_by (events.Service (services.CheckIn (outcomes.Build (BuilderFailed project index)))) = Some (project, index)
failed_by event = None

-- the command that was handed something is that one
abbrev pub IsOf : List ℕ × ℕ → Handing → Type 0
IsOf at g = (g.item.project ≡ at.0) × (g.item.index ≡ at.1)

-- each outcome of a history that tells of a builder that failed tells of the command that was handed something last; this
-- was it before the history
abbrev pub AreTold : Option Handing → Moment → List Entry → Type 0
AreTold last s [] = Unit {0}
AreTold last s (x ∷ h) = IfSome (failed_by x.event) (λ at. IsSomeAnd last (IsOf at)) × AreTold (handed_with last s x) (after s x) h

-- 1 for an outcome that tells of a builder that failed, where the command that was handed something last names that builder
abbrev pub failure : List ℕ → Option (List ℕ × ℕ) → Option Handing → ℕ
failure name None last = 0
failure name (Some at) None = 0
failure name (Some at) (Some g) = if bytes_eq g.item.command.builder name then 1 else 0

-- how often the outcomes of a history tell that the builder of a name failed
abbrev pub failures : List ℕ → Option Handing → Moment → List Entry → ℕ
failures name last s [] = 0
failures name last s (x ∷ h) = failure name (failed_by x.event) last + failures name (handed_with last s x) (after s x) h

-- a count rose by so much or more, or came to its last value
abbrev pub HasRisenBy : ℕ → ℕ → ℕ → Type 0
HasRisenBy n old new = (old + n ≤ new) ⊎ ((2 ^ 64 - 1 ≤ new) × (old ≤ new))

-- the failure count of the first builder of the name did; where there is none, it is to rise by nothing
abbrev pub HaveRisen : List ℕ → ℕ → List Told → List Told → Type 0
HaveRisen name n old new = MatchOption (first_named name old) (n ≡ 0) (λ a. IsSomeAnd (first_named name new) (λ b. HasRisenBy n a.faults b.faults))

-- ---- both

-- from a state on, where this was handed last, each commit of a history is right, and each outcome that tells of a builder
-- that failed tells of the command that was handed something last, and has a failure of that builder to itself
pub record AnswersHandings (ms : Meanings) (last : Option Handing) (s : Moment) (h : List Entry) (old new : List Told) : Type 0 where
  pub right : AreRight ms last s h
  pub told : AreTold last s h
  pub risen : (name : List ℕ) → HaveRisen name (failures name last s h) old new
