-- Whether a build or a save of a history ended for want of memory.
use Rattle.std.specs.Prelude.{◌≡◌, Bool, true, false, List}
use Rattle.std.specs.List.{AllByRecursion}
use Rattle.builder_api.specs.declared.outcome.BuildOutcome.TheVariants.{NoMemory}
use Rattle.core_event.specs.declared.entry.Entry.{Entry}
use Rattle.core_event.specs.declared.event.Event.{Event}
use Rattle.core_event.specs.declared.event.Event.TheVariants.{Service}
use Rattle.save_kind.specs.declared.answer.SaveAnswer.TheVariants as saves
use Rattle.core_event.specs.declared.service.Outcomes.TheVariants.{Build, Save}
use Rattle.core_event.specs.declared.service.ServiceEvent.TheVariants.{CheckIn}

-- whether the event ends a build or a save for want of memory
abbrev pub wants_memory : Event → Bool
wants_memory (Service (CheckIn (Build NoMemory))) = true
wants_memory (Service (CheckIn (Save saves.NoMemory))) = true
wants_memory event = false

-- no build and no save of these ended for want of memory
abbrev pub IsCalm : List Entry → Type 0
IsCalm = AllByRecursion (λ (x : Entry). wants_memory x.event ≡ false)
