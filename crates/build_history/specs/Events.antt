-- Which events are those of builds, and which have no part in any.
use Rattle.std.specs.Prelude.{◌≡◌, ℕ, Bool, true, false, List}
use Rattle.std.specs.List.{AllByRecursion}
use Rattle.core_event.specs.declared.entry.Entry.{Entry}
use Rattle.core_event.specs.declared.event.Event.{Event}
use Rattle.core_event.specs.declared.event.Event.TheVariants.{Begin, Batch, EndBatch, End, Service}
use Rattle.core_event.specs.declared.reply.Answer.{Answer}
use Rattle.core_event.specs.declared.reply.Answer.TheVariants.{Committed}
use Rattle.core_event.specs.declared.service.Outcomes.TheVariants as outcomes
use Rattle.core_event.specs.declared.service.Purpose.TheVariants as purposes
use Rattle.core_event.specs.declared.service.ServiceEvent.{ServiceEvent}
use Rattle.core_event.specs.declared.service.ServiceEvent.TheVariants.{Checkout, CheckIn, Handed, Commit, Clean, Saving}

-- whether what is asked of the services is asked for a build
abbrev pub is_for_build : ServiceEvent → Bool
is_for_build (Checkout (purposes.Build kind scope)) = true
is_for_build (Checkout (purposes.Save kind)) = false
is_for_build (CheckIn (outcomes.Build outcome)) = true
is_for_build (CheckIn (outcomes.Save answer)) = false
is_for_build (Handed project index kind) = true
is_for_build (Commit edits) = true
is_for_build (Clean project index) = true
is_for_build (Saving states) = false

-- whether an event asks something of the services for a build
abbrev pub is_of_build : Event → Bool
is_of_build (Service x) = is_for_build x
is_of_build event = false

-- an event of a build command
abbrev pub IsBuilding : Event → Type 0
IsBuilding (Begin rule) = Unit {0}
IsBuilding Batch = Unit {0}
IsBuilding (Service x) = is_for_build x ≡ true
IsBuilding EndBatch = Unit {0}
IsBuilding (End rule) = Unit {0}
IsBuilding event = ⊥

-- an entry of one, which the pass made
pub record IsOwn (k : ℕ) (x : Entry) : Type 0 where
  pub pass : x.pass ≡ k
  pub building : IsBuilding x.event

-- whether an event with its answer committed edits
abbrev pub has_committed : Event → Answer → Bool
has_committed (Service (Commit edits)) (Committed touched problems) = true
has_committed event answer = false

-- no entry asks something of the services for a build
abbrev pub NoBuilds : List Entry → Type 0
NoBuilds = AllByRecursion (λ (x : Entry). is_of_build x.event ≡ false)
