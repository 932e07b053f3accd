-- Events and entries that ask nothing of the services for a build.
use Rattle.std.proofs.Common.{◌≡◌, ℕ, true, false, List, [], ◌∷◌, Some, None, refl}
use Rattle.std.specs.List.{AllByRecursion}
use Rattle.save_kind.specs.declared.answer.SaveAnswer.{SaveAnswer}
use Rattle.save_kind.specs.declared.kind.SaveKind.{SaveKind}
use Rattle.save_kind.specs.declared.state.PartState.{PartState}
use Rattle.core_event.specs.declared.entry.Entry.{Entry}
use Rattle.core_event.specs.declared.event.Event.{Event}
use Rattle.core_event.specs.declared.event.Event.TheVariants.{Enter, Leave, Schedule, Sleep, Wake, Cancel, Take, Finish, Begin, TryBegin, End, Transfer, Batch, EndBatch, Checkpoint, Operation, Service}
use Rattle.core_event.specs.declared.service.Outcomes.TheVariants as outcomes
use Rattle.core_event.specs.declared.service.Purpose.TheVariants as purposes
use Rattle.core_event.specs.declared.service.ServiceEvent.{ServiceEvent}
use Rattle.core_event.specs.declared.service.ServiceEvent.TheVariants.{Checkout, CheckIn, Handed, Commit, Clean, Saving}
use Rattle.core_event.specs.Events.{service_of}
use Rattle.build_history.specs.Events.{NoBuilds, is_for_build, is_of_build}

-- what holds of each event that doesn't concern the services, and of each that asks something of them for a save, holds of
-- every event that asks nothing of them for a build
pub otherwise : (P : Event → Type 0) → ((e : Event) → service_of e ≡ None → P e)
    → ((kind : SaveKind) → P (Service (Checkout (purposes.Save kind)))) → ((answer : SaveAnswer) → P (Service (CheckIn (outcomes.Save answer)))) → ((states : List (List ℕ × PartState)) → P (Service (Saving states)))
    → (e : Event) → is_of_build e ≡ false → P e
otherwise P plain begins ends keeping Enter other = plain Enter refl
otherwise P plain begins ends keeping Leave other = plain Leave refl
otherwise P plain begins ends keeping (Schedule name priority rule asleep) other = plain (Schedule name priority rule asleep) refl
otherwise P plain begins ends keeping (Sleep name) other = plain (Sleep name) refl
otherwise P plain begins ends keeping (Wake name) other = plain (Wake name) refl
otherwise P plain begins ends keeping (Cancel name) other = plain (Cancel name) refl
otherwise P plain begins ends keeping Take other = plain Take refl
otherwise P plain begins ends keeping Finish other = plain Finish refl
otherwise P plain begins ends keeping (Begin rule) other = plain (Begin rule) refl
otherwise P plain begins ends keeping (TryBegin rule) other = plain (TryBegin rule) refl
otherwise P plain begins ends keeping (End rule) other = plain (End rule) refl
otherwise P plain begins ends keeping (Transfer to) other = plain (Transfer to) refl
otherwise P plain begins ends keeping Batch other = plain Batch refl
otherwise P plain begins ends keeping EndBatch other = plain EndBatch refl
otherwise P plain begins ends keeping Checkpoint other = plain Checkpoint refl
otherwise P plain begins ends keeping (Operation op) other = plain (Operation op) refl
otherwise P plain begins ends keeping (Service x) other = of x other
  where
    of : (x : ServiceEvent) → is_for_build x ≡ false → P (Service x)
    of (Checkout (purposes.Save kind)) other = begins kind
    of (CheckIn (outcomes.Save answer)) other = ends answer
    of (Saving states) other = keeping states
    of (Checkout (purposes.Build kind scope)) other = absurd (let is : true ≡ false = other in cc)
    of (CheckIn (outcomes.Build outcome)) other = absurd (let is : true ≡ false = other in cc)
    of (Handed project index kind) other = absurd (let is : true ≡ false = other in cc)
    of (Commit edits) other = absurd (let is : true ≡ false = other in cc)
    of (Clean project index) other = absurd (let is : true ≡ false = other in cc)

-- an event that doesn't concern the services asks nothing of them
pub plain_event : (e : Event) → service_of e ≡ None → is_of_build e ≡ false
plain_event Enter none = refl
plain_event Leave none = refl
plain_event (Schedule name priority rule asleep) none = refl
plain_event (Sleep name) none = refl
plain_event (Wake name) none = refl
plain_event (Cancel name) none = refl
plain_event Take none = refl
plain_event Finish none = refl
plain_event (Begin rule) none = refl
plain_event (TryBegin rule) none = refl
plain_event (End rule) none = refl
plain_event (Transfer to) none = refl
plain_event Batch none = refl
plain_event EndBatch none = refl
plain_event Checkpoint none = refl
plain_event (Operation op) none = refl
plain_event (Service x) none = absurd (let is : Some x ≡ None = none in cc)

-- nor do entries of such events
pub plain_entries : (h : List Entry) → AllByRecursion (λ (x : Entry). service_of x.event ≡ None) h → NoBuilds h
plain_entries [] none = tt
plain_entries (x ∷ h) none = (plain_event x.event none.0, plain_entries h none.1)
