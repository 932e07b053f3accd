-- The events of a build, one by one.
use Rattle.core_event.specs.declared.entry.Entry.{Entry}
use Rattle.core_event.specs.declared.event.Event.{Event}
use Rattle.core_event.specs.declared.event.Event.TheVariants.{Enter, Leave, Schedule, Sleep, Wake, Cancel, Take, Finish, Begin, TryBegin, End, Transfer, Batch, EndBatch, Checkpoint, Operation, Service}
use Rattle.core_event.specs.declared.service.ServiceEvent.{ServiceEvent}
use Rattle.core_event.specs.Events.{service_of}
use Rattle.sched_rules.specs.declared.ws_atom.WsAtom.{WsAtom}
use Rattle.std.proofs.Common.{◌≡◌, ◌⊎◌, inl, inr, ℕ, true, List, [], ◌∷◌, None, refl}
use Rattle.std.specs.List.{AllByRecursion}
use Rattle.build_history.specs.Events.{IsBuilding, IsOwn, is_for_build, is_of_build}

-- what holds of each of the five kinds holds of every event of a build
pub each : (P : Event → Type 0) → ((rule : List WsAtom) → P (Begin rule)) → P Batch → ((x : ServiceEvent) → is_for_build x ≡ true → P (Service x)) → P EndBatch → ((rule : List WsAtom) → P (End rule)) → (e : Event)
    → IsBuilding e → P e
each P begin batch service end_batch end (Begin rule) b = begin rule
each P begin batch service end_batch end Batch b = batch
each P begin batch service end_batch end (Service x) b = service x b
each P begin batch service end_batch end EndBatch b = end_batch
each P begin batch service end_batch end (End rule) b = end rule
each P begin batch service end_batch end Enter b = absurd b
each P begin batch service end_batch end Leave b = absurd b
each P begin batch service end_batch end (Schedule name priority rule asleep) b = absurd b
each P begin batch service end_batch end (Sleep name) b = absurd b
each P begin batch service end_batch end (Wake name) b = absurd b
each P begin batch service end_batch end (Cancel name) b = absurd b
each P begin batch service end_batch end Take b = absurd b
each P begin batch service end_batch end Finish b = absurd b
each P begin batch service end_batch end (TryBegin rule) b = absurd b
each P begin batch service end_batch end (Transfer to) b = absurd b
each P begin batch service end_batch end Checkpoint b = absurd b
each P begin batch service end_batch end (Operation op) b = absurd b

-- an event of no save: it asks nothing of the services, or asks it for a build
abbrev pub IsOfNoSave : Event → Type 0
IsOfNoSave e = (service_of e ≡ None) ⊎ (is_of_build e ≡ true)

pub own_building : (e : Event) → IsBuilding e → IsOfNoSave e
own_building e b = each IsOfNoSave (λ rule. inl refl) (inl refl) (λ x of. inr of) (inl refl) (λ rule. inl refl) e b

-- so does each entry of one
pub own_entries : (k : ℕ) (h : List Entry) → AllByRecursion (IsOwn k) h → AllByRecursion (λ (x : Entry). IsOfNoSave x.event) h
own_entries k [] own = tt
own_entries k (x ∷ h) own = (own_building x.event own.0.building, own_entries k h own.1)
