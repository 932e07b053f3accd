-- Commands that ask one event make no step of a save.
use Rattle.std.proofs.Common.{◌≡◌, None, refl}
use Rattle.core_event.specs.declared.event.Event.{Event}
use Rattle.core_event.specs.declared.event.Event.TheVariants.{Enter, Leave, Schedule, Sleep, Wake, Cancel, Take, Finish, Begin, TryBegin, End, Transfer, Batch, EndBatch, Checkpoint, Operation, Service}
use Rattle.run_order.specs.Alone.{IsCommand}
use Rattle.save_history.specs.Steps.{step_in}

pub command_plain : (e : Event) → IsCommand e → step_in e ≡ None
command_plain (Service x) is = absurd is
command_plain Enter is = refl
command_plain Leave is = refl
command_plain (Schedule name priority rule asleep) is = refl
command_plain (Sleep name) is = refl
command_plain (Wake name) is = refl
command_plain (Cancel name) is = refl
command_plain Take is = refl
command_plain Finish is = refl
command_plain (Begin rule) is = refl
command_plain (TryBegin rule) is = refl
command_plain (End rule) is = refl
command_plain (Transfer to) is = refl
command_plain Batch is = refl
command_plain EndBatch is = refl
command_plain Checkpoint is = refl
command_plain (Operation op) is = refl
