-- What events concern.
use Rattle.std.specs.Prelude.{Bool, true, false, if◌then◌else◌, Option, Some, None}
use Rattle.op_kind.specs.declared.op.Op.{Op}
use Rattle.op_kind.specs.declared.op.Op.TheVariants.{Read}
use Rattle.core_event.specs.declared.event.Event.{Event}
use Rattle.core_event.specs.declared.service.ServiceEvent.{ServiceEvent}
use Rattle.core_event.specs.declared.event.Event.TheVariants.{Enter, Leave, Schedule, Sleep, Wake, Cancel, Take, Finish, Begin, TryBegin, End, Transfer, Batch, EndBatch, Checkpoint, Operation, Service}

abbrev pub is_checkpoint : Event → Bool
is_checkpoint Checkpoint = true
is_checkpoint event = false

abbrev pub is_leave : Event → Bool
is_leave Leave = true
is_leave event = false

-- the operation that the event is, if it is one
abbrev pub operation_of : Event → Option Op
operation_of Enter = None
operation_of Leave = None
operation_of (Schedule name priority rule asleep) = None
operation_of (Sleep name) = None
operation_of (Wake name) = None
operation_of (Cancel name) = None
operation_of Take = None
operation_of Finish = None
operation_of (Begin rule) = None
operation_of (TryBegin rule) = None
operation_of (End rule) = None
operation_of (Transfer to) = None
operation_of Batch = None
operation_of EndBatch = None
operation_of Checkpoint = None
operation_of (Operation op) = Some op
operation_of (Service x) = None

-- what the event asks of the services, if it does
abbrev pub service_of : Event → Option ServiceEvent
service_of (Service x) = Some x
service_of event = None

-- whether the operation only reads
abbrev pub is_read : Op → Bool
is_read (Read p want) = true
is_read op = false

-- the operation by which the event may change resources, if there is one
abbrev pub change_of : Event → Option Op
change_of (Operation op) = if is_read op then None else Some op
change_of event = None

-- the event is one of those that are tried again, without an entry, where another pass's rule is in the way
abbrev pub waits : Event → Bool
waits (TryBegin rule) = false
waits event = true
