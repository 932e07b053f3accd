-- The command that is under way at each entry of a history.
use Rattle.std.specs.Prelude.{Bool, true, false, if◌then◌else◌, Option, Some, None}
use Rattle.core_event.specs.declared.entry.Entry.{Entry}
use Rattle.core_event.specs.declared.event.Event.{Event}
use Rattle.core_event.specs.declared.event.Event.TheVariants.{Operation, Service}
use Rattle.core_event.specs.declared.reply.Answer.{Answer}
use Rattle.core_event.specs.declared.reply.Answer.TheVariants.{Refused}
use Rattle.core_event.specs.declared.service.ServiceEvent.{ServiceEvent}
use Rattle.core_event.specs.declared.service.ServiceEvent.TheVariants.{Checkout, CheckIn, Handed, Commit, Clean, Saving}
use Rattle.service_desk.specs.Desks.{unless_stopped}
use Rattle.service_desk.specs.declared.desk.UnderWay.{UnderWay}

abbrev pub is_refused : Answer → Bool
is_refused (Refused refusal) = true
is_refused answer = false

-- after what concerns the services and was done: a command is under way once something is handed for it, until the
-- services are given back or a command is cleaned
abbrev pub under_served : Option UnderWay → ServiceEvent → Option UnderWay
under_served u (Checkout purpose) = u
under_served u (CheckIn outcomes) = None
under_served u (Handed project index kind) = Some (record { project = project; index = index })
under_served u (Commit edits) = u
under_served u (Clean project index) = None
under_served u (Saving states) = u

-- after an event that was done
abbrev pub under_done : Option UnderWay → Event → Option UnderWay
under_done u (Service x) = under_served u x
under_done u (Operation op) = unless_stopped op u
under_done u event = u

-- after an entry; a refused event changes nothing
abbrev pub under_after : Option UnderWay → Entry → Option UnderWay
under_after u x = if is_refused x.reply.answer then u else under_done u x.event
