-- A state by its parts.
use Rattle.std.specs.Prelude.{◌≡◌, Bool, true, false, if◌then◌else◌, None}
use Rattle.op_kind.specs.declared.op.Op.{Op}
use Rattle.core_event.specs.declared.reply.Answer.{Answer}
use Rattle.core_event.specs.declared.reply.Answer.TheVariants.{Refused}
use Rattle.core_event.specs.declared.reply.Reply.{Reply}
use Rattle.core_event.specs.declared.twice.Twice.{Twice}
use Rattle.core_event.specs.Twice.{twice}
use Rattle.job_manager.specs.declared.manager.JobManager.{JobManager}
use Rattle.service_desk.specs.declared.error.ServiceError.{ServiceError}
use Rattle.service_desk.specs.declared.error.ServiceError.TheVariants as errors
use Rattle.service_desk.specs.declared.desk.Desk.{Desk}
use Rattle.service_desk.specs.Desks.{left}
use Rattle.ws_content.specs.States.{Contents}
use Rattle.ws_core.specs.States.{Moment}

abbrev pub moment : Contents → JobManager → Desk → Moment
moment c m d = record { resources = c.resources; remembered = c.remembered; manager = m; desk = d }

-- the reply tells the refusal; where memory wants there is none
abbrev pub Tells : Bool → ServiceError → Twice Reply → Type 0
Tells w (errors.Refused r) x = x ≡ twice w (record { answer = Refused r; notice = None })
Tells w errors.Memory x = ⊥

abbrev pub is_refused : Answer → Bool
is_refused (Refused r) = true
is_refused answer = false

-- the desk after an operation that was answered so
abbrev pub desk_after : Desk → Op → Answer → Desk
desk_after d op a = if is_refused a then d else left d op
