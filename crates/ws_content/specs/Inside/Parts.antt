-- Contents by their parts, and what calls answer.
use Rattle.std.specs.Prelude.{◌≡◌, Bool, None}
use Rattle.proj_desc.specs.Causes.{desc_cause}
use Rattle.op_kind.specs.declared.op.Op.{Op}
use Rattle.op_kind.specs.declared.op.Op.TheVariants.{Describe}
use Rattle.op_kind.specs.declared.refusal.OpError.{OpError}
use Rattle.op_kind.specs.declared.refusal.OpError.TheVariants as op_errors
use Rattle.op_kind.specs.Places.{project_name}
use Rattle.op_kind.specs.Resources.{Resources}
use Rattle.output_edits.specs.declared.refusal.EditError.{EditError}
use Rattle.output_edits.specs.declared.refusal.EditError.TheVariants as edit_errors
use Rattle.core_event.specs.declared.reply.Answer.TheVariants.{Refused}
use Rattle.core_event.specs.declared.reply.Refusal.{Refusal}
use Rattle.core_event.specs.declared.reply.Refusal.TheVariants.{Operation}
use Rattle.core_event.specs.declared.reply.Reply.{Reply}
use Rattle.core_event.specs.declared.twice.Twice.{Twice}
use Rattle.core_event.specs.Twice.{twice}
use Rattle.ws_content.specs.States.{Contents, Remembered}
use Rattle.ws_content.specs.Deeds.{edit_refusal}

abbrev pub contents : Resources → Remembered → Contents
contents r v = record { resources = r; remembered = v }

-- the reply to what is refused, which tells nothing
abbrev pub refused_reply : Refusal → Reply
refused_reply r = record { answer = Refused r; notice = None }

-- the reply tells the refusal; where memory wants there is none
abbrev pub TellsOperation : Bool → OpError → Twice Reply → Type 0
TellsOperation w (op_errors.Refused r) x = x ≡ twice w (refused_reply (Operation r))
TellsOperation w op_errors.Memory x = ⊥

abbrev pub TellsEdits : Bool → EditError → Twice Reply → Type 0
TellsEdits w (edit_errors.Refused r) x = x ≡ twice w (refused_reply (edit_refusal r))
TellsEdits w edit_errors.Memory x = ⊥

-- a text that is to describe a project is a description of it
abbrev pub IsDescribed : Op → Type 0
IsDescribed (Describe p text) = desc_cause (project_name p) text ≡ None
IsDescribed op = Unit {0}
