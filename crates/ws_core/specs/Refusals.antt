-- Why an event is refused.
use Rattle.std.specs.Prelude.{ℕ, List, [], ◌∷◌, Option, Some, None}
use Rattle.std.specs.Option.{option_map, option_or}
use Rattle.proj_desc.specs.FirstCause.{first_cause}
use Rattle.op_kind.specs.declared.op.Op.{Op}
use Rattle.op_kind.specs.Refusals as ops
use Rattle.op_kind.specs.Resources.{Resources}
use Rattle.op_rule.specs.Rules.{operation_rule}
use Rattle.output_commit.specs.Committed as outputs
use Rattle.builder_api.specs.declared.edits.Edits.{Edits}
use Rattle.build_due.specs.declared.site.Site.{Site}
use Rattle.core_event.specs.declared.event.Event.{Event}
use Rattle.core_event.specs.declared.reply.Refusal.{Refusal}
use Rattle.core_event.specs.declared.reply.Refusal.TheVariants.{NoBuild, Operation}
use Rattle.core_event.specs.declared.service.Purpose.TheVariants.{Build, Save}
use Rattle.core_event.specs.declared.service.ServiceEvent.{ServiceEvent}
use Rattle.core_event.specs.declared.service.ServiceEvent.TheVariants.{Checkout, CheckIn, Handed, Commit, Clean, Saving}
use Rattle.core_event.specs.Events.{operation_of, service_of}
use Rattle.job_manager.specs.Admission.{admission}
use Rattle.job_manager.specs.Refusals as managers
use Rattle.service_desk.specs.Desks.{is_building, is_saving, may_end, site_of}
use Rattle.service_desk.specs.Refusals.{not_serving, scope_causes, services_out, site_causes, unrooted}
use Rattle.ws_content.specs.Deeds.{edit_refusal}
use Rattle.ws_core.specs.States.{Moment}

-- an operation isn't admitted by its rule, or for a cause of its own
abbrev pub operation_refusal : Moment → ℕ → Op → Option Refusal
operation_refusal s pass op = option_or (admission s.manager.passes.rules pass (operation_rule op)) (option_map Operation (ops.refusal s.resources op))

-- ---- what concerns the services

-- the command under way
abbrev pub current : Moment → Option Site
current s = site_of s.resources.tree s.desk.under

-- no command is under way
abbrev pub no_build : Option Site → Option Refusal
no_build None = Some NoBuild
no_build (Some site) = None

-- why the edits of the command are refused for themselves
abbrev pub edit_cause : Resources → Edits → Option Site → Option Refusal
edit_cause r e None = None
edit_cause r e (Some site) = option_map edit_refusal (outputs.refusal r site.output site.index e)

-- why what concerns the services is refused, the causes in their order
abbrev pub service_causes : Moment → ℕ → ServiceEvent → List (Option Refusal)
service_causes s pass (Checkout (Build kind scope)) =
    unrooted s.manager.passes.rules pass ∷ services_out s.manager.passes ∷ scope_causes s.resources.tree scope
service_causes s pass (Checkout (Save kind)) = services_out s.manager.passes ∷ []
service_causes s pass (CheckIn outcome) = not_serving s.manager.passes (may_end s.desk.serving outcome) pass ∷ []
service_causes s pass (Handed project index kind) = site_causes s.manager.passes s.resources.tree s.desk pass project index
service_causes s pass (Commit edits) =
    not_serving s.manager.passes (is_building s.desk.serving) pass
    ∷ no_build (current s)
    ∷ unrooted s.manager.passes.rules pass
    ∷ edit_cause s.resources edits (current s)
    ∷ []
service_causes s pass (Clean project index) = site_causes s.manager.passes s.resources.tree s.desk pass project index
service_causes s pass (Saving states) = not_serving s.manager.passes (is_saving s.desk.serving) pass ∷ []

-- ---- any event

abbrev pub other_refusal : Option ServiceEvent → Moment → ℕ → Event → Option Refusal
other_refusal None s pass event = managers.refusal s.manager pass event
other_refusal (Some x) s pass event = first_cause (service_causes s pass x)

abbrev pub refusal_by : Option Op → Moment → ℕ → Event → Option Refusal
refusal_by None s pass event = other_refusal (service_of event) s pass event
refusal_by (Some op) s pass event = operation_refusal s pass op

-- why an event of a pass is refused, if it is
abbrev pub refusal : Moment → ℕ → Event → Option Refusal
refusal s pass event = refusal_by (operation_of event) s pass event
