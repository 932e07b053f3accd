-- The names of the builders, the command under way, and what the services were taken for.
use Rattle.std.specs.Prelude.{ℕ, Bool, true, false, if◌then◌else◌, List, [], ◌∷◌, Option, Some, None}
use Rattle.res_path.specs.Paths.{Names, path_eq}
use Rattle.ws_elem.specs.Trees.{Tree}
use Rattle.op_kind.specs.declared.op.Op.{Op}
use Rattle.op_kind.specs.declared.op.Op.TheVariants.{Delete, Move, Close, Describe}
use Rattle.save_kind.specs.declared.answer.SaveAnswer.TheVariants.{Saved, SaveFailed, ParticipantFailed, SaveTooLarge, SaveNumbers, NoMemory}
use Rattle.core_event.specs.declared.service.Outcomes.{Outcomes}
use Rattle.core_event.specs.declared.service.Outcomes.TheVariants as outcomes
use Rattle.core_event.specs.declared.service.Purpose.{Purpose}
use Rattle.core_event.specs.declared.service.Purpose.TheVariants as purposes
use Rattle.build_due.specs.declared.site.Site.{Site}
use Rattle.service_desk.specs.declared.desk.Desk.{Desk}
use Rattle.service_desk.specs.declared.desk.Serving.{Serving}
use Rattle.service_desk.specs.declared.desk.Serving.TheVariants.{Build, Save}
use Rattle.service_desk.specs.declared.desk.UnderWay.{UnderWay}
use Rattle.service_desk.specs.Sites.{site_in}

-- with these builders, no command under way, and the services at home
abbrev pub desk_of : Names → Desk
desk_of builders = record { builders = builders; under = None; serving = None }

-- ---- what the services were taken for

-- the purpose, of a save before states are kept
abbrev pub taken_for : Purpose → Serving
taken_for (purposes.Build kind scope) = Build
taken_for (purposes.Save kind) = Save false

-- a pass has the services, for this
abbrev pub out_for : Desk → Purpose → Desk
out_for d purpose = record d { serving = Some (taken_for purpose) }

-- in the save under way states were kept
abbrev pub with_states : Desk → Desk
with_states d = record d { serving = Some (Save true) }

-- the services are at home, and no command is under way
abbrev pub home : Desk → Desk
home d = record d { under = None; serving = None }

-- they were taken for a build
abbrev pub is_building : Option Serving → Bool
is_building None = false
is_building (Some Build) = true
is_building (Some (Save kept)) = false

-- they were taken for a save
abbrev pub is_saving : Option Serving → Bool
is_saving None = false
is_saving (Some Build) = false
is_saving (Some (Save kept)) = true

-- they were taken for a save, in which states were kept
abbrev pub has_kept : Option Serving → Bool
has_kept None = false
has_kept (Some Build) = false
has_kept (Some (Save kept)) = kept

-- they may be given back so: a build ends as a build and a save as a save, as saved only where states were kept
abbrev pub may_end : Option Serving → Outcomes → Bool
may_end serving (outcomes.Build outcome) = is_building serving
may_end serving (outcomes.Save Saved) = has_kept serving
may_end serving (outcomes.Save SaveFailed) = is_saving serving
may_end serving (outcomes.Save (ParticipantFailed name)) = is_saving serving
may_end serving (outcomes.Save SaveTooLarge) = is_saving serving
may_end serving (outcomes.Save SaveNumbers) = is_saving serving
may_end serving (outcomes.Save NoMemory) = is_saving serving

-- ---- the command under way

-- the command of this number of the project is under way
abbrev pub under_way : Desk → List ℕ → ℕ → Desk
under_way d project index = record d { under = Some (record { project = project; index = index }) }

-- no command is under way
abbrev pub idle : Desk → Desk
idle d = record d { under = None }

-- the command that is under way, as its project's description has it
abbrev pub site_of : Tree → Option UnderWay → Option Site
site_of t None = None
site_of t (Some u) = site_in t u.project u.index

-- a build of the project of this name doesn't go on after the operation
abbrev pub stops : Op → List ℕ → Bool
stops (Delete p) project = path_eq p (project ∷ [])
stops (Move from to) project = path_eq from (project ∷ [])
stops (Close p) project = path_eq p (project ∷ [])
stops (Describe p text) project = path_eq p (project ∷ [])
stops op project = false

abbrev pub unless_stopped : Op → Option UnderWay → Option UnderWay
unless_stopped op None = None
unless_stopped op (Some u) = if stops op u.project then None else Some u

-- after an operation that was done
abbrev pub left : Desk → Op → Desk
left d op = record d { under = unless_stopped op d.under }
