-- What an event does that isn't refused.
use Rattle.std.specs.Prelude.{ℕ, List, Option, Some, None}
use Rattle.op_kind.specs.declared.op.Op.{Op}
use Rattle.build_due.specs.declared.site.Site.{Site}
use Rattle.build_plan.specs.Plans.{plan}
use Rattle.builder_api.specs.declared.edits.Edits.{Edits}
use Rattle.builder_api.specs.declared.kind.BuildKind.{BuildKind}
use Rattle.pass_table.specs.Rows.{checked_in, checked_out}
use Rattle.core_event.specs.declared.event.Event.{Event}
use Rattle.core_event.specs.declared.reply.Answer.{Answer}
use Rattle.core_event.specs.declared.reply.Answer.TheVariants as answers
use Rattle.core_event.specs.declared.service.Outcomes.{Outcomes}
use Rattle.core_event.specs.declared.service.Purpose.{Purpose}
use Rattle.core_event.specs.declared.service.Purpose.TheVariants.{Build, Save}
use Rattle.core_event.specs.declared.service.ServiceEvent.{ServiceEvent}
use Rattle.core_event.specs.declared.service.ServiceEvent.TheVariants.{Checkout, CheckIn, Handed, Commit, Clean, Saving}
use Rattle.core_event.specs.Events.{operation_of, service_of}
use Rattle.job_manager.specs.declared.manager.JobManager.{JobManager}
use Rattle.job_manager.specs.Effects as managers
use Rattle.save_kind.specs.declared.state.PartState.{PartState}
use Rattle.service_desk.specs.Desks.{home, idle, left, out_for, under_way, with_states}
use Rattle.service_desk.specs.Sites.{site_in}
use Rattle.ws_content.specs.States.{with_built}
use Rattle.ws_content.specs.Deeds.{Deed, clean, commit, operation}
use Rattle.ws_content.specs.Handing.{handing}
use Rattle.ws_content.specs.Saves.{ended, save_begun, states_kept}
use Rattle.ws_core.specs.Refusals.{current}
use Rattle.ws_core.specs.States.{Moment, contents_of}

-- the state after a change of its contents
abbrev pub changed : Moment → Deed → Moment
changed s d = record s { resources = d.resources; remembered = with_built s.remembered d.built }

-- the operation is done
abbrev pub operate : Moment → Op → Moment × Answer
operate s op = let d = operation (contents_of s) op in (record (changed s d) { desk = left s.desk op }, d.answer)

-- ---- what concerns the services

-- the pass has the services for this
abbrev pub taken_out : Moment → ℕ → Purpose → Moment
taken_out s pass purpose = record s { manager = record (s.manager) { passes = checked_out s.manager.passes pass }; desk = out_for s.desk purpose }

-- for a build, by this plan; or for a save, which is under way
abbrev pub check_out : Moment → ℕ → Purpose → Moment × Answer
check_out s pass (Build kind scope) = (taken_out s pass (Build kind scope), answers.Plan (plan s.resources.tree scope))
check_out s pass (Save kind) = (record (taken_out s pass (Save kind)) { remembered = save_begun s.remembered }, answers.Done)

-- no pass has the services, no command and no save is under way
abbrev pub check_in : Moment → Outcomes → Moment × Answer
check_in s outcome = (record s { remembered = ended outcome s.remembered; manager = record (s.manager) { passes = checked_in s.manager.passes }; desk = home s.desk }, answers.Done)

-- the states are kept, with the tree as it is
abbrev pub keep_states : Moment → List (List ℕ × PartState) → Moment × Answer
keep_states s states = (record s { remembered = states_kept s.resources.tree s.remembered states; desk = with_states s.desk }, answers.Done)

-- the command, if it is one, is under way, and what is due is handed for it
abbrev pub hand : Moment → Option Site → BuildKind → Moment × Answer
hand s None kind = (s, answers.Done)
hand s (Some site) kind = (record s { desk = under_way s.desk site.project site.index }, answers.Handed (handing (contents_of s) site kind))

-- the edits are made for the command, if it is one
abbrev pub commit_for : Moment → Option Site → Edits → Moment × Answer
commit_for s None edits = (s, answers.Done)
commit_for s (Some site) edits = let d = commit (contents_of s) site edits in (changed s d, d.answer)

-- what the command has made goes, if it is one, and no command is under way
abbrev pub clean_for : Moment → Option Site → Moment × Answer
clean_for s None = (s, answers.Done)
clean_for s (Some site) = let d = clean (contents_of s) site in (record (changed s d) { desk = idle s.desk }, d.answer)

abbrev pub serve : Moment → ℕ → ServiceEvent → Moment × Answer
serve s pass (Checkout purpose) = check_out s pass purpose
serve s pass (CheckIn outcome) = check_in s outcome
serve s pass (Handed project index kind) = hand s (site_in s.resources.tree project index) kind
serve s pass (Commit edits) = commit_for s (current s) edits
serve s pass (Clean project index) = clean_for s (site_in s.resources.tree project index)
serve s pass (Saving states) = keep_states s states

-- ---- any event

-- what concerns passes, jobs, rules or batches is done
abbrev pub managed : Moment → JobManager × Answer → Moment × Answer
managed s done = (record s { manager = done.0 }, done.1)

abbrev pub other_effect : Option ServiceEvent → Moment → ℕ → Event → Moment × Answer
other_effect None s pass event = managed s (managers.effect s.manager pass event)
other_effect (Some x) s pass event = serve s pass x

abbrev pub effect_by : Option Op → Moment → ℕ → Event → Moment × Answer
effect_by None s pass event = other_effect (service_of event) s pass event
effect_by (Some op) s pass event = operate s op

-- the state after the event, and its answer
abbrev pub effect : Moment → ℕ → Event → Moment × Answer
effect s pass event = effect_by (operation_of event) s pass event
