-- A step by its parts.
use Rattle.std.proofs.Common.{◌≡◌, ℕ, Bool, true, false, not, ◌&&◌, ◌||◌, List, [], ◌∷◌, if◌then◌else◌, refl, sym, ap, ◌∙◌, subst}
use Rattle.std.specs.Prelude.{Option, Some, None, Result, Ok, Err, IfOk}
use Rattle.std.specs.Option.{option_map, option_or}
use Rattle.std.specs.declared.alloc.AllocError.{AllocError}
use Rattle.delta_kind.proofs.Same.{tells_no_change}
use Rattle.op_kind.specs.declared.op.Op.{Op}
use Rattle.op_kind.specs.declared.op.Op.TheVariants.{CreateFile, CreateFolder, CreateProject, Delete, Write, Touch, Derived, Move, Copy, Open, Close, Describe, Forget, Mark, Attr, Unmark, ClearMarks, Partner, Sync, Flush, Read}
use Rattle.op_kind.specs.declared.refusal.OpRefusal.{OpRefusal}
use Rattle.op_kind.specs.Refusals as ops
use Rattle.op_rule.specs.Rules.{operation_rule}
use Rattle.pass_table.specs.Passes.{is_quiet}
use Rattle.core_event.specs.declared.event.Event.{Event}
use Rattle.core_event.specs.declared.event.Event.TheVariants.{Enter, Leave, Schedule, Sleep, Wake, Cancel, Take, Finish, Begin, TryBegin, End, Transfer, Batch, EndBatch, Checkpoint, Operation, Service}
use Rattle.core_event.specs.declared.reply.Answer.{Answer}
use Rattle.core_event.specs.declared.reply.Answer.TheVariants.{Done, Plan, Refused}
use Rattle.core_event.specs.declared.reply.Refusal.{Refusal}
use Rattle.core_event.specs.declared.reply.Refusal.TheVariants as refusals
use Rattle.core_event.specs.declared.reply.Reply.{Reply}
use Rattle.core_event.specs.declared.service.ServiceEvent.{ServiceEvent}
use Rattle.core_event.specs.declared.service.ServiceEvent.TheVariants.{Checkout, CheckIn, Handed, Commit, Clean, Saving}
use Rattle.core_event.specs.declared.service.Purpose.{Purpose}
use Rattle.core_event.specs.declared.service.Purpose.TheVariants.{Build, Save}
use Rattle.core_event.specs.declared.service.Outcomes.{Outcomes}
use Rattle.core_event.specs.declared.service.Outcomes.TheVariants as outcomes
use Rattle.core_event.specs.Events.{is_checkpoint, is_read, operation_of, service_of}
use Rattle.core_event.specs.declared.twice.Twice.{Twice}
use Rattle.core_event.specs.Twice.{doubled, twice}
use Rattle.core_event.specs.Replies.{answered, some_nodes}
use Rattle.job_manager.specs.declared.manager.JobManager.{JobManager}
use Rattle.job_manager.specs.Admission.{admission}
use Rattle.job_manager.specs.Batches.{closes}
use Rattle.job_manager.specs.Refusals as managers
use Rattle.job_manager.specs.Effects as managing
use Rattle.op_kind.specs.declared.answer.OpAnswer.{OpAnswer}
use Rattle.op_kind.specs.declared.answer.OpAnswer.TheVariants as op_answers
use Rattle.op_kind.specs.Effects as does
use Rattle.ws_elem.specs.Trees.{Tree}
use Rattle.builder_api.specs.declared.edits.Edits.{Edits}
use Rattle.builder_api.specs.declared.kind.BuildKind.{BuildKind}
use Rattle.save_kind.specs.declared.kind.SaveKind.{SaveKind}
use Rattle.save_kind.specs.declared.state.PartState.{PartState}
use Rattle.output_commit.specs.Committed as outputs
use Rattle.output_edits.specs.declared.refusal.EditRefusal.{EditRefusal}
use Rattle.build_due.specs.declared.site.Site.{Site}
use Rattle.build_plan.specs.Plans.{plan}
use Rattle.proj_desc.specs.FirstCause.{first_cause}
use Rattle.service_desk.specs.declared.desk.Desk.{Desk}
use Rattle.service_desk.specs.Desks.{idle, is_building, is_saving, left, may_end}
use Rattle.service_desk.specs.Refusals.{not_serving, unrooted}
use Rattle.service_desk.specs.Sites.{site_in}
use Rattle.ws_content.specs.States.{Contents, Remembered}
use Rattle.ws_content.specs.Deeds.{cleaned, commit, committed, edit_refusal, made, operated, operation, replied, reply_of}
use Rattle.ws_content.specs.Saves.{ended, is_saved, save_begun, save_ended}
use Rattle.ws_core.specs.States.{Moment, contents_of}
use Rattle.ws_core.specs.Refusals.{current, edit_cause, no_build, other_refusal, refusal, refusal_by, service_causes}
use Rattle.ws_core.specs.Effects.{check_in, clean_for, commit_for, effect_by, hand, keep_states, managed, other_effect, serve, taken_out}
use Rattle.ws_core.specs.Steps.{acted, act, tell, tells, told, step}
use Rattle.ws_core.specs.Inside.Parts.{desk_after, is_refused, moment}

-- what holds where a call succeeds follows from what holds there
pub if_ok : {T E : Type 0} {P Q : T → Type 0} (r : Result T E) → ((x : T) → P x → Q x) → IfOk r P → IfOk r Q
if_ok (Ok x) f h = f x h
if_ok (Err e) f h = tt

-- ---- which event it is

-- an operation, one of the services, or one that the jobs and passes know
pub data Concern (e : Event) : Type 0 where
  OfOperation : (op : Op) → e ≡ Operation op → Concern e
  OfService : (x : ServiceEvent) → e ≡ Service x → Concern e
  OfManager : operation_of e ≡ None → service_of e ≡ None → Concern e

pub concern_of : (e : Event) → Concern e
concern_of Enter = OfManager refl refl
concern_of Leave = OfManager refl refl
concern_of (Schedule name priority rule asleep) = OfManager refl refl
concern_of (Sleep name) = OfManager refl refl
concern_of (Wake name) = OfManager refl refl
concern_of (Cancel name) = OfManager refl refl
concern_of Take = OfManager refl refl
concern_of Finish = OfManager refl refl
concern_of (Begin rule) = OfManager refl refl
concern_of (TryBegin rule) = OfManager refl refl
concern_of (End rule) = OfManager refl refl
concern_of (Transfer to) = OfManager refl refl
concern_of Batch = OfManager refl refl
concern_of EndBatch = OfManager refl refl
concern_of Checkpoint = OfManager refl refl
concern_of (Operation op) = OfOperation op refl
concern_of (Service x) = OfService x refl

-- ---- what is remembered

-- the tree with which the workspace was opened and the one that was told last stay
abbrev Keeps : Moment → Moment × Answer → Type 0
Keeps s d = (d.0.remembered.start ≡ s.remembered.start) × (d.0.remembered.told ≡ s.remembered.told)

-- so they do at the end of a save
pub ended_start : (outcome : Outcomes) (r : Remembered) → (ended outcome r).start ≡ r.start
ended_start (outcomes.Build outcome) r = refl
ended_start (outcomes.Save answer) r = by (is_saved answer)
  where
    by : (b : Bool) → (save_ended b r).start ≡ r.start
    by true = refl
    by false = refl

pub ended_told : (outcome : Outcomes) (r : Remembered) → (ended outcome r).told ≡ r.told
ended_told (outcomes.Build outcome) r = refl
ended_told (outcomes.Save answer) r = by (is_saved answer)
  where
    by : (b : Bool) → (save_ended b r).told ≡ r.told
    by true = refl
    by false = refl

-- and what was built last
pub ended_built : (outcome : Outcomes) (r : Remembered) → (ended outcome r).built ≡ r.built
ended_built (outcomes.Build outcome) r = refl
ended_built (outcomes.Save answer) r = by (is_saved answer)
  where
    by : (b : Bool) → (save_ended b r).built ≡ r.built
    by true = refl
    by false = refl

serve_keeps : (s : Moment) (k : ℕ) (x : ServiceEvent) → Keeps s (serve s k x)
serve_keeps s k (Checkout (Build kind scope)) = (refl, refl)
serve_keeps s k (Checkout (Save kind)) = (refl, refl)
serve_keeps s k (CheckIn outcome) = (ended_start outcome s.remembered, ended_told outcome s.remembered)
serve_keeps s k (Saving states) = (refl, refl)
serve_keeps s k (Handed project index kind) = by (site_in s.resources.tree project index)
  where
    by : (o : Option Site) → Keeps s (hand s o kind)
    by None = (refl, refl)
    by (Some site) = (refl, refl)
serve_keeps s k (Commit edits) = by (current s)
  where
    by : (o : Option Site) → Keeps s (commit_for s o edits)
    by None = (refl, refl)
    by (Some site) = (refl, refl)
serve_keeps s k (Clean project index) = by (site_in s.resources.tree project index)
  where
    by : (o : Option Site) → Keeps s (clean_for s o)
    by None = (refl, refl)
    by (Some site) = (refl, refl)

-- whatever an event does, before anything is told
pub act_keeps : (s : Moment) (k : ℕ) (e : Event) → Keeps s (act s k e)
act_keeps s k e = by (refusal s k e)
  where
    other : (v : Option ServiceEvent) → Keeps s (other_effect v s k e)
    other None = (refl, refl)
    other (Some x) = serve_keeps s k x

    done : (o : Option Op) → Keeps s (effect_by o s k e)
    done None = other (service_of e)
    done (Some op) = (refl, refl)

    by : (r : Option Refusal) → Keeps s (acted r s k e)
    by None = done (operation_of e)
    by (Some r) = (refl, refl)

-- ---- what is told

-- where the tree is told, or it is no telling place, nothing is
pub still : (b : Bool) (s : Moment) (a : Answer) → (b ≡ true → s.remembered.told ≡ s.resources.tree) → told b s a ≡ (s, record { answer = a; notice = None })
still false s a h = refl
still true s a h =
    let same = h refl in
    let back = sym same in
    let none = ap some_nodes (tells_no_change s.remembered.told s.resources.tree same) in
    λ i. (record s { remembered = record (s.remembered) { told = back i } }, record { answer = a; notice = none i })

-- a refused event tells nothing
pub refused_still : (s : Moment) (k : ℕ) (e : Event) (r : Refusal) → refusal s k e ≡ Some r → (tells e s ≡ true → s.remembered.told ≡ s.resources.tree)
    → (s, record { answer = Refused r; notice = None }) ≡ step s k e
refused_still s k e r is h = sym (still (tells e s) s (Refused r) h) ∙ ap (λ x. tell e (acted x s k e)) (sym is)

-- the reply to a refused event is its step
pub refused_called : (w : Bool) (s : Moment) (k : ℕ) (e : Event) (r : Refusal) (o : Result (Twice Reply) AllocError) → refusal s k e ≡ Some r
    → (tells e s ≡ true → s.remembered.told ≡ s.resources.tree) → IfOk o (λ x. x ≡ twice w (record { answer = Refused r; notice = None }))
    → IfOk o (λ x. (s, x) ≡ doubled w (step s k e))
refused_called w s k e r (Ok x) is h so = (λ i. (s, so i)) ∙ ap (doubled w) (refused_still s k e r is h)
refused_called w s k e r (Err x) is h so = tt

-- ---- events of passes, jobs, rules and batches

pub act_managed : (s : Moment) (k : ℕ) (e : Event) → operation_of e ≡ None → service_of e ≡ None → act s k e ≡ managed s (managing.outcome s.manager k e)
act_managed s k e none plain =
    ap (λ o. acted (refusal_by o s k e) s k e) none ∙ ap (λ x. acted (other_refusal x s k e) s k e) plain ∙ by (managers.refusal s.manager k e)
  where
    by : (r : Option Refusal) → acted r s k e ≡ managed s (managing.decided r s.manager k e)
    by None = ap (λ o. effect_by o s k e) none ∙ ap (λ x. other_effect x s k e) plain
    by (Some r) = refl

-- such an event steps so
pub step_managed : (s : Moment) (k : ℕ) (e : Event) → operation_of e ≡ None → service_of e ≡ None → tell e (managed s (managing.outcome s.manager k e)) ≡ step s k e
step_managed s k e none plain = ap (tell e) (sym (act_managed s k e none plain))

-- where it tells nothing
pub managed_still : (s : Moment) (k : ℕ) (e : Event) (done : JobManager × Answer) → operation_of e ≡ None → service_of e ≡ None → done ≡ managing.outcome s.manager k e
    → (tells e (managed s done).0 ≡ true → s.remembered.told ≡ s.resources.tree)
    → (record s { manager = done.0 }, record { answer = done.1; notice = None }) ≡ step s k e
managed_still s k e done none plain is h =
    sym (still (tells e (managed s done).0) (managed s done).0 done.1 h) ∙ ap (λ d. tell e (managed s d)) is ∙ step_managed s k e none plain

-- where a batch is open before and after it
pub not_told : (e : Event) (s : Moment) → is_checkpoint e ≡ false → is_quiet s.manager.passes ≡ false → tells e s ≡ true → ⊥
not_told e s other busy h = no (sym h ∙ ap (λ b. b || is_quiet s.manager.passes) other ∙ busy)
  where
    no : true ≡ false → ⊥
    no g = cc

-- an event that closes batches is no operation, no checkpoint and none of the services, and is done
pub closing : (e : Event) → closes e ≡ true → (operation_of e ≡ None) × (service_of e ≡ None) × (is_checkpoint e ≡ false)
closing Enter h = cc
closing Leave h = cc
closing (Schedule name priority rule asleep) h = cc
closing (Sleep name) h = cc
closing (Wake name) h = cc
closing (Cancel name) h = cc
closing Take h = cc
closing Finish h = (refl, refl, refl)
closing (Begin rule) h = cc
closing (TryBegin rule) h = cc
closing (End rule) h = cc
closing (Transfer to) h = cc
closing Batch h = cc
closing EndBatch h = (refl, refl, refl)
closing Checkpoint h = cc
closing (Operation op) h = cc
closing (Service x) h = cc

pub closing_done : (m : JobManager) (k : ℕ) (e : Event) → closes e ≡ true → (managing.effect m k e).1 ≡ Done
closing_done m k Enter h = cc
closing_done m k Leave h = cc
closing_done m k (Schedule name priority rule asleep) h = cc
closing_done m k (Sleep name) h = cc
closing_done m k (Wake name) h = cc
closing_done m k (Cancel name) h = cc
closing_done m k Take h = cc
closing_done m k Finish h = refl
closing_done m k (Begin rule) h = cc
closing_done m k (TryBegin rule) h = cc
closing_done m k (End rule) h = cc
closing_done m k (Transfer to) h = cc
closing_done m k Batch h = cc
closing_done m k EndBatch h = refl
closing_done m k Checkpoint h = cc
closing_done m k (Operation op) h = cc
closing_done m k (Service x) h = cc

-- what a closing event leaves that isn't refused
pub closes_so : (m now : JobManager) (k : ℕ) (e : Event) → closes e ≡ true → managers.refusal m k e ≡ None → now ≡ (managing.effect m k e).0
    → ◌≡◌ {A = JobManager × Answer} (now, Done) (managing.outcome m k e)
closes_so m now k e h allowed is = (λ i. (is i, sym (closing_done m k e h) i)) ∙ ap (λ r. managing.decided r m k e) (sym allowed)

pub only_checkpoint : (e : Event) → is_checkpoint e ≡ true → e ≡ Checkpoint
only_checkpoint Enter h = cc
only_checkpoint Leave h = cc
only_checkpoint (Schedule name priority rule asleep) h = cc
only_checkpoint (Sleep name) h = cc
only_checkpoint (Wake name) h = cc
only_checkpoint (Cancel name) h = cc
only_checkpoint Take h = cc
only_checkpoint Finish h = cc
only_checkpoint (Begin rule) h = cc
only_checkpoint (TryBegin rule) h = cc
only_checkpoint (End rule) h = cc
only_checkpoint (Transfer to) h = cc
only_checkpoint Batch h = cc
only_checkpoint EndBatch h = cc
only_checkpoint Checkpoint h = refl
only_checkpoint (Operation op) h = cc
only_checkpoint (Service x) h = cc

-- a checkpoint tells
pub checkpoint_tells : (s : Moment) (k : ℕ) (e : Event) → is_checkpoint e ≡ true
    → (moment (replied true (contents_of s, Done)).0 s.manager s.desk, (replied true (contents_of s, Done)).1) ≡ step s k e
checkpoint_tells s k e h = ap (step s k) (sym (only_checkpoint e h))

-- where a closing event leaves no batch open, it tells
pub closing_tells : (s : Moment) (now : JobManager) (k : ℕ) (e : Event) → closes e ≡ true → managers.refusal s.manager k e ≡ None → now ≡ (managing.effect s.manager k e).0
    → is_quiet (managing.outcome s.manager k e).0.passes ≡ true
    → (moment (replied true (contents_of s, Done)).0 now s.desk, (replied true (contents_of s, Done)).1) ≡ step s k e
closing_tells s now k e h allowed is quiet =
    let done = closes_so s.manager now k e h allowed is in
    let place : is_quiet now.passes ≡ true = ap (λ (d : JobManager × Answer). is_quiet d.0.passes) done ∙ quiet in
    let b : true ≡ tells e (managed s (now, Done)).0 = sym (ap (λ x. x || is_quiet now.passes) (closing e h).2 ∙ place) in
    ap (λ x. told x (managed s (now, Done)).0 Done) b ∙ ap (λ d. tell e (managed s d)) done ∙ step_managed s k e (closing e h).0 (closing e h).1

-- ---- operations

-- what an operation does to a state in which it is admitted
pub act_operation : (s : Moment) (k : ℕ) (op : Op) → admission s.manager.passes.rules k (operation_rule op) ≡ None
    → act s k (Operation op) ≡ acted (option_map refusals.Operation (ops.refusal s.resources op)) s k (Operation op)
act_operation s k op admitted = ap (λ a. acted (option_or a (option_map refusals.Operation (ops.refusal s.resources op))) s k (Operation op)) admitted

reply_answer : (b : Bool) (t u : Tree) (a : Answer) → (reply_of b t u a).answer ≡ a
reply_answer true t u a = refl
reply_answer false t u a = refl

not_refused : (a : OpAnswer) → is_refused (answered a) ≡ false
not_refused op_answers.Done = refl
not_refused (op_answers.Id id) = refl
not_refused (op_answers.Count count) = refl
not_refused (op_answers.Seen entries partners) = refl

-- where the tree is told, nothing is
replied_still : (b : Bool) (d : Contents × Answer) → (b ≡ true → d.0.remembered.told ≡ d.0.resources.tree) → replied false d ≡ replied b d
replied_still false d h = refl
replied_still true d h =
    let same = h refl in
    let none = sym (ap some_nodes (tells_no_change d.0.remembered.told d.0.resources.tree same)) in
    λ i. (record (d.0) { remembered = record (d.0.remembered) { told = same i } }, record { answer = d.1; notice = none i })

-- what only reads changes nothing
read_same : (c : Contents) (op : Op) (x : Option OpRefusal) → is_read op ≡ true → (made (option_map refusals.Operation x) c (operation c op)).0 ≡ c
read_same c op (Some x) h = refl
read_same c op None h = by op h
  where
    by : (o : Op) → is_read o ≡ true → (made None c (operation c o)).0 ≡ c
    by (CreateFile p bytes) g = cc
    by (CreateFolder p) g = cc
    by (CreateProject p) g = cc
    by (Delete p) g = cc
    by (Write p bytes) g = cc
    by (Touch p) g = cc
    by (Derived p on) g = cc
    by (Move from to) g = cc
    by (Copy from to) g = cc
    by (Open p) g = cc
    by (Close p) g = cc
    by (Describe p text) g = cc
    by (Forget p) g = cc
    by (Mark p mark_type attributes) g = cc
    by (Attr p id name value) g = cc
    by (Unmark p id) g = cc
    by (ClearMarks p mark_type depth) g = cc
    by (Partner name) g = cc
    by (Sync p name bytes) g = cc
    by (Flush p name depth) g = cc
    by (Read p want) g = refl

-- what only reads leaves nothing to be told
read_untold : (s : Moment) (op : Op) (told_there : Bool) → told_there ≡ (is_quiet s.manager.passes && not (is_read op)) → (is_quiet s.manager.passes ≡ true → s.remembered.told ≡ s.resources.tree)
    → replied told_there (operated (contents_of s) op) ≡ replied (is_quiet s.manager.passes) (operated (contents_of s) op)
read_untold s op told_there is quiet = by (is_read op) (is_quiet s.manager.passes) refl is quiet
  where
    by : (r q : Bool) → is_read op ≡ r → told_there ≡ (q && not r) → (q ≡ true → s.remembered.told ≡ s.resources.tree)
        → replied told_there (operated (contents_of s) op) ≡ replied q (operated (contents_of s) op)
    by true q read e h =
        let same = read_same (contents_of s) op (ops.refusal s.resources op) read in
        ap (λ b. replied b (operated (contents_of s) op)) (e ∙ never q)
        ∙ replied_still q (operated (contents_of s) op) (λ g. subst (λ (c : Contents). c.remembered.told ≡ c.resources.tree) (sym same) (h g))
      where
        never : (q : Bool) → (q && not true) ≡ false
        never true = refl
        never false = refl
    by false true read e h = ap (λ b. replied b (operated (contents_of s) op)) e
    by false false read e h = ap (λ b. replied b (operated (contents_of s) op)) e

-- so such an operation steps, with the desk that it leaves where it isn't refused
pub operation_so : (s : Moment) (k : ℕ) (op : Op) (told_there : Bool) → admission s.manager.passes.rules k (operation_rule op) ≡ None
    → told_there ≡ (is_quiet s.manager.passes && not (is_read op)) → (is_quiet s.manager.passes ≡ true → s.remembered.told ≡ s.resources.tree)
    → (
      moment (replied told_there (operated (contents_of s) op)).0 s.manager (desk_after s.desk op (replied told_there (operated (contents_of s) op)).1.answer),
      (replied told_there (operated (contents_of s) op)).1,
    )
    ≡ step s k (Operation op)
operation_so s k op told_there admitted is quiet =
    ap shown (read_untold s op told_there is quiet) ∙ by (ops.refusal s.resources op) ∙ ap (tell (Operation op)) (sym (act_operation s k op admitted))
  where
    shown : Contents × Reply → Moment × Reply
    shown d = (moment d.0 s.manager (desk_after s.desk op d.1.answer), d.1)

    q : Bool
    q = is_quiet s.manager.passes

    by : (x : Option OpRefusal) → shown (replied q (made (option_map refusals.Operation x) (contents_of s) (operation (contents_of s) op)))
        ≡ tell (Operation op) (acted (option_map refusals.Operation x) s k (Operation op))
    by None =
        let a = (does.effect s.resources op).1 in
        let c = (made None (contents_of s) (operation (contents_of s) op)).0 in
        let done : is_refused (reply_of q c.remembered.told c.resources.tree (answered a)).answer ≡ false = ap is_refused (reply_answer q c.remembered.told c.resources.tree (answered a)) ∙ not_refused a in
        ap (λ b. (moment (replied q (c, answered a)).0 s.manager (if b then s.desk else left s.desk op), (replied q (c, answered a)).1)) done
    by (Some x) =
        let done : is_refused (reply_of q s.remembered.told s.resources.tree (Refused (refusals.Operation x))).answer ≡ true = ap is_refused (reply_answer q s.remembered.told s.resources.tree (Refused (refusals.Operation x))) in
        ap (λ b. (moment (replied q (contents_of s, Refused (refusals.Operation x))).0 s.manager (if b then s.desk else left s.desk op), (replied q (contents_of s, Refused (refusals.Operation x))).1)) done

-- ---- what concerns the services

-- what is refused steps so
pub service_refused : (s : Moment) (k : ℕ) (x : ServiceEvent) (r : Refusal) → first_cause (service_causes s k x) ≡ Some r
    → (is_quiet s.manager.passes ≡ true → s.remembered.told ≡ s.resources.tree) → (s, record { answer = Refused r; notice = None }) ≡ step s k (Service x)
service_refused s k x r is h = refused_still s k (Service x) r is h

-- what isn't
step_served : (s : Moment) (k : ℕ) (x : ServiceEvent) → first_cause (service_causes s k x) ≡ None → tell (Service x) (serve s k x) ≡ step s k (Service x)
step_served s k x none = ap (λ r. tell (Service x) (acted r s k (Service x))) (sym none)

served_still : (s : Moment) (k : ℕ) (x : ServiceEvent) → first_cause (service_causes s k x) ≡ None
    → (is_quiet (serve s k x).0.manager.passes ≡ true → (serve s k x).0.remembered.told ≡ (serve s k x).0.resources.tree)
    → ((serve s k x).0, record { answer = (serve s k x).1; notice = None }) ≡ step s k (Service x)
served_still s k x none h = sym (still (is_quiet (serve s k x).0.manager.passes) (serve s k x).0 (serve s k x).1 h) ∙ step_served s k x none

pub build_so : (s : Moment) (k : ℕ) (purpose : Purpose) (kind : BuildKind) (scope : Option (List ℕ)) → purpose ≡ Build kind scope
    → first_cause (service_causes s k (Checkout purpose)) ≡ None → (is_quiet s.manager.passes ≡ true → s.remembered.told ≡ s.resources.tree)
    → (taken_out s k purpose, record { answer = Plan (plan s.resources.tree scope); notice = None }) ≡ step s k (Service (Checkout purpose))
build_so s k purpose kind scope is none h =
    subst (λ p. first_cause (service_causes s k (Checkout p)) ≡ None → (taken_out s k p, record { answer = Plan (plan s.resources.tree scope); notice = None }) ≡ step s k (Service (Checkout p)))
    (sym is) (λ allowed. served_still s k (Checkout (Build kind scope)) allowed h) none

pub save_so : (s : Moment) (k : ℕ) (purpose : Purpose) (kind : SaveKind) → purpose ≡ Save kind
    → first_cause (service_causes s k (Checkout purpose)) ≡ None → (is_quiet s.manager.passes ≡ true → s.remembered.told ≡ s.resources.tree)
    → (record (taken_out s k purpose) { remembered = save_begun s.remembered }, record { answer = Done; notice = None }) ≡ step s k (Service (Checkout purpose))
save_so s k purpose kind is none h =
    subst (λ p. first_cause (service_causes s k (Checkout p)) ≡ None → (record (taken_out s k p) { remembered = save_begun s.remembered }, record { answer = Done; notice = None }) ≡ step s k (Service (Checkout p)))
    (sym is) (λ allowed. served_still s k (Checkout (Save kind)) allowed h) none

pub check_in_so : (s : Moment) (k : ℕ) (outcome : Outcomes) → not_serving s.manager.passes (may_end s.desk.serving outcome) k ≡ None
    → (is_quiet s.manager.passes ≡ true → s.remembered.told ≡ s.resources.tree)
    → ((check_in s outcome).0, record { answer = Done; notice = None }) ≡ step s k (Service (CheckIn outcome))
check_in_so s k outcome serving h = served_still s k (CheckIn outcome) (ap (λ c. first_cause (c ∷ [])) serving) (λ q. ended_told outcome s.remembered ∙ h q)

pub keeping_so : (s : Moment) (k : ℕ) (states : List (List ℕ × PartState)) → not_serving s.manager.passes (is_saving s.desk.serving) k ≡ None
    → (is_quiet s.manager.passes ≡ true → s.remembered.told ≡ s.resources.tree)
    → ((keep_states s states).0, record { answer = (keep_states s states).1; notice = None }) ≡ step s k (Service (Saving states))
keeping_so s k states serving h = served_still s k (Saving states) (ap (λ c. first_cause (c ∷ [])) serving) h

-- a call that keeps states
pub keeping_called : (w : Bool) (s : Moment) (k : ℕ) (states : List (List ℕ × PartState)) (now : Moment) (o : Result (Twice Reply) AllocError)
    → not_serving s.manager.passes (is_saving s.desk.serving) k ≡ None → (is_quiet s.manager.passes ≡ true → s.remembered.told ≡ s.resources.tree)
    → IfOk o (λ r. (now, r) ≡ doubled w ((keep_states s states).0, record { answer = (keep_states s states).1; notice = None }))
    → IfOk o (λ r. (now, r) ≡ doubled w (step s k (Service (Saving states))))
keeping_called w s k states now (Ok r) serving h so = so ∙ ap (doubled w) (keeping_so s k states serving h)
keeping_called w s k states now (Err e) serving h so = tt

-- of the command at the place, if there is one
pub handed_so : (s : Moment) (k : ℕ) (project : List ℕ) (index : ℕ) (kind : BuildKind) (site : Option Site) → site_in s.resources.tree project index ≡ site
    → first_cause (service_causes s k (Handed project index kind)) ≡ None → (is_quiet s.manager.passes ≡ true → s.remembered.told ≡ s.resources.tree)
    → ((hand s site kind).0, record { answer = (hand s site kind).1; notice = None }) ≡ step s k (Service (Handed project index kind))
handed_so s k project index kind site is none h =
    ap (λ o. ((hand s o kind).0, record { answer = (hand s o kind).1; notice = None })) (sym is)
    ∙ served_still s k (Handed project index kind) none (by (site_in s.resources.tree project index))
  where
    by : (o : Option Site) → is_quiet (hand s o kind).0.manager.passes ≡ true → (hand s o kind).0.remembered.told ≡ (hand s o kind).0.resources.tree
    by None g = h g
    by (Some x) g = h g

-- a call that hands what is due
pub handed_called : (w : Bool) (s : Moment) (k : ℕ) (project : List ℕ) (index : ℕ) (kind : BuildKind) (site : Site) (now : Moment) (o : Result (Twice Reply) AllocError)
    → site_in s.resources.tree project index ≡ Some site → first_cause (service_causes s k (Handed project index kind)) ≡ None
    → (is_quiet s.manager.passes ≡ true → s.remembered.told ≡ s.resources.tree)
    → IfOk o (λ r. (now, r) ≡ doubled w ((hand s (Some site) kind).0, record { answer = (hand s (Some site) kind).1; notice = None }))
    → IfOk o (λ r. (now, r) ≡ doubled w (step s k (Service (Handed project index kind))))
handed_called w s k project index kind site now (Ok r) at none h so = so ∙ ap (doubled w) (handed_so s k project index kind (Some site) at none h)
handed_called w s k project index kind site now (Err e) at none h so = tt

-- whether its edits are refused or made
pub commit_so : (s : Moment) (k : ℕ) (edits : Edits) (site : Site) (told_there : Bool) → current s ≡ Some site
    → not_serving s.manager.passes (is_building s.desk.serving) k ≡ None → unrooted s.manager.passes.rules k ≡ None → told_there ≡ is_quiet s.manager.passes
    → (moment (replied told_there (committed (contents_of s) site edits)).0 s.manager s.desk, (replied told_there (committed (contents_of s) site edits)).1)
    ≡ step s k (Service (Commit edits))
commit_so s k edits site told_there there serving rooted is =
    ap shown (ap (λ b. replied b (committed (contents_of s) site edits)) is)
    ∙ by (outputs.refusal s.resources site.output site.index edits)
    ∙ ap (λ o. tell (Service (Commit edits)) (done (causes None o None) o)) (sym there)
    ∙ ap (λ c. tell (Service (Commit edits)) (done (causes c (current s) None) (current s))) (sym serving)
    ∙ ap (λ c. tell (Service (Commit edits)) (done (causes (not_serving s.manager.passes (is_building s.desk.serving) k) (current s) c) (current s))) (sym rooted)
    ∙ ap (tell (Service (Commit edits))) (acted_so (refusal s k (Service (Commit edits))))
  where
    shown : Contents × Reply → Moment × Reply
    shown d = (moment d.0 s.manager s.desk, d.1)

    causes : Option Refusal → Option Site → Option Refusal → Option Refusal
    causes a o b = first_cause (a ∷ no_build o ∷ b ∷ edit_cause s.resources edits o ∷ [])

    done : Option Refusal → Option Site → Moment × Answer
    done None o = commit_for s o edits
    done (Some r) o = (s, Refused r)

    acted_so : (r : Option Refusal) → done r (current s) ≡ acted r s k (Service (Commit edits))
    acted_so None = refl
    acted_so (Some r) = refl

    by : (x : Option EditRefusal) → shown (replied (is_quiet s.manager.passes) (made (option_map edit_refusal x) (contents_of s) (commit (contents_of s) site edits)))
        ≡ tell (Service (Commit edits)) (done (option_or (option_map edit_refusal x) None) (Some site))
    by None = refl
    by (Some x) = refl

pub clean_so : (s : Moment) (k : ℕ) (project : List ℕ) (index : ℕ) (site : Site) (told_there : Bool) → site_in s.resources.tree project index ≡ Some site
    → first_cause (service_causes s k (Clean project index)) ≡ None → told_there ≡ is_quiet s.manager.passes
    → (moment (replied told_there (cleaned (contents_of s) site)).0 s.manager (idle s.desk), (replied told_there (cleaned (contents_of s) site)).1)
    ≡ step s k (Service (Clean project index))
clean_so s k project index site told_there there none is =
    ap (λ b. (moment (replied b (cleaned (contents_of s) site)).0 s.manager (idle s.desk), (replied b (cleaned (contents_of s) site)).1)) is
    ∙ ap (λ o. tell (Service (Clean project index)) (clean_for s o)) (sym there)
    ∙ step_served s k (Clean project index) none

-- ---- what is called

-- a call on the contents that makes a step, with a copy of the reply where one is wanted
pub called : (w : Bool) (f : Contents → Moment) (c : Contents) (r : Twice Reply) (d : Contents × Reply) (out : Moment × Reply) → (c, r) ≡ doubled w d → (f d.0, d.1) ≡ out
    → (f c, r) ≡ doubled w out
called w f c r d out is so = (λ i. (f ((is i).0), (is i).1)) ∙ ap (doubled w) so

-- one that does an operation, after which the desk is as the answer leaves it
pub operation_called : (w : Bool) (s : Moment) (k : ℕ) (op : Op) (told_there : Bool) (c : Contents) (r : Twice Reply) (desk : Desk)
    → admission s.manager.passes.rules k (operation_rule op) ≡ None → told_there ≡ (is_quiet s.manager.passes && not (is_read op))
    → (is_quiet s.manager.passes ≡ true → s.remembered.told ≡ s.resources.tree) → (c, r) ≡ doubled w (replied told_there (operated (contents_of s) op))
    → desk ≡ desk_after s.desk op r.value.answer → (moment c s.manager desk, r) ≡ doubled w (step s k (Operation op))
operation_called w s k op told_there c r desk admitted is quiet does_so leaves =
    (λ i. (moment c s.manager (leaves i), r))
    ∙ (λ i. (moment ((does_so i).0) s.manager (desk_after s.desk op ((does_so i).1).value.answer), (does_so i).1))
    ∙ ap (doubled w) (operation_so s k op told_there admitted is quiet)

-- where both hold, the first does
pub first_holds : (a b : Bool) → (a && b) ≡ true → a ≡ true
first_holds true b h = refl
first_holds false b h = cc
