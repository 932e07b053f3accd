-- An event of a build leaves an entry: the one worker never waits.
use Rattle.std.proofs.Common.{◌≡◌, ℕ, Bool, true, false, not, ◌&&◌, nat_le, List, [], ◌∷◌, length, Option, Some, None, refl, sym, ap, ◌∙◌}
use Rattle.std.specs.Prelude.{slice_get}
use Rattle.std.specs.Option.{option_map}
use Rattle.std.specs.FinMap.{contains_key}
use Rattle.res_path.specs.Paths.{Names}
use Rattle.proj_desc.specs.FirstCause.{first_cause, when}
use Rattle.proj_desc.specs.declared.command.Command.{Command}
use Rattle.job_queue.proofs.Found.{same_Some}
use Rattle.ws_elem.specs.Trees.{Tree}
use Rattle.op_kind.specs.Places.{is_shut}
use Rattle.op_kind.specs.declared.refusal.OpRefusal.TheVariants.{NotFound, ProjectClosed}
use Rattle.output_edits.specs.declared.refusal.EditRefusal.{EditRefusal}
use Rattle.output_edits.specs.declared.refusal.EditRefusal.TheVariants as edit_refusals
use Rattle.builder_api.specs.declared.edits.Edits.{Edits}
use Rattle.build_due.specs.declared.site.Site.{Site}
use Rattle.core_event.specs.declared.event.Event.{Event}
use Rattle.core_event.specs.declared.event.Event.TheVariants.{Begin, Batch, EndBatch, End, Service}
use Rattle.core_event.specs.declared.reply.Refusal.{Refusal}
use Rattle.core_event.specs.declared.reply.Refusal.TheVariants as refusals
use Rattle.core_event.specs.declared.service.Purpose.TheVariants.{Build, Save}
use Rattle.core_event.specs.declared.service.ServiceEvent.{ServiceEvent}
use Rattle.core_event.specs.declared.service.ServiceEvent.TheVariants.{Checkout, CheckIn, Handed, Commit, Clean, Saving}
use Rattle.core_event.specs.Replies.{is_attempt, is_conflict}
use Rattle.pass_table.specs.Passes.{Passes, serves}
use Rattle.sched_rules.specs.declared.ws_atom.WsAtom.{WsAtom}
use Rattle.service_desk.specs.Desks.{is_building, is_saving, may_end}
use Rattle.service_desk.specs.Refusals.{commands_of, no_builder, not_serving, project_causes, scope_causes, site_causes, unrooted}
use Rattle.service_desk.specs.Sites.{site_in}
use Rattle.ws_content.specs.Deeds.{edit_refusal}
use Rattle.output_commit.specs.Committed as outputs
use Rattle.ws_core.specs.States.{Moment}
use Rattle.ws_core.specs.Histories.{entry_of, only_tried}
use Rattle.ws_core.specs.Refusals.{current, edit_cause, no_build, service_causes}
use Rattle.ws_core.specs.Effects.{clean_for, commit_for, hand, serve}
use Rattle.ws_core.specs.Steps.{act, acted, step, tells}
use Rattle.run_order.specs.Alone.{IsSingle}
use Rattle.builder_api.specs.declared.kind.BuildKind.{BuildKind}
use Rattle.build_core.specs.Histories.{started_of, taken_of}
use Rattle.build_core.proofs.Leaves.{refused, served}
use Rattle.run_order.proofs.Managed.{told_answer}
use Rattle.run_order.proofs.Waiting.{both_false, never_tried}
use Rattle.build_history.specs.Events.{IsBuilding}
use Rattle.build_host.proofs.Each.{each}

-- this is no conflict
abbrev Calm : Option Refusal → Type 0
Calm o = (r : Refusal) → o ≡ Some r → is_conflict r ≡ false

calm_when : (b : Bool) (cause : Refusal) → is_conflict cause ≡ false → Calm (when b cause)
calm_when true cause none r h = ap is_conflict (sym (same_Some cause r h)) ∙ none
calm_when false cause none r h = cc

-- of several causes none is
abbrev AllCalm : List (Option Refusal) → Type 0
AllCalm [] = Unit {0}
AllCalm (o ∷ os) = Calm o × AllCalm os

calm_first : (os : List (Option Refusal)) → AllCalm os → Calm (first_cause os)
calm_first [] all r h = cc
calm_first (None ∷ os) all r h = calm_first os all.1 r h
calm_first (Some x ∷ os) all r h = all.0 r h

calm_serving : (passes : Passes WsAtom) (fits : Bool) (k : ℕ) → Calm (not_serving passes fits k)
calm_serving passes fits k = calm_when (not (serves passes k && fits)) (refusals.NotServices passes.services) refl

calm_rooted : (s : Moment) (k : ℕ) → Calm (unrooted s.manager.passes.rules k)
calm_rooted s k = calm_when _ (refusals.NotContained _) refl

calm_out : (o : Option ℕ) → Calm (option_map refusals.ServicesOut o)
calm_out None r h = cc
calm_out (Some k) r h = ap is_conflict (sym (same_Some (refusals.ServicesOut k) r h))

calm_project : (t : Tree) (project : List ℕ) → AllCalm (project_causes t project)
calm_project t project = (
  calm_when (not (contains_key t (project ∷ []))) (refusals.Operation (NotFound (project ∷ []))) refl,
  (calm_when (is_shut t (project ∷ [])) (refusals.Operation (ProjectClosed (project ∷ []))) refl, tt),
)

calm_scope : (t : Tree) (scope : Option (List ℕ)) → AllCalm (scope_causes t scope)
calm_scope t None = tt
calm_scope t (Some project) = calm_project t project

calm_builder : (builders : Names) (o : Option Command) → Calm (no_builder builders o)
calm_builder builders None r h = cc
calm_builder builders (Some c) r h = calm_when _ (refusals.NoBuilder c.builder) refl r h

calm_site : (s : Moment) (k : ℕ) (project : List ℕ) (index : ℕ) → AllCalm (site_causes s.manager.passes s.resources.tree s.desk k project index)
calm_site s k project index = (
  calm_serving s.manager.passes (is_building s.desk.serving) k,
  (
    calm_rooted s k,
    (
      calm_when (not (contains_key s.resources.tree (project ∷ []))) (refusals.Operation (NotFound (project ∷ []))) refl,
      (
        calm_when (is_shut s.resources.tree (project ∷ [])) (refusals.Operation (ProjectClosed (project ∷ []))) refl,
        (
          calm_when (nat_le (length (commands_of s.resources.tree project)) index) (refusals.NoCommand (length (commands_of s.resources.tree project))) refl,
          (calm_builder s.desk.builders (slice_get (commands_of s.resources.tree project) index), tt),
        ),
      ),
    ),
  ),
)

calm_build : (o : Option Site) → Calm (no_build o)
calm_build None r h = ap is_conflict (sym (same_Some refusals.NoBuild r h))
calm_build (Some site) r h = cc

calm_edit : (r : EditRefusal) → is_conflict (edit_refusal r) ≡ false
calm_edit (edit_refusals.BadEdits path) = refl
calm_edit edit_refusals.TooDeep = refl
calm_edit edit_refusals.TooLong = refl
calm_edit edit_refusals.TreeFull = refl
calm_edit edit_refusals.NumbersUsed = refl

calm_edits : (o : Option EditRefusal) → Calm (option_map edit_refusal o)
calm_edits None r h = cc
calm_edits (Some cause) r h = ap is_conflict (sym (same_Some (edit_refusal cause) r h)) ∙ calm_edit cause

calm_commit : (s : Moment) (e : Edits) (o : Option Site) → Calm (edit_cause s.resources e o)
calm_commit s e None r h = cc
calm_commit s e (Some site) r h = calm_edits (outputs.refusal s.resources site.output site.index e) r h

calm_causes : (s : Moment) (k : ℕ) (x : ServiceEvent) → AllCalm (service_causes s k x)
calm_causes s k (Checkout (Build kind scope)) = (calm_rooted s k, (calm_out s.manager.passes.services, calm_scope s.resources.tree scope))
calm_causes s k (Checkout (Save kind)) = (calm_out s.manager.passes.services, tt)
calm_causes s k (CheckIn outcome) = (calm_serving s.manager.passes (may_end s.desk.serving outcome) k, tt)
calm_causes s k (Handed project index kind) = calm_site s k project index
calm_causes s k (Commit edits) = (calm_serving s.manager.passes (is_building s.desk.serving) k, (calm_build (current s), (calm_rooted s k, (calm_commit s edits (current s), tt))))
calm_causes s k (Clean project index) = calm_site s k project index
calm_causes s k (Saving states) = (calm_serving s.manager.passes (is_saving s.desk.serving) k, tt)

-- what is served is answered
served_tried : (s : Moment) (k : ℕ) (x : ServiceEvent) → is_attempt (Service x) (serve s k x).1 ≡ false
served_tried s k (Checkout (Build kind scope)) = refl
served_tried s k (Checkout (Save kind)) = refl
served_tried s k (CheckIn outcome) = refl
served_tried s k (Saving states) = refl
served_tried s k (Handed project index kind) = of (site_in s.resources.tree project index)
  where
    of : (o : Option Site) → is_attempt (Service (Handed project index kind)) (hand s o kind).1 ≡ false
    of None = refl
    of (Some site) = refl
served_tried s k (Commit edits) = of (current s)
  where
    of : (o : Option Site) → is_attempt (Service (Commit edits)) (commit_for s o edits).1 ≡ false
    of None = refl
    of (Some site) = refl
served_tried s k (Clean project index) = of (site_in s.resources.tree project index)
  where
    of : (o : Option Site) → is_attempt (Service (Clean project index)) (clean_for s o).1 ≡ false
    of None = refl
    of (Some site) = refl

-- what concerns the services leaves an entry
pub service_tried : (s : Moment) (k : ℕ) (x : ServiceEvent) → only_tried (entry_of s k (Service x)) ≡ false
service_tried s k x =
    ap (is_attempt (Service x)) (told_answer (tells (Service x) (act s k (Service x)).0) (act s k (Service x)).0 (act s k (Service x)).1)
    ∙ by (first_cause (service_causes s k x)) refl
  where
    by : (r : Option Refusal) → first_cause (service_causes s k x) ≡ r → is_attempt (Service x) (acted r s k (Service x)).1 ≡ false
    by None is = served_tried s k x
    by (Some r) is = both_false (is_conflict r) true (calm_first (service_causes s k x) (calm_causes s k x) r is)

-- each event of a build of the one worker leaves one
pub building_tried : (s : Moment) (e : Event) → IsBuilding e → IsSingle s.manager → only_tried (entry_of s 1 e) ≡ false
building_tried s e b single = each (λ v. only_tried (entry_of s 1 v) ≡ false)
    (λ rule. never_tried s (Begin rule) tt single)
    (never_tried s Batch tt single)
    (λ x of. service_tried s 1 x)
    (never_tried s EndBatch tt single)
    (λ rule. never_tried s (End rule) tt single) e b

-- ---- what is answered

-- a checkout is answered a plan or refused
pub checkout_answered : (s : Moment) (k : ℕ) (kind : BuildKind) (scope : Option (List ℕ)) → started_of (step s k (Service (Checkout (Build kind scope)))).1.answer ≡ None → ⊥
checkout_answered s k kind scope h = by (first_cause (service_causes s k (Checkout (Build kind scope)))) refl
  where
    by : (r : Option Refusal) → first_cause (service_causes s k (Checkout (Build kind scope))) ≡ r → ⊥
    by None is = let got = sym (ap started_of (served s k (Checkout (Build kind scope)) is).answer) ∙ h in cc
    by (Some r) is = let got = sym (ap started_of (refused s k (Checkout (Build kind scope)) r is).answer) ∙ h in cc

no_cause : (a b c d : Option Refusal) → first_cause (a ∷ b ∷ c ∷ d ∷ []) ≡ None → b ≡ None
no_cause None None c d h = refl
no_cause None (Some b) c d h = cc
no_cause (Some a) b c d h = cc

-- and a commit is made or refused
pub commit_answered : (s : Moment) (k : ℕ) (e : Edits) → taken_of (step s k (Service (Commit e))).1.answer ≡ None → ⊥
commit_answered s k e h = by (first_cause (service_causes s k (Commit e))) refl
  where
    made : (o : Option Site) → no_build o ≡ None → taken_of (commit_for s o e).1 ≡ None → ⊥
    made None none g = cc
    made (Some site) none g = cc

    by : (r : Option Refusal) → first_cause (service_causes s k (Commit e)) ≡ r → ⊥
    by None is = made (current s) (no_cause (not_serving s.manager.passes (is_building s.desk.serving) k) (no_build (current s)) (unrooted s.manager.passes.rules k) (edit_cause s.resources e (current s)) is)
        (sym (ap taken_of (served s k (Commit e) is).answer) ∙ h)
    by (Some r) is = let got = sym (ap taken_of (refused s k (Commit e) r is).answer) ∙ h in cc
