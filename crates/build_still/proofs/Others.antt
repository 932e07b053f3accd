-- What another pass does while a pass has the services and a rule that contains the root.
use Rattle.std.proofs.Common.{◌≡◌, ◌≢◌, ◌⊎◌, ℕ, Bool, true, false, not, List, [], ◌∷◌, ◌++◌, refl, sym, ap, ◌∙◌, inl, inr, subst}
use Rattle.std.specs.Prelude.{Option, Some, None, is_none, is_some}
use Rattle.std.specs.Option.{option_map, option_or}
use Rattle.res_path.specs.Paths.{Names}
use Rattle.sched_rules.specs.Atoms.{atom_contains}
use Rattle.sched_rules.specs.Rules.{rule_contains}
use Rattle.sched_rules.specs.declared.ws_atom.WsAtom.{WsAtom}
use Rattle.proj_desc.specs.FirstCause.{first_cause, when}
use Rattle.rule_table.specs.declared.held.Held.{Held}
use Rattle.rule_table.specs.Tables.{is_outer, last_rule, newest}
use Rattle.pass_table.specs.Passes.{has_pass}
use Rattle.op_kind.specs.declared.op.Op.{Op}
use Rattle.op_kind.specs.Refusals as causes
use Rattle.op_rule.specs.Rules.{operation_rule}
use Rattle.build_laws.specs.States.{IsAlikeAt}
use Rattle.core_event.specs.declared.event.Event.{Event}
use Rattle.core_event.specs.declared.event.Event.TheVariants.{Enter, Leave, Schedule, Sleep, Wake, Cancel, Take, Finish, Begin, TryBegin, End, Transfer, Batch, EndBatch, Checkpoint, Operation, Service}
use Rattle.core_event.specs.declared.reply.Answer.{Answer}
use Rattle.core_event.specs.declared.reply.Answer.TheVariants.{Refused}
use Rattle.core_event.specs.declared.reply.Refusal.{Refusal}
use Rattle.core_event.specs.declared.reply.Refusal.TheVariants as refusals
use Rattle.core_event.specs.declared.service.Purpose.TheVariants.{Build, Save}
use Rattle.core_event.specs.declared.service.ServiceEvent.{ServiceEvent}
use Rattle.core_event.specs.declared.service.ServiceEvent.TheVariants.{Checkout, CheckIn, Handed, Commit, Clean, Saving}
use Rattle.core_event.specs.Events.{service_of}
use Rattle.job_manager.specs.declared.manager.JobManager.{JobManager}
use Rattle.job_manager.specs.Admission.{admission}
use Rattle.job_manager.specs.Effects as managing
use Rattle.job_manager.specs.Effects.{next_job, rule_of, taken}
use Rattle.job_manager.specs.Refusals as managers
use Rattle.job_manager.proofs.Apart.{Apart, outcome_apart}
use Rattle.service_desk.specs.Desks.{is_building, is_saving, may_end}
use Rattle.service_desk.specs.Refusals.{command_causes, project_causes, root_rule, scope_causes, services_out, unrooted}
use Rattle.ws_core.specs.Effects.{operate}
use Rattle.ws_core.specs.Refusals.{current, edit_cause, no_build, refusal}
use Rattle.ws_core.specs.States.{Moment}
use Rattle.ws_core.specs.Steps.{act, acted, step, tells, told}
use Rattle.ws_core.proofs.ServingPass.{serving_named}
use Rattle.ws_core.proofs.Stepped.{Concern, OfOperation, OfService, OfManager, concern_of, act_managed}
use Rattle.run_order.proofs.Managed.{step_services, step_serving}
use Rattle.pass_history.proofs.Serving.{first_none}
use Rattle.build_still.proofs.Held.{begun_keeps, dropped_keeps, ended_keeps, has_none, moved_keeps, path_refused}
use Rattle.build_still.proofs.Markers.{HasPath, IsAside, path_or_aside}

-- the pass has the services, and its topmost rule contains the root; rules of two passes don't conflict
pub record IsRooted (n : ℕ) (m : JobManager) : Type 0 where
  pub serves : m.passes.services ≡ Some n
  pub apart : Apart m.passes.rules
  pub outer : Held WsAtom
  pub has : newest (is_outer n) m.passes.rules ≡ Some outer
  pub root : rule_contains atom_contains outer.rule root_rule ≡ true

-- from one moment to another nothing but markers changed, and the command under way is the same
pub record Stands (before now : Moment) : Type 0 where
  pub alike : (q : Names) → IsAlikeAt before.resources.tree now.resources.tree q
  pub under : now.desk.under ≡ before.desk.under

-- ---- rules

target_free : (a b : Bool) (o : Option (List WsAtom)) → first_cause (when a refusals.NoPass ∷ when b refusals.HoldsNothing ∷ when (is_some o) refusals.TargetHolds ∷ []) ≡ None → o ≡ None
target_free true b o h = cc
target_free false true o h = cc
target_free false false (Some r) h = cc
target_free false false None h = refl

-- an event of another leaves the topmost rule of the pass
effect_keeps : (m : JobManager) (k n : ℕ) (e : Event) (outer : Held WsAtom) → k ≢ n → newest (is_outer n) m.passes.rules ≡ Some outer → managers.refusal m k e ≡ None
    → newest (is_outer n) (managing.effect m k e).0.passes.rules ≡ newest (is_outer n) m.passes.rules
effect_keeps m k n Enter outer other has none = refl
effect_keeps m k n Leave outer other has none = refl
effect_keeps m k n (Schedule name priority rule asleep) outer other has none = refl
effect_keeps m k n (Sleep name) outer other has none = refl
effect_keeps m k n (Wake name) outer other has none = refl
effect_keeps m k n (Cancel name) outer other has none = refl
effect_keeps m k n Take outer other has none = by (next_job m)
  where
    by : (o : Option (List ℕ)) → newest (is_outer n) (taken m k o).0.passes.rules ≡ newest (is_outer n) m.passes.rules
    by None = refl
    by (Some name) = begun_keeps k n (rule_of m.jobs name) m.passes.rules other
effect_keeps m k n Finish outer other has none = dropped_keeps k n m.passes.rules other
effect_keeps m k n (Begin rule) outer other has none = begun_keeps k n rule m.passes.rules other
effect_keeps m k n (TryBegin rule) outer other has none = begun_keeps k n rule m.passes.rules other
effect_keeps m k n (End rule) outer other has none = ended_keeps k n m.passes.rules other
effect_keeps m k n (Transfer to) outer other has none =
    moved_keeps k to n m.passes.rules other
    (has_none to n m.passes.rules outer has (target_free (not (has_pass m.passes to)) (is_none (last_rule k m.passes.rules)) (last_rule to m.passes.rules) none))
effect_keeps m k n Batch outer other has none = refl
effect_keeps m k n EndBatch outer other has none = refl
effect_keeps m k n Checkpoint outer other has none = refl
effect_keeps m k n (Operation op) outer other has none = refl
effect_keeps m k n (Service x) outer other has none = refl

outcome_keeps : (m : JobManager) (k n : ℕ) (e : Event) (outer : Held WsAtom) → k ≢ n → newest (is_outer n) m.passes.rules ≡ Some outer
    → newest (is_outer n) (managing.outcome m k e).0.passes.rules ≡ newest (is_outer n) m.passes.rules
outcome_keeps m k n e outer other has = by (managers.refusal m k e) refl
  where
    by : (r : Option Refusal) → managers.refusal m k e ≡ r → newest (is_outer n) (managing.decided r m k e).0.passes.rules ≡ newest (is_outer n) m.passes.rules
    by None none = effect_keeps m k n e outer other has none
    by (Some r) is = refl

-- rules of two passes don't conflict after any event
pub step_apart : (s : Moment) (k : ℕ) (e : Event) → Apart s.manager.passes.rules → Apart (step s k e).0.manager.passes.rules
step_apart s k e apart = subst Apart (sym (ap (λ (m : JobManager). m.passes.rules) (step_serving s k e).1)) (outcome_apart s.manager k e apart)

-- ---- the services

pub rest_none : (c : Option Refusal) (cs : List (Option Refusal)) → first_cause (c ∷ cs) ≡ None → first_cause cs ≡ None
rest_none None cs h = h
rest_none (Some r) cs h = cc

nobody : (o : Option ℕ) → option_map refusals.ServicesOut o ≡ None → o ≡ None
nobody None h = refl
nobody (Some k) h = cc

-- where what a pass asks of the services isn't refused, it has them, or nobody has
served_by : (s : Moment) (k : ℕ) (x : ServiceEvent) → refusal s k (Service x) ≡ None → (s.manager.passes.services ≡ Some k) ⊎ (s.manager.passes.services ≡ None)
served_by s k (Checkout (Build kind scope)) none =
    inr (nobody s.manager.passes.services (first_none (services_out s.manager.passes) (scope_causes s.resources.tree scope)
    (rest_none (unrooted s.manager.passes.rules k) (services_out s.manager.passes ∷ scope_causes s.resources.tree scope) none)))
served_by s k (Checkout (Save kind)) none = inr (nobody s.manager.passes.services (first_none (services_out s.manager.passes) [] none))
served_by s k (CheckIn outcome) none = inl (serving_named s.manager.passes (may_end s.desk.serving outcome) k (first_none _ [] none))
served_by s k (Handed project index kind) none =
    inl (serving_named s.manager.passes (is_building s.desk.serving) k (first_none _ (unrooted s.manager.passes.rules k ∷ (project_causes s.resources.tree project ++ command_causes s.resources.tree s.desk.builders project index)) none))
served_by s k (Commit edits) none =
    inl (serving_named s.manager.passes (is_building s.desk.serving) k (first_none _ (no_build (current s) ∷ unrooted s.manager.passes.rules k ∷ edit_cause s.resources edits (current s) ∷ []) none))
served_by s k (Clean project index) none =
    inl (serving_named s.manager.passes (is_building s.desk.serving) k (first_none _ (unrooted s.manager.passes.rules k ∷ (project_causes s.resources.tree project ++ command_causes s.resources.tree s.desk.builders project index)) none))
served_by s k (Saving states) none = inl (serving_named s.manager.passes (is_saving s.desk.serving) k (first_none _ [] none))

-- so what another asks of them is refused
others_refused : (s : Moment) (k n : ℕ) (x : ServiceEvent) → k ≢ n → s.manager.passes.services ≡ Some n → (r : Refusal) × (act s k (Service x) ≡ (s, Refused r))
others_refused s k n x other serves = by (refusal s k (Service x)) refl
  where
    two : (o : Option ℕ) → o ≡ Some n → (o ≡ Some k) ⊎ (o ≡ None) → ⊥
    two o is (inl it) = other (let same : Some k ≡ Some n = sym it ∙ is in cc)
    two o is (inr none) = let no : None ≡ Some n = sym none ∙ is in cc

    by : (o : Option Refusal) → refusal s k (Service x) ≡ o → (r : Refusal) × (act s k (Service x) ≡ (s, Refused r))
    by None none = absurd (two s.manager.passes.services serves (served_by s k x none))
    by (Some r) is = (r, ap (λ c. acted c s k (Service x)) is)

-- ---- one event of another pass

told_stands : (s t : Moment) (b : Bool) (a : Answer) → Stands s t → Stands s (told b t a).0
told_stands s t b a x = record { alike = x.alike; under = x.under }

pub same_stands : (s : Moment) → Stands s s
same_stands s = record { alike = λ q. refl; under = refl }

admits : (a : Option Refusal) (b : Option Refusal) → option_or a b ≡ None → a ≡ None
admits None b h = refl
admits (Some r) b h = cc

-- an operation changes markers alone, or is refused
operated : (s : Moment) (k n : ℕ) (op : Op) → k ≢ n → IsRooted n s.manager → Stands s (act s k (Operation op)).0
operated s k n op other rooted = by (refusal s k (Operation op)) refl
  where
    done : HasPath op ⊎ IsAside op → admission s.manager.passes.rules k (operation_rule op) ≡ None → Stands s (operate s op).0
    done (inl path) none = absurd (path_refused s.manager.passes.rules k n (operation_rule op) path.0 rooted.outer other rooted.apart rooted.has rooted.root path.1 none)
    done (inr aside) none = record { alike = aside.alike s.resources; under = aside.goes_on s.desk.under }

    by : (r : Option Refusal) → refusal s k (Operation op) ≡ r → Stands s (acted r s k (Operation op)).0
    by None none = done (path_or_aside op) (admits (admission s.manager.passes.rules k (operation_rule op)) (option_map refusals.Operation (causes.refusal s.resources op)) none)
    by (Some r) is = same_stands s

-- all stands still
pub step_stands : (s : Moment) (k n : ℕ) (e : Event) → k ≢ n → IsRooted n s.manager → Stands s (step s k e).0
step_stands s k n e other rooted = told_stands s (act s k e).0 (tells e (act s k e).0) (act s k e).1 (by (concern_of e))
  where
    by : Concern e → Stands s (act s k e).0
    by (OfOperation op is) = subst (λ z. Stands s (act s k z).0) (sym is) (operated s k n op other rooted)
    by (OfService x is) = subst (λ z. Stands s (act s k z).0) (sym is) (subst (λ (d : Moment × Answer). Stands s d.0) (sym (others_refused s k n x other rooted.serves).1) (same_stands s))
    by (OfManager none plain) = subst (λ (d : Moment × Answer). Stands s d.0) (sym (act_managed s k e none plain)) (record { alike = λ q. refl; under = refl })

-- and the pass keeps the services and its topmost rule
pub step_rooted : (s : Moment) (k n : ℕ) (e : Event) → k ≢ n → IsRooted n s.manager → IsRooted n (step s k e).0.manager
step_rooted s k n e other rooted = record {
  serves = by (concern_of e);
  apart = step_apart s k e rooted.apart;
  outer = rooted.outer;
  has = ap (λ (m : JobManager). newest (is_outer n) m.passes.rules) (step_serving s k e).1 ∙ (outcome_keeps s.manager k n e rooted.outer other rooted.has ∙ rooted.has);
  root = rooted.root;
}
  where
    by : Concern e → (step s k e).0.manager.passes.services ≡ Some n
    by (OfOperation op is) = step_services s k e (ap service_of is) ∙ rooted.serves
    by (OfService x is) = subst (λ z. (act s k z).0.manager.passes.services ≡ Some n) (sym is)
        (ap (λ (d : Moment × Answer). d.0.manager.passes.services) (others_refused s k n x other rooted.serves).1 ∙ rooted.serves)
    by (OfManager none plain) = step_services s k e plain ∙ rooted.serves
