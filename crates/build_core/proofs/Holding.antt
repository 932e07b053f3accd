-- The pass of a build has the rule of the root, and the services.
use Rattle.std.proofs.Common.{◌≡◌, ℕ, Bool, true, cond, not, ◌&&◌, eq-eqb, List, [], ◌∷◌, ◌++◌, Option, Some, None, refl, ap, ◌∙◌, subst}
use Rattle.std.specs.Prelude.{unwrap_or}
use Rattle.std.specs.Option.{option_map}
use Rattle.proj_desc.specs.FirstCause.{first_cause, when}
use Rattle.sched_rules.specs.declared.ws_atom.WsAtom.{WsAtom}
use Rattle.rule_table.specs.declared.held.Held.{Held}
use Rattle.rule_table.specs.Tables.{is_outer, newest, or_before, outer_rule}
use Rattle.pass_table.specs.Passes.{Passes}
use Rattle.pass_table.specs.Rows.{begun, checked_out, in_batch}
use Rattle.builder_api.specs.declared.kind.BuildKind.{BuildKind}
use Rattle.core_event.specs.declared.event.Event.TheVariants.{Batch, Begin, Service}
use Rattle.core_event.specs.declared.reply.Answer.TheVariants.{Done}
use Rattle.core_event.specs.declared.reply.Refusal.TheVariants.{NotServices}
use Rattle.core_event.specs.declared.service.Purpose.TheVariants.{Build}
use Rattle.core_event.specs.declared.service.ServiceEvent.TheVariants.{Checkout}
use Rattle.job_manager.specs.Admission.{admission}
use Rattle.job_manager.specs.Effects as managing
use Rattle.service_desk.specs.Desks.{is_building}
use Rattle.service_desk.specs.Refusals.{not_serving, root_rule, unless_contained, unrooted}
use Rattle.ws_core.specs.States.{Moment}
use Rattle.ws_core.specs.Refusals.{service_causes}
use Rattle.ws_core.specs.Effects.{managed}
use Rattle.ws_core.specs.Steps.{step}
use Rattle.build_core.proofs.Checkouts.{checkout_leaves}
use Rattle.build_core.proofs.Leaves.{Leaves, managed_leaves}

-- the topmost rule of the pass is that of the root
pub root_rooted : (held : List (Held WsAtom)) (k : ℕ) → outer_rule k held ≡ Some root_rule → unrooted held k ≡ None
root_rooted held k h = ap (λ (o : Option (List WsAtom)). unless_contained (unwrap_or o [])) h

newest_last : {T : Type 0} (test : T → Bool) (xs : List T) (x : T) → test x ≡ true → newest test (xs ++ x ∷ []) ≡ Some x
newest_last test [] x h = ap (λ b. cond b (Some x) None) h
newest_last test (y ∷ xs) x h = ap (or_before test y) (newest_last test xs x h)

same_pass : (k : ℕ) → is_outer k (record { holder = k; rule = root_rule }) ≡ true
same_pass k = ap (λ b. b && true) (eq-eqb k k refl)

-- it is after it was begun
pub begun_rooted : (passes : Passes WsAtom) (k : ℕ) → unrooted (begun passes k root_rule).rules k ≡ None
begun_rooted passes k = root_rooted (begun passes k root_rule).rules k
    (ap (option_map (λ (h : Held WsAtom). h.rule)) (newest_last (is_outer k) passes.rules (record { holder = k; rule = root_rule }) (same_pass k)))

-- the pass has the services after it has taken them, for a build where it took them for one
pub out_serves : (passes : Passes WsAtom) (k : ℕ) → not_serving (checked_out passes k) true k ≡ None
out_serves passes k = ap (λ b. when (not (b && true)) (NotServices (Some k))) (eq-eqb k k refl)

-- ---- steps

-- where the rule of the root isn't refused, the pass has it
pub begin_leaves : (s : Moment) (k : ℕ) → admission s.manager.passes.rules k root_rule ≡ None
    → Leaves (step s k (Begin root_rule)) (record s { manager = record (s.manager) { passes = begun s.manager.passes k root_rule } }, Done)
begin_leaves s k none = subst (Leaves (step s k (Begin root_rule))) (ap (λ r. managed s (managing.decided r s.manager k (Begin root_rule))) none) (managed_leaves s k (Begin root_rule) refl refl)

pub begin_rooted : (s : Moment) (k : ℕ) → admission s.manager.passes.rules k root_rule ≡ None → unrooted (step s k (Begin root_rule)).0.manager.passes.rules k ≡ None
begin_rooted s k none = ap (λ m. unrooted m.passes.rules k) (begin_leaves s k none).manager ∙ begun_rooted s.manager.passes k

-- a batch leaves rules and services as they are
pub batch_leaves : (s : Moment) (k : ℕ) → Leaves (step s k Batch) (record s { manager = record (s.manager) { passes = in_batch s.manager.passes k } }, Done)
batch_leaves s k = managed_leaves s k Batch refl refl

pub batch_rooted : (s : Moment) (k : ℕ) → unrooted s.manager.passes.rules k ≡ None → unrooted (step s k Batch).0.manager.passes.rules k ≡ None
batch_rooted s k rooted = ap (λ m. unrooted m.passes.rules k) (batch_leaves s k).manager ∙ rooted

-- and after a checkout that isn't refused the pass has both
pub checkout_serves : (s : Moment) (k : ℕ) (kind : BuildKind) (scope : Option (List ℕ)) → first_cause (service_causes s k (Checkout (Build kind scope))) ≡ None
    → not_serving (step s k (Service (Checkout (Build kind scope)))).0.manager.passes (is_building (step s k (Service (Checkout (Build kind scope)))).0.desk.serving) k ≡ None
checkout_serves s k kind scope none =
    let left = checkout_leaves s k kind scope none in
    (λ j. not_serving ((left.manager j).passes) (is_building ((left.desk j).serving)) k) ∙ out_serves s.manager.passes k

pub checkout_rooted : (s : Moment) (k : ℕ) (kind : BuildKind) (scope : Option (List ℕ)) → first_cause (service_causes s k (Checkout (Build kind scope))) ≡ None
    → unrooted s.manager.passes.rules k ≡ None → unrooted (step s k (Service (Checkout (Build kind scope)))).0.manager.passes.rules k ≡ None
checkout_rooted s k kind scope none rooted = ap (λ m. unrooted m.passes.rules k) (checkout_leaves s k kind scope none).manager ∙ rooted
