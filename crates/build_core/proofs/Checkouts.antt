-- A checkout answers a plan of valid projects.
use Rattle.std.proofs.Common.{◌≡◌, ◌↔◌, ℕ, Bool, true, false, not, ◌&&◌, List, [], ◌∷◌, map, length, Option, Some, None, IsSome, IfSome, refl, sym, ap, ◌∙◌, subst}
use Rattle.std.specs.Prelude.{is_some}
use Rattle.std.specs.Option.{option_or}
use Rattle.std.specs.FinMap.{contains_key, get}
use Rattle.proj_desc.specs.FirstCause.{first_cause, when}
use Rattle.ws_elem.specs.Kinds.{is_project}
use Rattle.ws_elem.specs.Trees.{Tree, Whole}
use Rattle.ws_elem.specs.declared.element.Element.{Element}
use Rattle.ws_elem.specs.declared.kind.Kind.TheVariants.{Project}
use Rattle.op_kind.specs.Places.{has_closed, is_shut}
use Rattle.op_kind.specs.declared.refusal.OpRefusal.TheVariants.{NotFound, ProjectClosed}
use Rattle.builder_api.specs.declared.kind.BuildKind.{BuildKind}
use Rattle.build_laws.specs.Builds.{Project as Listed}
use Rattle.build_laws.specs.Planned.{IsPlanned}
use Rattle.build_plan.specs.Descriptions.{desc_at, desc_of}
use Rattle.build_plan.specs.Plans.{plan}
use Rattle.build_plan.proofs.Planned.{planned}
use Rattle.build_plan.proofs.Valid.{open_described}
use Rattle.core_event.specs.declared.event.Event.TheVariants.{Service}
use Rattle.core_event.specs.declared.reply.Refusal.{Refusal}
use Rattle.core_event.specs.declared.reply.Refusal.TheVariants.{Operation}
use Rattle.core_event.specs.declared.service.Purpose.TheVariants.{Build}
use Rattle.core_event.specs.declared.service.ServiceEvent.TheVariants.{Checkout}
use Rattle.service_desk.specs.Refusals.{scope_causes, services_out, unrooted}
use Rattle.ws_core.specs.States.{Moment}
use Rattle.ws_core.specs.Refusals.{service_causes}
use Rattle.ws_core.specs.Effects.{check_out}
use Rattle.ws_core.specs.Sessions.{IsConsistent}
use Rattle.ws_core.specs.Steps.{step}
use Rattle.build_core.specs.States.{state_of}
use Rattle.build_core.proofs.Leaves.{Leaves, served}

-- a checkout that isn't refused answers the plan, and builds see what they saw
pub checkout_leaves : (s : Moment) (k : ℕ) (kind : BuildKind) (scope : Option (List ℕ)) → first_cause (service_causes s k (Checkout (Build kind scope))) ≡ None
    → Leaves (step s k (Service (Checkout (Build kind scope)))) (check_out s k (Build kind scope))
checkout_leaves s k kind scope none = served s k (Checkout (Build kind scope)) none

-- ---- the project of a plan of one is open

both_none : (a b : Option Refusal) → option_or a (option_or b None) ≡ None → (a ≡ None) × (b ≡ None)
both_none None None h = (refl, refl)
both_none None (Some b) h = cc
both_none (Some a) b h = cc

unless : (b : Bool) (r : Refusal) → when b r ≡ None → b ≡ false
unless true r h = cc
unless false r h = refl

opened_so : (kind opened : Bool) → kind ≡ true → (kind && not opened) ≡ false → opened ≡ true
opened_so true true h g = refl
opened_so true false h g = cc
opened_so false opened h g = cc

some_there : {X : Type 0} (o : Option X) (x : X) → o ≡ Some x → IsSome o
some_there o x is = subst IsSome (sym is) refl

pub project_open : (t : Tree) (project : List ℕ) → Whole t → first_cause (scope_causes t (Some project)) ≡ None → IsSome (desc_at t project)
project_open t project whole h = by (get t (project ∷ [])) refl (whole.projects (project ∷ []))
  where
    parts : (when (not (contains_key t (project ∷ []))) (Operation (NotFound (project ∷ []))) ≡ None) × (when (is_shut t (project ∷ [])) (Operation (ProjectClosed (project ∷ []))) ≡ None)
    parts = both_none (when (not (contains_key t (project ∷ []))) (Operation (NotFound (project ∷ [])))) (when (is_shut t (project ∷ [])) (Operation (ProjectClosed (project ∷ [])))) h

    there : not (contains_key t (project ∷ [])) ≡ false
    there = unless (not (contains_key t (project ∷ []))) (Operation (NotFound (project ∷ []))) parts.0

    unshut : is_shut t (project ∷ []) ≡ false
    unshut = unless (is_shut t (project ∷ [])) (Operation (ProjectClosed (project ∷ []))) parts.1

    by : (o : Option Element) → get t (project ∷ []) ≡ o → IfSome o (λ e. (e.kind ≡ Project) ↔ (length (project ∷ []) ≡ 1)) → IsSome (desc_at t project)
    by None is p = absurd (let no : true ≡ false = sym (ap (λ o. not (is_some o)) is) ∙ there in cc)
    by (Some e) is p =
        let kind : is_project e.kind ≡ true = ap is_project (p.1 refl) in
        let opened : e.opened ≡ true = opened_so (is_project e.kind) e.opened kind (sym (ap has_closed is) ∙ unshut) in
        some_there (desc_at t project) (desc_of project e.attached.desc) (open_described t project e is kind opened)

pub scope_open : (t : Tree) (scope : Option (List ℕ)) → Whole t → first_cause (scope_causes t scope) ≡ None → IfSome scope (λ name. IsSome (desc_at t name))
scope_open t None whole h = tt
scope_open t (Some project) whole h = project_open t project whole h

last_none : (a b c : Option Refusal) → option_or a (option_or b c) ≡ None → c ≡ None
last_none None None c h = h
last_none None (Some b) c h = cc
last_none (Some a) b c h = cc

-- the plan is one of valid projects, and that of one project has that project alone
pub checkout_planned : (s : Moment) (k : ℕ) (kind : BuildKind) (scope : Option (List ℕ)) → IsConsistent s → first_cause (service_causes s k (Checkout (Build kind scope))) ≡ None
    → (gs : List (List Listed)) × IsPlanned (state_of s).descs (plan s.resources.tree scope).order (plan s.resources.tree scope).knots gs
    × IfSome scope (λ name. map (λ p. p.0) (plan s.resources.tree scope).order ≡ name ∷ [])
checkout_planned s k kind scope x none = planned s.resources.tree scope (scope_open s.resources.tree scope x.resources.tree
    (last_none (unrooted s.manager.passes.rules k) (services_out s.manager.passes) (first_cause (scope_causes s.resources.tree scope)) none))
