-- For a pass that may build, others change markers alone.
use Rattle.std.proofs.Common.{◌≡◌, ◌≢◌, ◌⊎◌, ◌<◌, ◌==◌, ◌&&◌, inl, inr, ℕ, Bool, true, false, not, List, [], ◌∷◌, map, refl, sym, ap, ◌∙◌}
use Rattle.std.specs.Prelude.{Option, Some, None, is_none, option_and_then, unwrap_or}
use Rattle.std.specs.Option.{option_eq, option_map, option_or}
use Rattle.res_path.specs.Paths.{Names}
use Rattle.res_path.proofs.Spelled.{both}
use Rattle.sched_rules.specs.AtomLaws.{atoms_lawful, atom_cmp_total, atom_cmp_exact}
use Rattle.sched_rules.specs.Atoms.{atom_contains}
use Rattle.sched_rules.specs.Rules.{rule_contains}
use Rattle.sched_rules.specs.declared.ws_atom.WsAtom.{WsAtom}
use Rattle.sched_rules.proofs.Combining.{combined_contains_left}
use Rattle.sched_rules.proofs.RuleLaws.{rule_contains_itself}
use Rattle.proj_desc.specs.FirstCause.{when}
use Rattle.rule_table.specs.declared.held.Held.{Held}
use Rattle.rule_table.specs.Tables.{is_outer, newest}
use Rattle.pass_table.specs.Passes.{batches_of, serves}
use Rattle.ws_elem.specs.Trees.{Tree}
use Rattle.op_kind.specs.declared.op.Op.{Op}
use Rattle.op_kind.specs.declared.op.Op.TheVariants.{CreateFile, CreateFolder, CreateProject, Delete, Write, Touch, Derived, Move, Copy, Open, Close, Describe, Forget, Mark, Attr, Unmark, ClearMarks, Partner, Sync, Flush, Read}
use Rattle.op_kind.specs.Refusals as causes
use Rattle.op_rule.specs.Rules.{at, operation_rule, up}
use Rattle.build_laws.specs.States.{Descs, Finds}
use Rattle.build_due.specs.Sites.{site_at}
use Rattle.build_plan.specs.Descriptions.{desc_at}
use Rattle.core_event.specs.declared.entry.Entry.{Entry}
use Rattle.core_event.specs.declared.event.Event.{Event}
use Rattle.core_event.specs.declared.event.Event.TheVariants.{Operation, Service}
use Rattle.core_event.specs.declared.reply.Answer.{Answer}
use Rattle.core_event.specs.declared.reply.Refusal.{Refusal}
use Rattle.core_event.specs.declared.reply.Refusal.TheVariants as refusals
use Rattle.core_event.specs.declared.service.ServiceEvent.{ServiceEvent}
use Rattle.core_event.specs.Events.{service_of}
use Rattle.job_manager.specs.declared.manager.JobManager.{JobManager}
use Rattle.job_manager.specs.Admission.{admission}
use Rattle.job_manager.proofs.Apart.{Apart}
use Rattle.service_desk.specs.declared.desk.UnderWay.{UnderWay}
use Rattle.service_desk.specs.Desks.{is_building, site_of}
use Rattle.service_desk.specs.Refusals.{root_rule, unless_contained, unrooted}
use Rattle.ws_content.specs.Deeds.{forgets, forgotten}
use Rattle.ws_core.specs.States.{Moment}
use Rattle.ws_core.specs.Effects.{operate}
use Rattle.ws_core.specs.Refusals.{current, refusal}
use Rattle.ws_core.specs.Steps.{act, acted, step}
use Rattle.ws_core.specs.Histories.{after, replay, replies}
use Rattle.ws_core.specs.Sessions.{IsConsistent}
use Rattle.ws_core.proofs.ServingPass.{named_serves, not_refused, serving_fits, serving_named}
use Rattle.ws_core.proofs.Stepped.{Concern, OfOperation, OfService, OfManager, act_managed, concern_of}
use Rattle.run_order.proofs.Managed.{step_services}
use Rattle.ws_turn.specs.Lists.{of}
use Rattle.pass_turns.proofs.There.{others}
use Rattle.pass_history.proofs.Serving.{done_serving}
use Rattle.pass_history.proofs.Standing.{OthersQuiet, others_never, others_stand}
use Rattle.build_still.proofs.Held.{path_refused}
use Rattle.build_still.proofs.Markers.{HasPath}
use Rattle.build_still.proofs.Others.{IsRooted, Stands, same_stands, step_rooted, step_stands}
use Rattle.build_core.specs.States.{records_of, state_of}
use Rattle.build_core.specs.Histories.{may_build}
use Rattle.build_core.proofs.Kept.{descs_same}
use Rattle.build_core.proofs.Leaves.{refused, served, step_leaves}
use Rattle.build_history.proofs.Names.{replay_names}
use Rattle.build_host.proofs.Handing.{Serving, is_rooted, it_serves}
use Rattle.build_beside.specs.Turns.{pass_of}
use Rattle.build_beside.proofs.Batches.{others_batches}

-- ---- the rule of a pass that may build

-- the topmost rule of a pass that isn't refused for it contains the root
rooted_by : (all : List (Held WsAtom)) (n : ℕ) → unrooted all n ≡ None → (outer : Held WsAtom) × (newest (is_outer n) all ≡ Some outer) × (rule_contains atom_contains outer.rule root_rule ≡ true)
rooted_by all n none = by (newest (is_outer n) all) refl none
  where
    contained : (rule : List WsAtom) (b : Bool) → when (not b) (refusals.NotContained rule) ≡ None → b ≡ true
    contained rule true h = refl
    contained rule false h = cc

    by : (o : Option (Held WsAtom)) → newest (is_outer n) all ≡ o → unless_contained (unwrap_or (option_map (λ (held : Held WsAtom). held.rule) o) []) ≡ None
        → (outer : Held WsAtom) × (newest (is_outer n) all ≡ Some outer) × (rule_contains atom_contains outer.rule root_rule ≡ true)
    by None is h = absurd (let no : Some (refusals.NotContained []) ≡ None = h in cc)
    by (Some outer) is h = (outer, is, contained outer.rule (rule_contains atom_contains outer.rule root_rule) h)

rooted_in : (s : Moment) (n : ℕ) → may_build s n ≡ true → Apart s.manager.passes.rules → IsRooted n s.manager
rooted_in s n may apart =
    let r = rooted_by s.manager.passes.rules n (is_rooted s n may) in record {
      serves = serving_named s.manager.passes (is_building s.desk.serving) n (it_serves s n may);
      apart = apart;
      outer = r.0;
      has = r.1;
      root = r.2;
    }

rooted_out : (m : JobManager) (n : ℕ) → IsRooted n m → unrooted m.passes.rules n ≡ None
rooted_out m n rooted =
    ap (λ (o : Option (Held WsAtom)). unless_contained (unwrap_or (option_map (λ (held : Held WsAtom). held.rule) o) [])) rooted.has
    ∙ ap (λ b. when (not b) (refusals.NotContained rooted.outer.rule)) rooted.root

-- ---- what was built last

at_itself : (p : Names) → rule_contains atom_contains (at p) (at p) ≡ true
at_itself p = rule_contains_itself atoms_lawful (at p)

-- an operation by which something is forgotten has the rule of a path
path_or_kept : (op : Op) → HasPath op ⊎ (forgets op ≡ None)
path_or_kept (Delete p) = inl (up p, at_itself (up p))
path_or_kept (Move from to) = inl (up from, combined_contains_left atoms_lawful atom_cmp_total atom_cmp_exact (at (up from)) (at (up to)) (tt, tt) (tt, tt))
path_or_kept (Describe p text) = inl (p, at_itself p)
path_or_kept (Forget p) = inl (p, at_itself p)
path_or_kept (CreateFile p bytes) = inr refl
path_or_kept (CreateFolder p) = inr refl
path_or_kept (CreateProject p) = inr refl
path_or_kept (Write p bytes) = inr refl
path_or_kept (Touch p) = inr refl
path_or_kept (Derived p on) = inr refl
path_or_kept (Copy from to) = inr refl
path_or_kept (Open p) = inr refl
path_or_kept (Close p) = inr refl
path_or_kept (Mark p mark_type attributes) = inr refl
path_or_kept (Attr p id name value) = inr refl
path_or_kept (Unmark p id) = inr refl
path_or_kept (ClearMarks p mark_type depth) = inr refl
path_or_kept (Partner name) = inr refl
path_or_kept (Sync p name bytes) = inr refl
path_or_kept (Flush p name depth) = inr refl
path_or_kept (Read p want) = inr refl

admits : (a b : Option Refusal) → option_or a b ≡ None → a ≡ None
admits None b h = refl
admits (Some r) b h = cc

module _ (s : Moment) (k n : ℕ) (other : k ≢ n) (rooted : IsRooted n s.manager) where
  operated : (op : Op) → (act s k (Operation op)).0.remembered.built ≡ s.remembered.built
  operated op = by (refusal s k (Operation op)) refl
    where
      done : HasPath op ⊎ (forgets op ≡ None) → admission s.manager.passes.rules k (operation_rule op) ≡ None → (operate s op).0.remembered.built ≡ s.remembered.built
      done (inl path) none = absurd (path_refused s.manager.passes.rules k n (operation_rule op) path.0 rooted.outer other rooted.apart rooted.has rooted.root path.1 none)
      done (inr is) none = ap (λ f. forgotten f s.remembered.built) is

      by : (r : Option Refusal) → refusal s k (Operation op) ≡ r → (acted r s k (Operation op)).0.remembered.built ≡ s.remembered.built
      by None none = done (path_or_kept op) (admits (admission s.manager.passes.rules k (operation_rule op)) (option_map refusals.Operation (causes.refusal s.resources op)) none)
      by (Some r) is = refl

  serviced : (x : ServiceEvent) → (act s k (Service x)).0.remembered.built ≡ s.remembered.built
  serviced x = by (refusal s k (Service x)) refl
    where
      by : (r : Option Refusal) → refusal s k (Service x) ≡ r → (act s k (Service x)).0.remembered.built ≡ s.remembered.built
      by None none = absurd (others_never s k n x other rooted.serves none)
      by (Some r) is = ap (λ o. (acted o s k (Service x)).0.remembered.built) is

  step_built : (e : Event) → (step s k e).0.remembered.built ≡ s.remembered.built
  step_built e = (step_leaves s k e (act s k e) refl).built ∙ by (concern_of e)
    where
      by : Concern e → (act s k e).0.remembered.built ≡ s.remembered.built
      by (OfOperation op is) = ap (λ z. (act s k z).0.remembered.built) is ∙ operated op
      by (OfService x is) = ap (λ z. (act s k z).0.remembered.built) is ∙ serviced x
      by (OfManager none plain) = ap (λ (d : Moment × Answer). d.0.remembered.built) (act_managed s k e none plain)

-- ---- one after another

record Stays (n : ℕ) (s t : Moment) : Type 0 where
  rooted : IsRooted n t.manager
  stands : Stands s t
  built : t.remembered.built ≡ s.remembered.built

stays_over : (s : Moment) (n : ℕ) (h : List Entry) → of pass_of n h ≡ [] → IsRooted n s.manager → Stays n s (replay s h)
stays_over s n [] none rooted = record { rooted = rooted; stands = same_stands s; built = refl }
stays_over s n (x ∷ h) none rooted =
    let o = others pass_of n x h none in
    let here = step_stands s x.pass n x.event o.0 rooted in
    let later = stays_over (after s x) n h o.1 (step_rooted s x.pass n x.event o.0 rooted) in record {
      rooted = later.rooted;
      stands = record { alike = λ q. later.stands.alike q ∙ here.alike q; under = later.stands.under ∙ here.under };
      built = later.built ∙ step_built s x.pass n o.0 rooted x.event;
    }

-- what holds for a pass that may build at a moment to which others led from another
pub record Keeps (n : ℕ) (s t : Moment) : Type 0 where
  pub finds : Finds (state_of s) (state_of t)
  pub may : may_build t n ≡ true
  pub under : current t ≡ current s
  pub names : t.desk.builders ≡ s.desk.builders

site_same : (a b : Tree) → desc_at b ≡ desc_at a → (u : Option UnderWay) → site_of b u ≡ site_of a u
site_same a b same None = refl
site_same a b same (Some u) = ap (λ (d : Descs). option_and_then (site_at u.project u.index) (d u.project)) same

pub may_of : (s : Moment) (n : ℕ) → Serving s n → unrooted s.manager.passes.rules n ≡ None → (batches_of s.manager.passes n == 0) ≡ false → may_build s n ≡ true
may_of s n a b c = λ i. is_none (a i) && is_none (b i) && not (c i)

untrue : (b : Bool) → not b ≡ true → b ≡ false
untrue true h = cc
untrue false h = refl

pub in_batch : (s : Moment) (n : ℕ) → may_build s n ≡ true → (batches_of s.manager.passes n == 0) ≡ false
in_batch s n may = untrue (batches_of s.manager.passes n == 0) (both _ (not (batches_of s.manager.passes n == 0)) may).1

pub others_keep : (s : Moment) (n : ℕ) (h : List Entry) → IsConsistent s → n < s.manager.passes.next → may_build s n ≡ true → map (λ (x : Entry). x.reply) h ≡ replies s h → of pass_of n h ≡ [] → Keeps n s (replay s h)
others_keep s n h sound lt may told none = record {
  finds = record { alike = all.stands.alike; records = ap records_of all.built; descs = descs };
  may = may_of (replay s h) n
      (not_refused (replay s h).manager.passes (is_building (replay s h).desk.serving) n quiet.serving
      (ap is_building quiet.taken ∙ serving_fits s.manager.passes (is_building s.desk.serving) n (it_serves s n may)))
      (rooted_out (replay s h).manager n all.rooted)
      (ap (λ b. b == 0) (others_batches s n h none lt) ∙ in_batch s n may);
  under = site_same s.resources.tree (replay s h).resources.tree descs (replay s h).desk.under ∙ ap (site_of s.resources.tree) all.stands.under;
  names = replay_names s h;
}
  where
    rooted : IsRooted n s.manager
    rooted = rooted_in s n may sound.apart

    all : Stays n s (replay s h)
    all = stays_over s n h none rooted

    quiet : OthersQuiet n s h
    quiet = others_stand s n h told none rooted.serves

    descs : desc_at (replay s h).resources.tree ≡ desc_at s.resources.tree
    descs = descs_same s.resources.tree (replay s h).resources.tree (λ project. all.stands.alike (project ∷ []))

-- ---- whether a pass has the services

neither_true : (a b : Bool) → (a ≡ true → ⊥) → (b ≡ true → ⊥) → a ≡ b
neither_true true b h g = absurd (h refl)
neither_true false true h g = absurd (g refl)
neither_true false false h g = refl

service_serves : (s : Moment) (k n : ℕ) (x : ServiceEvent) → k ≢ n → serves (step s k (Service x)).0.manager.passes n ≡ serves s.manager.passes n
service_serves s k n x other = by (refusal s k (Service x)) refl
  where
    by : (r : Option Refusal) → refusal s k (Service x) ≡ r → serves (step s k (Service x)).0.manager.passes n ≡ serves s.manager.passes n
    by (Some r) is = ap (λ (m : JobManager). serves m.passes n) (refused s k x r is).manager
    by None is =
        let done = served s k x is in
        neither_true (serves (step s k (Service x)).0.manager.passes n) (serves s.manager.passes n)
        (λ h. done_serving s k n x other is (ap (λ (m : JobManager). m.passes.services) (sym done.manager) ∙ named_serves (step s k (Service x)).0.manager.passes n h))
        (λ h. others_never s k n x other (named_serves s.manager.passes n h) is)

step_serves : (s : Moment) (k n : ℕ) (e : Event) → k ≢ n → serves (step s k e).0.manager.passes n ≡ serves s.manager.passes n
step_serves s k n e other = by (concern_of e)
  where
    plainly : service_of e ≡ None → serves (step s k e).0.manager.passes n ≡ serves s.manager.passes n
    plainly plain = ap (λ (o : Option ℕ). option_eq (λ a b. a == b) o (Some n)) (step_services s k e plain)

    by : Concern e → serves (step s k e).0.manager.passes n ≡ serves s.manager.passes n
    by (OfOperation op is) = plainly (ap service_of is)
    by (OfService x is) = ap (λ z. serves (step s k z).0.manager.passes n) is ∙ service_serves s k n x other
    by (OfManager none plain) = plainly plain

-- others neither give it them nor take them
pub others_serve : (s : Moment) (n : ℕ) (h : List Entry) → of pass_of n h ≡ [] → serves (replay s h).manager.passes n ≡ serves s.manager.passes n
others_serve s n [] none = refl
others_serve s n (x ∷ h) none = let o = others pass_of n x h none in others_serve (after s x) n h o.1 ∙ step_serves s x.pass n x.event o.0
