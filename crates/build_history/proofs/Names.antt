-- No event changes the builders' names.
use Rattle.std.proofs.Common.{◌≡◌, ℕ, List, [], ◌∷◌, ◌++◌, Option, Some, None, refl, ap, ◌∙◌}
use Rattle.std.specs.List.{list_any}
use Rattle.std.specs.Str.{bytes_eq}
use Rattle.res_path.specs.Paths.{Names}
use Rattle.build_due.specs.declared.site.Site.{Site}
use Rattle.core_event.specs.declared.entry.Entry.{Entry}
use Rattle.core_event.specs.declared.event.Event.{Event}
use Rattle.core_event.specs.declared.reply.Refusal.{Refusal}
use Rattle.core_event.specs.declared.service.Purpose.TheVariants.{Build, Save}
use Rattle.core_event.specs.declared.service.ServiceEvent.{ServiceEvent}
use Rattle.core_event.specs.declared.service.ServiceEvent.TheVariants.{Checkout, CheckIn, Handed, Commit, Clean, Saving}
use Rattle.core_event.specs.Events.{operation_of, service_of}
use Rattle.op_kind.specs.declared.op.Op.{Op}
use Rattle.service_desk.specs.declared.desk.Desk.{Desk}
use Rattle.service_desk.specs.Sites.{site_in}
use Rattle.ws_core.specs.States.{Moment}
use Rattle.ws_core.specs.Histories.{after, replay}
use Rattle.ws_core.specs.Effects.{clean_for, commit_for, effect_by, hand, other_effect, serve}
use Rattle.ws_core.specs.Refusals.{current, refusal}
use Rattle.ws_core.specs.Steps.{act, acted, step}
use Rattle.build_core.proofs.Leaves.{step_leaves}
use Rattle.build_history.specs.Settled.{is_builder}

served_names : (s : Moment) (k : ℕ) (x : ServiceEvent) → (serve s k x).0.desk.builders ≡ s.desk.builders
served_names s k (Checkout (Build kind scope)) = refl
served_names s k (Checkout (Save kind)) = refl
served_names s k (CheckIn outcome) = refl
served_names s k (Saving states) = refl
served_names s k (Handed project index kind) = of (site_in s.resources.tree project index)
  where
    of : (o : Option Site) → (hand s o kind).0.desk.builders ≡ s.desk.builders
    of None = refl
    of (Some site) = refl
served_names s k (Commit edits) = of (current s)
  where
    of : (o : Option Site) → (commit_for s o edits).0.desk.builders ≡ s.desk.builders
    of None = refl
    of (Some site) = refl
served_names s k (Clean project index) = of (site_in s.resources.tree project index)
  where
    of : (o : Option Site) → (clean_for s o).0.desk.builders ≡ s.desk.builders
    of None = refl
    of (Some site) = refl

effect_names : (s : Moment) (k : ℕ) (e : Event) (o : Option Op) → (effect_by o s k e).0.desk.builders ≡ s.desk.builders
effect_names s k e (Some op) = refl
effect_names s k e None = by (service_of e)
  where
    by : (x : Option ServiceEvent) → (other_effect x s k e).0.desk.builders ≡ s.desk.builders
    by None = refl
    by (Some x) = served_names s k x

pub step_names : (s : Moment) (k : ℕ) (e : Event) → (step s k e).0.desk.builders ≡ s.desk.builders
step_names s k e = ap (λ (d : Desk). d.builders) (step_leaves s k e (act s k e) refl).desk ∙ by (refusal s k e)
  where
    by : (r : Option Refusal) → (acted r s k e).0.desk.builders ≡ s.desk.builders
    by None = effect_names s k e (operation_of e)
    by (Some r) = refl

pub replay_names : (s : Moment) (h : List Entry) → (replay s h).desk.builders ≡ s.desk.builders
replay_names s [] = refl
replay_names s (x ∷ h) = replay_names (after s x) h ∙ step_names s x.pass x.event

-- so there are the builders that there were
pub same_builders : (s t : Moment) → t.desk.builders ≡ s.desk.builders → is_builder t ≡ is_builder s
same_builders s t same = ap (λ (names : Names). λ (name : List ℕ). list_any (bytes_eq name) names) same

-- a history in two parts leads where they lead
pub replay_append : (s : Moment) (g h : List Entry) → replay s (g ++ h) ≡ replay (replay s g) h
replay_append s [] h = refl
replay_append s (x ∷ g) h = replay_append (after s x) g h
