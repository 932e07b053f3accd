-- Which events keep what was built last sound.
use Rattle.std.proofs.Common.{◌≡◌, ◌⊎◌, inl, inr, ℕ, Bool, true, false, cond, not, List, [], ◌∷◌, Option, Some, None, IfSome, refl, sym, ap, ◌∙◌, subst}
use Rattle.std.specs.Option.{option_map}
use Rattle.std.specs.Ordering.{eq_by_cmp}
use Rattle.std.specs.FinMap.{get, get-empty, get-remove, get-retain_keys, remove}
use Rattle.ws_elem.specs.Trees.{Tree}
use Rattle.res_path.specs.Paths.{Names}
use Rattle.builder_api.specs.Tasks.{placed}
use Rattle.builder_api.specs.Meanings.{Meanings, Fresh}
use Rattle.build_laws.specs.Records.{HasLawful, Sound}
use Rattle.build_laws.specs.States.{Built, Records}
use Rattle.build_due.specs.declared.site.Site.{Site}
use Rattle.core_event.specs.declared.entry.Entry.{Entry}
use Rattle.core_event.specs.declared.event.Event.{Event}
use Rattle.core_event.specs.declared.event.Event.TheVariants as events
use Rattle.core_event.specs.declared.reply.Answer.{Answer}
use Rattle.core_event.specs.declared.reply.Refusal.{Refusal}
use Rattle.core_event.specs.declared.service.Purpose.TheVariants.{Build, Save}
use Rattle.core_event.specs.declared.service.ServiceEvent.{ServiceEvent}
use Rattle.core_event.specs.declared.service.ServiceEvent.TheVariants.{Checkout, CheckIn, Handed, Commit, Clean, Saving}
use Rattle.core_event.specs.Events.{operation_of, service_of}
use Rattle.op_kind.specs.declared.op.Op.{Op}
use Rattle.service_desk.specs.Sites.{site_in}
use Rattle.ws_marks.specs.Marked.{is_from}
use Rattle.ws_marks.specs.Places.{Place, place_cmp, Records as Kept}
use Rattle.ws_marks.specs.declared.record.Record.{Record}
use Rattle.ws_marks.proofs.Places.{place_cmp_exact, place_cmp_total}
use Rattle.ws_content.specs.Deeds.{From, forgets, forgotten}
use Rattle.ws_content.specs.Handing.{built_of}
use Rattle.ws_core.specs.States.{Moment}
use Rattle.ws_core.specs.Histories.{after, fresh_for, replay}
use Rattle.ws_core.specs.Effects.{check_in, clean_for, commit_for, effect_by, hand, other_effect, serve}
use Rattle.ws_core.specs.Refusals.{current, refusal}
use Rattle.ws_core.specs.Steps.{act, acted, step}
use Rattle.ws_core.proofs.Stepped.{ended_built}
use Rattle.build_core.specs.States.{records_of}
use Rattle.build_core.proofs.Leaves.{step_leaves}
use Rattle.build_history.specs.Events.{has_committed, NoBuilds, is_of_build}
use Rattle.build_history.proofs.Others.{otherwise}

-- each record of the later ones is one of the earlier ones
abbrev AreFewer : Records → Records → Type 0
AreFewer rs less = (project : List ℕ) (index : ℕ) → (less project index ≡ rs project index) ⊎ (less project index ≡ None)

-- then they are sound where the earlier ones are
fewer_sound : (ms : Meanings) (has : List ℕ → Bool) (rs less : Records) → AreFewer rs less → Sound ms has rs → Sound ms has less
fewer_sound ms has rs less fewer sound project index = elim (fewer project index) [
  | inl same ↦ subst Is (sym same) (sound project index)
  | inr none ↦ subst Is (sym none) tt
]
  where
    Is : Option Built → Type 0
    Is o = IfSome o (λ b. HasLawful ms has (placed project b.command) → Fresh ms (placed project b.command) b.tree)

same_fewer : (rs less : Records) → less ≡ rs → AreFewer rs less
same_fewer rs less same project index = inl (ap (λ (r : Records). r project index) same)

kept_or_none : (b : Bool) (o : Option (Record Tree)) → (option_map built_of (cond b o None) ≡ option_map built_of o) ⊎ (option_map built_of (cond b o None) ≡ None)
kept_or_none true o = inl refl
kept_or_none false o = inr refl

none_or_kept : (b : Bool) (o : Option (Record Tree)) → (option_map built_of (cond b None o) ≡ option_map built_of o) ⊎ (option_map built_of (cond b None o) ≡ None)
none_or_kept true o = inr refl
none_or_kept false o = inl refl

-- what an operation forgets
forgotten_fewer : (from : Option From) (built : Kept Tree) → AreFewer (records_of built) (records_of (forgotten from built))
forgotten_fewer None built project index = inl refl
forgotten_fewer (Some from) built project index =
    subst (λ (o : Option (Record Tree)). (option_map built_of o ≡ records_of built project index) ⊎ (option_map built_of o ≡ None))
    (sym (get-retain_keys built stays (project, index) (λ x e. ap stays (sym (place_cmp_exact (project, index) x e)))))
    (kept_or_none (stays (project, index)) (get built (project, index)))
  where
    stays : Place → Bool
    stays k = not (is_from from.0 from.1 k)

-- what a cleaning forgets
removed_fewer : (place : Place) (built : Kept Tree) → AreFewer (records_of built) (records_of (remove built place))
removed_fewer place built project index =
    subst (λ (o : Option (Record Tree)). (option_map built_of o ≡ records_of built project index) ⊎ (option_map built_of o ≡ None))
    (sym (get-remove place_cmp_total built place (project, index)))
    (none_or_kept (eq_by_cmp place_cmp (project, index) place) (get built (project, index)))

abbrev kept : Moment → Records
kept s = records_of s.remembered.built

-- ---- what an event does

served_fewer : (s : Moment) (k : ℕ) (x : ServiceEvent) → has_committed (events.Service x) (serve s k x).1 ≡ false → AreFewer (kept s) (kept (serve s k x).0)
served_fewer s k (Checkout (Build kind scope)) none = same_fewer (kept s) (kept s) refl
served_fewer s k (Checkout (Save kind)) none = same_fewer (kept s) (kept s) refl
served_fewer s k (CheckIn outcome) none = same_fewer (kept s) (kept (check_in s outcome).0) (ap records_of (ended_built outcome s.remembered))
served_fewer s k (Saving states) none = same_fewer (kept s) (kept s) refl
served_fewer s k (Handed project index kind) none = by (site_in s.resources.tree project index)
  where
    by : (o : Option Site) → AreFewer (kept s) (kept (hand s o kind).0)
    by None = same_fewer (kept s) (kept s) refl
    by (Some site) = same_fewer (kept s) (kept s) refl
served_fewer s k (Commit edits) none = by (current s) none
  where
    by : (o : Option Site) → has_committed (events.Service (Commit edits)) (commit_for s o edits).1 ≡ false → AreFewer (kept s) (kept (commit_for s o edits).0)
    by None none = same_fewer (kept s) (kept s) refl
    by (Some site) none = absurd (let is : true ≡ false = none in cc)
served_fewer s k (Clean project index) none = by (site_in s.resources.tree project index)
  where
    by : (o : Option Site) → AreFewer (kept s) (kept (clean_for s o).0)
    by None = same_fewer (kept s) (kept s) refl
    by (Some site) = removed_fewer (site.project, site.index) s.remembered.built

other_fewer : (s : Moment) (k : ℕ) (e : Event) (o : Option ServiceEvent) → service_of e ≡ o → has_committed e (other_effect o s k e).1 ≡ false → AreFewer (kept s) (kept (other_effect o s k e).0)
other_fewer s k e None is none = same_fewer (kept s) (kept s) refl
other_fewer s k e (Some x) is none = served_fewer s k x (subst (λ (v : Event). has_committed v (serve s k x).1 ≡ false) (the_service e x is) none)
  where
    the_service : (e : Event) (x : ServiceEvent) → service_of e ≡ Some x → e ≡ events.Service x
    the_service (events.Service y) x is = let same : y ≡ x = cc in ap events.Service same
    the_service events.Enter x is = cc
    the_service events.Leave x is = cc
    the_service (events.Schedule name priority rule asleep) x is = cc
    the_service (events.Sleep name) x is = cc
    the_service (events.Wake name) x is = cc
    the_service (events.Cancel name) x is = cc
    the_service events.Take x is = cc
    the_service events.Finish x is = cc
    the_service (events.Begin rule) x is = cc
    the_service (events.TryBegin rule) x is = cc
    the_service (events.End rule) x is = cc
    the_service (events.Transfer to) x is = cc
    the_service events.Batch x is = cc
    the_service events.EndBatch x is = cc
    the_service events.Checkpoint x is = cc
    the_service (events.Operation op) x is = cc

effect_fewer : (s : Moment) (k : ℕ) (e : Event) (o : Option Op) → has_committed e (effect_by o s k e).1 ≡ false → AreFewer (kept s) (kept (effect_by o s k e).0)
effect_fewer s k e (Some op) none = forgotten_fewer (forgets op) s.remembered.built
effect_fewer s k e None none = other_fewer s k e (service_of e) refl none

acted_fewer : (s : Moment) (k : ℕ) (e : Event) (r : Option Refusal) → has_committed e (acted r s k e).1 ≡ false → AreFewer (kept s) (kept (acted r s k e).0)
acted_fewer s k e None none = effect_fewer s k e (operation_of e) none
acted_fewer s k e (Some r) none = same_fewer (kept s) (kept s) refl

-- ---- steps

-- a step that commits nothing keeps records sound
pub step_sound : (ms : Meanings) (has : List ℕ → Bool) (s : Moment) (k : ℕ) (e : Event) → has_committed e (step s k e).1.answer ≡ false
    → Sound ms has (records_of s.remembered.built) → Sound ms has (records_of (step s k e).0.remembered.built)
step_sound ms has s k e none sound =
    let left = step_leaves s k e (act s k e) refl in
    subst (λ built. Sound ms has (records_of built)) (sym left.built)
    (fewer_sound ms has (kept s) (kept (act s k e).0) (acted_fewer s k e (refusal s k e) (ap (has_committed e) (sym left.answer) ∙ none)) sound)

-- an event that doesn't concern the services commits nothing
pub plain_commits : (e : Event) (a : Answer) → service_of e ≡ None → has_committed e a ≡ false
plain_commits events.Enter a none = refl
plain_commits events.Leave a none = refl
plain_commits (events.Schedule name priority rule asleep) a none = refl
plain_commits (events.Sleep name) a none = refl
plain_commits (events.Wake name) a none = refl
plain_commits (events.Cancel name) a none = refl
plain_commits events.Take a none = refl
plain_commits events.Finish a none = refl
plain_commits (events.Begin rule) a none = refl
plain_commits (events.TryBegin rule) a none = refl
plain_commits (events.End rule) a none = refl
plain_commits (events.Transfer to) a none = refl
plain_commits events.Batch a none = refl
plain_commits events.EndBatch a none = refl
plain_commits events.Checkpoint a none = refl
plain_commits (events.Operation op) a none = refl
plain_commits (events.Service x) a none = absurd (let is : Some x ≡ None = none in cc)

-- nor does one that asks nothing of them for a build
pub other_commits : (e : Event) (a : Answer) → is_of_build e ≡ false → has_committed e a ≡ false
other_commits e a other = otherwise (λ v. has_committed v a ≡ false) (λ v none. plain_commits v a none) (λ kind. refl) (λ answer. refl) (λ states. refl) e other

-- so a history of such events keeps records sound
pub plain_sound : (ms : Meanings) (has : List ℕ → Bool) (s : Moment) (h : List Entry) → NoBuilds h
    → Sound ms has (records_of s.remembered.built) → Sound ms has (records_of (replay s h).remembered.built)
plain_sound ms has s [] all sound = sound
plain_sound ms has s (x ∷ h) all sound =
    plain_sound ms has (after s x) h all.1 (step_sound ms has s x.pass x.event (other_commits x.event (step s x.pass x.event).1.answer all.0) sound)

-- nothing was built in the fresh workspace
pub fresh_sound : (ms : Meanings) (has : List ℕ → Bool) (builders : Names) → Sound ms has (records_of (fresh_for builders).remembered.built)
fresh_sound ms has builders project index =
    subst (λ (o : Option (Record Tree)). IfSome (option_map built_of o) (λ b. HasLawful ms has (placed project b.command) → Fresh ms (placed project b.command) b.tree))
    (sym (get-empty place_cmp (project, index))) tt
