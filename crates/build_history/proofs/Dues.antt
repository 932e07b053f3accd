-- In a legal history what is handed is due.
use Rattle.std.proofs.Common.{◌≡◌, ℕ, List, [], ◌∷◌, Some, None, refl, ap, sym, ◌∙◌, subst}
use Rattle.std.specs.Prelude.{Option, IsSomeAnd}
use Rattle.std.specs.Option.{option_and_then}
use Rattle.proj_desc.specs.FirstCause.{first_cause}
use Rattle.builder_api.specs.declared.kind.BuildKind.{BuildKind}
use Rattle.core_event.specs.declared.entry.Entry.{Entry}
use Rattle.core_event.specs.declared.event.Event.{Event}
use Rattle.core_event.specs.declared.event.Event.TheVariants as events
use Rattle.core_event.specs.declared.reply.Refusal.{Refusal}
use Rattle.core_event.specs.declared.reply.Reply.{Reply}
use Rattle.core_event.specs.declared.service.ServiceEvent.TheVariants as services
use Rattle.proj_desc.specs.declared.desc.Desc.{Desc}
use Rattle.build_laws.specs.States.{Descs, IsItem, Item, due, item}
use Rattle.build_due.specs.declared.site.Site.{Site}
use Rattle.service_desk.specs.Sites.{site_in}
use Rattle.std.specs.Prelude.{slice_get}
use Rattle.ws_core.specs.States.{Moment, contents_of}
use Rattle.ws_core.specs.Effects.{hand}
use Rattle.ws_core.specs.Histories.{after}
use Rattle.ws_core.specs.Refusals.{service_causes}
use Rattle.ws_core.specs.Steps.{step}
use Rattle.ws_content.specs.Handing.{handing}
use Rattle.build_core.specs.States.{state_of}
use Rattle.build_core.proofs.Handings.{handing_due}
use Rattle.build_core.proofs.Leaves.{refused, served}
use Rattle.build_core.proofs.Sites.{site_item}
use Rattle.build_history.specs.Calls.{command_at}
use Rattle.build_history.specs.Dues.{AreDue, HandsDue, IsDue}
use Rattle.build_history.proofs.Keeping.{AreReplies, first_reply, other_replies}

listed_at : (descs : Descs) (i : Item) → IsItem descs i → command_at descs i.project i.index ≡ Some i.command
listed_at descs i it = ap (option_and_then (λ (d : Desc). slice_get d.commands i.index)) it.described ∙ it.stands

module _ (s : Moment) (k : ℕ) (project : List ℕ) (index : ℕ) (kind : BuildKind) where
  found_due : (o : Option Site) → site_in s.resources.tree project index ≡ o → HandsDue (state_of s) (services.Handed project index kind) (hand s o kind).1
  found_due None is = tt
  found_due (Some site) is =
      subst (λ o. IsSomeAnd o (λ c. handing (contents_of s) site kind ≡ due (state_of s) (item project index c) kind))
      (sym (listed_at (state_of s).descs (item project index site.command) (site_item s.resources.tree project index site is).listed))
      (handing_due s project index site kind is)

  handed_due : HandsDue (state_of s) (services.Handed project index kind) (step s k (events.Service (services.Handed project index kind))).1.answer
  handed_due = by (first_cause (service_causes s k (services.Handed project index kind))) refl
    where
      by : (c : Option Refusal) → first_cause (service_causes s k (services.Handed project index kind)) ≡ c
          → HandsDue (state_of s) (services.Handed project index kind) (step s k (events.Service (services.Handed project index kind))).1.answer
      by (Some r) is = subst (HandsDue (state_of s) (services.Handed project index kind)) (sym (refused s k (services.Handed project index kind) r is).answer) tt
      by None is = subst (HandsDue (state_of s) (services.Handed project index kind)) (sym (served s k (services.Handed project index kind) is).answer)
          (found_due (site_in s.resources.tree project index) refl)

step_due : (s : Moment) (k : ℕ) (e : Event) → IsDue s e (step s k e).1.answer
step_due s k events.Enter = tt
step_due s k events.Leave = tt
step_due s k (events.Schedule name priority rule asleep) = tt
step_due s k (events.Sleep name) = tt
step_due s k (events.Wake name) = tt
step_due s k (events.Cancel name) = tt
step_due s k events.Take = tt
step_due s k events.Finish = tt
step_due s k (events.Begin rule) = tt
step_due s k (events.TryBegin rule) = tt
step_due s k (events.End rule) = tt
step_due s k (events.Transfer to) = tt
step_due s k events.Batch = tt
step_due s k events.EndBatch = tt
step_due s k events.Checkpoint = tt
step_due s k (events.Operation op) = tt
step_due s k (events.Service (services.Handed project index kind)) = handed_due s k project index kind
step_due s k (events.Service (services.Checkout purpose)) = tt
step_due s k (events.Service (services.CheckIn outcome)) = tt
step_due s k (events.Service (services.Commit edits)) = tt
step_due s k (events.Service (services.Clean project index)) = tt
step_due s k (events.Service (services.Saving states)) = tt

-- where each reply is the step's, what is handed is due
pub replies_due : (s : Moment) (h : List Entry) → AreReplies s h → AreDue s h
replies_due s [] are = tt
replies_due s (x ∷ h) are = (
  subst (IsDue s x.event) (sym (ap (λ (r : Reply). r.answer) (first_reply s x h are))) (step_due s x.pass x.event),
  replies_due (after s x) h (other_replies s x h are),
)
