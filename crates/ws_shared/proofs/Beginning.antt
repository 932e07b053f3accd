-- A pass that waited for the services for a save has them, and its save has begun.
use Rattle.std.proofs.Common.{◌≡◌, ℕ, Bool, true, false, List, [], ◌∷◌, ◌++◌, refl, sym, ap, ◌∙◌, subst, true≢false, if◌then◌else◌}
use Rattle.std.specs.Prelude.{◌≢◌, Option, Some, None, Ok, is_some}
use Rattle.std.specs.Option.{option_map}
use Rattle.proj_desc.specs.FirstCause.{first_cause}
use Rattle.save_kind.specs.declared.kind.SaveKind.{SaveKind}
use Rattle.core_event.specs.declared.entry.Entry.{Entry}
use Rattle.core_event.specs.declared.event.Event.{Event}
use Rattle.core_event.specs.declared.event.Event.TheVariants.{Service}
use Rattle.core_event.specs.declared.reply.Answer.{Answer}
use Rattle.core_event.specs.declared.reply.Answer.TheVariants as answers
use Rattle.core_event.specs.declared.reply.Refusal.{Refusal}
use Rattle.core_event.specs.declared.reply.Refusal.TheVariants.{ServicesOut}
use Rattle.core_event.specs.declared.reply.Reply.{Reply}
use Rattle.core_event.specs.declared.service.Purpose.TheVariants as purposes
use Rattle.core_event.specs.declared.service.ServiceEvent.TheVariants.{Checkout}
use Rattle.core_event.specs.Replies.{is_attempt}
use Rattle.service_desk.specs.declared.desk.Serving.TheVariants as serving
use Rattle.ws_core.specs.States.{Moment}
use Rattle.ws_core.specs.Effects.{check_out}
use Rattle.ws_core.specs.Refusals.{refusal}
use Rattle.ws_core.specs.Steps.{acted, act, step, tells}
use Rattle.ws_core.specs.Histories.{Legal, entry_of, only_tried, replay}
use Rattle.ws_core.proofs.Grown.{replay_append}
use Rattle.run_order.proofs.Managed.{told_answer}
use Rattle.save_history.specs.Rounds.{Rounds, rounds_after, rounds_of}
use Rattle.save_history.specs.Saves.{IsDone, beginning}
use Rattle.save_history.specs.Stages.{IsUnderWay}
use Rattle.save_history.specs.Steps.{Begins}
use Rattle.save_history.proofs.Rounds.{done_step, rounds_on}
use Rattle.pass_history.specs.Served.{was_done}
use Rattle.pass_history.proofs.Serving.{serving_of, told_serving}
use Rattle.pass_history.proofs.Standing.{taken_for, told_taken}
use Rattle.ws_locked.specs.Asked.{noted}
use Rattle.ws_locked.specs.Moved.{WasAwaited}
use Rattle.ws_locked.proofs.Fitting.{steps_one}

module _ (s : Moment) (n : ℕ) (kind : SaveKind) where
  abbrev event : Event
  event = Service (Checkout (purposes.Save kind))

  abbrev did : Moment × Answer
  did = act s n event

  answered : (step s n event).1.answer ≡ did.1
  answered = told_answer (tells event did.0) did.0 did.1

  one_cause : (o : Option ℕ) → serving_of s ≡ o → refusal s n event ≡ first_cause (option_map ServicesOut o ∷ [])
  one_cause o is = ap (λ z. first_cause (option_map ServicesOut z ∷ [])) is

  acts_home : serving_of s ≡ None → did ≡ check_out s n (purposes.Save kind)
  acts_home home = ap (λ r. acted r s n event) (one_cause None home)

  acts_out : (holder : ℕ) → serving_of s ≡ Some holder → did ≡ (s, answers.Refused (ServicesOut holder))
  acts_out holder out = ap (λ r. acted r s n event) (one_cause (Some holder) out)

  -- that another has them is the one cause why it is refused
  pub was_home : ((holder : ℕ) → (step s n event).1.answer ≢ answers.Refused (ServicesOut holder)) → serving_of s ≡ None
  was_home never = by (serving_of s) refl
    where
      by : (o : Option ℕ) → serving_of s ≡ o → serving_of s ≡ None
      by None is = is
      by (Some holder) is = absurd (never holder (answered ∙ ap (λ (d : Moment × Answer). d.1) (acts_out holder is)))

  module _ (home : serving_of s ≡ None) where
    pub goes_out : (step s n event).1.answer ≡ answers.Done
    goes_out = answered ∙ ap (λ (d : Moment × Answer). d.1) (acts_home home)

    pub then_serves : serving_of (step s n event).0 ≡ Some n
    then_serves = told_serving (tells event did.0) did.0 did.1 ∙ ap (λ (d : Moment × Answer). serving_of d.0) (acts_home home)

    pub then_taken : taken_for (step s n event).0 ≡ Some (serving.Save false)
    then_taken = told_taken (tells event did.0) did.0 did.1 ∙ ap (λ (d : Moment × Answer). taken_for d.0) (acts_home home)

    pub no_attempt : only_tried (entry_of s n event) ≡ false
    no_attempt = ap (λ a. is_attempt event a) goes_out

-- what a pass found that waited for the services for a save: they were home, and its entry was added
pub record Began (n : ℕ) (kind : SaveKind) (s : Moment) (found added : List Entry) : Type 0 where
  pub entry : Entry
  pub one : added ≡ entry ∷ []
  pub is : IsDone n (beginning kind) entry
  pub under_way : IsUnderWay n false (replay s (found ++ added))
  pub round : (rounds_of (found ++ added)).under ≡ Some (record { kind = kind; kept = None })

module _ {T : Type 0} (Fit : List Entry → T → Type 0) (s : Moment) (n : ℕ) (kind : SaveKind) (found added : List Entry) (reply : Reply) (out : Option T)
    (w : WasAwaited Fit s n (purposes.Save kind) found added (Ok (reply, out))) where
  home : serving_of (replay s found) ≡ None
  home = was_home (replay s found) n kind (λ holder is. w.waited holder (ap (λ (r : Reply). r.answer) w.lent.reply ∙ is))

  abbrev first : Entry
  first = entry_of (replay s found) n (Service (Checkout (purposes.Save kind)))

  pub got : is_some out ≡ true
  got = w.lent.lent ∙ (ap (λ (r : Reply). was_done r.answer) w.lent.reply ∙ ap was_done (goes_out (replay s found) n kind home))

  one : added ≡ first ∷ []
  one = w.lent.entry ∙ ap (λ b. if b then [] else first ∷ []) (no_attempt (replay s found) n kind home)

  is_first : IsDone n (beginning kind) first
  is_first = record { pass = refl; event_is = refl; answer_is = goes_out (replay s found) n kind home }

  pub began : Began n kind s found added
  began = record {
    entry = first;
    one = one;
    is = is_first;
    under_way = subst (λ l. IsUnderWay n false (replay s (found ++ l))) (sym one)
        (subst (IsUnderWay n false) (sym (replay_append s found (first ∷ []))) (record { services = then_serves (replay s found) n kind home; serving = then_taken (replay s found) n kind home }));
    round = ap (λ l. (rounds_of (found ++ l)).under) one
        ∙ ap (λ (r : Rounds). r.under) (rounds_on found (found ++ first ∷ []) (first ∷ []) (Begins kind ∷ []) refl (steps_one first (Some (Begins kind)) (done_step n (beginning kind) first is_first)));
  }
