-- Each step of a save leaves what it is said to leave.
use Rattle.std.proofs.Common.{◌≡◌, ℕ, Bool, true, false, List, [], ◌∷◌, ◌++◌, Option, Some, None, refl, sym, ap, ◌∙◌, subst, if◌then◌else◌}
use Rattle.save_kind.specs.declared.answer.SaveAnswer.{SaveAnswer}
use Rattle.save_kind.specs.declared.answer.SaveAnswer.TheVariants as answer
use Rattle.save_kind.specs.declared.kind.SaveKind.{SaveKind}
use Rattle.save_kind.specs.declared.state.PartState.{PartState}
use Rattle.core_event.specs.declared.event.Event.TheVariants.{Service}
use Rattle.core_event.specs.declared.reply.Answer.{Answer}
use Rattle.core_event.specs.declared.reply.Answer.TheVariants.{Refused}
use Rattle.core_event.specs.declared.reply.Refusal.TheVariants.{ServicesOut}
use Rattle.core_event.specs.declared.reply.Reply.{Reply}
use Rattle.core_event.specs.declared.service.Outcomes.TheVariants as outcomes
use Rattle.core_event.specs.declared.service.Purpose.TheVariants as purposes
use Rattle.core_event.specs.declared.service.ServiceEvent.{ServiceEvent}
use Rattle.core_event.specs.declared.service.ServiceEvent.TheVariants.{Saving}
use Rattle.core_event.specs.Replies.{is_attempt}
use Rattle.ws_content.specs.Saves.{is_saved, kept_before}
use Rattle.ws_core.specs.States.{Moment}
use Rattle.ws_core.specs.Ends.{ChecksIn}
use Rattle.ws_core.specs.Histories.{entry_of, replay, written}
use Rattle.ws_core.specs.Sessions.{IsConsistent, Session}
use Rattle.ws_core.specs.Effects.{check_in, check_out, keep_states}
use Rattle.ws_core.specs.Steps.{step}
use Rattle.save_history.specs.Saves.{beginning, ending}
use Rattle.save_history.specs.Stages.{HasBegun, HasEnded, HasKept, IsUnderWay, Starts, Stays, WasRefused, WentOn, number_of}
use Rattle.save_history.proofs.Stepped.{begins_done, begins_refused, ends_done, is_under_way, keeps_done, save_may_end, untold}

pub stays_on : (s t u : Moment) → Stays s t → Stays t u → Stays s u
stays_on s t u p q = record {
  resources = q.resources ∙ p.resources;
  start = q.start ∙ p.start;
  told = q.told ∙ p.told;
  built = q.built ∙ p.built;
  manager = q.manager ∙ p.manager;
  builders = q.builders ∙ p.builders;
}

stays_itself : (s : Moment) → Stays s s
stays_itself s = record { resources = refl; start = refl; told = refl; built = refl; manager = refl; builders = refl }

-- ---- one step

module _ (x y : Session) (k : ℕ) (event : ServiceEvent) (d : Moment × Answer) (stepped : step x.state k (Service event) ≡ untold d) (placed : x.state ≡ replay x.opened x.history) (opened : y.opened ≡ x.opened)
    (state : y.state ≡ (step x.state k (Service event)).0) (history : y.history ≡ written x.history (entry_of x.state k (Service event))) where
  -- the state that it leaves
  now : y.state ≡ d.0
  now = state ∙ ap (λ (r : Moment × Reply). r.0) stepped

  answered : (step x.state k (Service event)).1.answer ≡ d.1
  answered = ap (λ (r : Moment × Reply). r.1.answer) stepped

  went : is_attempt (Service event) d.1 ≡ false → Stays x.state d.0 → WentOn k event d.1 x y
  went other stays = record {
    placed = placed;
    opened = opened;
    entry = entry_of x.state k (Service event);
    is = record { pass = refl; event_is = refl; answer_is = answered };
    history = history ∙ ap (λ (tried : Bool). if tried then x.history else x.history ++ entry_of x.state k (Service event) ∷ []) (ap (is_attempt (Service event)) answered ∙ other);
    state = state;
    stays = subst (Stays x.state) (sym now) stays;
  }

-- ---- it begins

module _ (x y : Session) (k : ℕ) (kind : SaveKind) (sound : IsConsistent x.state) (placed : x.state ≡ replay x.opened x.history) (opened : y.opened ≡ x.opened)
    (state : y.state ≡ (step x.state k (Service (beginning kind))).0) (history : y.history ≡ written x.history (entry_of x.state k (Service (beginning kind)))) where
  begun : x.state.manager.passes.services ≡ None → HasBegun k kind x y
  begun home =
      let done = begins_done x.state k kind sound.quiet home in
      let is = now x y k (beginning kind) (check_out x.state k (purposes.Save kind)) done placed opened state history in record {
        went = went x y k (beginning kind) (check_out x.state k (purposes.Save kind)) done placed opened state history refl
            (record { resources = refl; start = refl; told = refl; built = refl; manager = refl; builders = refl });
        home = home;
        under_way = record { services = ap (λ (s : Moment). s.manager.passes.services) is; serving = ap (λ (s : Moment). s.desk.serving) is };
        kept = ap (λ (s : Moment). s.remembered.kept) is;
        before = ap (λ (s : Moment). s.remembered.before) is;
      }

  refused : (holder : ℕ) → x.state.manager.passes.services ≡ Some holder → WasRefused k kind 32 x y
  refused holder out =
      let done = begins_refused x.state k kind sound.quiet holder out in record {
        refusal = ServicesOut holder;
        number = refl;
        went = went x y k (beginning kind) (x.state, Refused (ServicesOut holder)) done placed opened state history refl (stays_itself x.state);
        same = now x y k (beginning kind) (x.state, Refused (ServicesOut holder)) done placed opened state history;
      }

  -- and the answer tells whether it did
  pub starts : (a : Answer) → a ≡ (step x.state k (Service (beginning kind))).1.answer → Starts k kind (number_of a) x y
  starts a told = by x.state.manager.passes.services refl
    where
      by : (o : Option ℕ) → x.state.manager.passes.services ≡ o → Starts k kind (number_of a) x y
      by None home = subst (λ z. Starts k kind (number_of z) x y)
          (sym (told ∙ answered x y k (beginning kind) (check_out x.state k (purposes.Save kind)) (begins_done x.state k kind sound.quiet home) placed opened state history)) (begun home)
      by (Some holder) out = subst (λ z. Starts k kind (number_of z) x y)
          (sym (told ∙ answered x y k (beginning kind) (x.state, Refused (ServicesOut holder)) (begins_refused x.state k kind sound.quiet holder out) placed opened state history)) (refused holder out)

-- ---- it goes on

module _ (x y : Session) (k : ℕ) (kept : Bool) (sound : IsConsistent x.state) (placed : x.state ≡ replay x.opened x.history) (under : IsUnderWay k kept x.state) (opened : y.opened ≡ x.opened) where
  -- states are kept
  pub keeps : (states : List (List ℕ × PartState)) → y.state ≡ (step x.state k (Service (Saving states))).0 → y.history ≡ written x.history (entry_of x.state k (Service (Saving states))) → HasKept k states x y
  keeps states state history =
      let done = keeps_done x.state k sound.quiet under.services states (is_under_way x.state.desk.serving kept under.serving) in
      let is = now x y k (Saving states) (keep_states x.state states) done placed opened state history in record {
        went = went x y k (Saving states) (keep_states x.state states) done placed opened state history refl
            (record { resources = refl; start = refl; told = refl; built = refl; manager = refl; builders = refl });
        under_way = record { services = ap (λ (s : Moment). s.manager.passes.services) is ∙ under.services; serving = ap (λ (s : Moment). s.desk.serving) is };
        kept = ap (λ (s : Moment). s.remembered.kept) is;
        before = ap (λ (s : Moment). s.remembered.before) is;
      }

  -- it ends
  module _ (o : SaveAnswer) (may : o ≡ answer.Saved → kept ≡ true) where
    -- which takes no memory
    pub checks_in : ChecksIn x.state k (Service (ending o))
    checks_in = record { outcome = outcomes.Save o; gives = refl; serving = under.services; fits = save_may_end x.state.desk.serving kept o under.serving may }

    pub ends : y.state ≡ (step x.state k (Service (ending o))).0 → y.history ≡ written x.history (entry_of x.state k (Service (ending o))) → HasEnded k o x y
    ends state history =
        let done = ends_done x.state k sound.quiet under.services o (save_may_end x.state.desk.serving kept o under.serving may) in
        let is = now x y k (ending o) (check_in x.state (outcomes.Save o)) done placed opened state history in record {
          went = went x y k (ending o) (check_in x.state (outcomes.Save o)) done placed opened state history refl (ended_stays o);
          home = ap (λ (s : Moment). s.manager.passes.services) is;
          kept = ap (λ (s : Moment). s.remembered.kept) is ∙ ended_kept o;
          before = ap (λ (s : Moment). s.remembered.before) is ∙ ended_before o;
        }
      where
        ended_stays : (o : SaveAnswer) → Stays x.state (check_in x.state (outcomes.Save o)).0
        ended_stays answer.Saved = record { resources = refl; start = refl; told = refl; built = refl; manager = refl; builders = refl }
        ended_stays answer.SaveFailed = record { resources = refl; start = refl; told = refl; built = refl; manager = refl; builders = refl }
        ended_stays (answer.ParticipantFailed name) = record { resources = refl; start = refl; told = refl; built = refl; manager = refl; builders = refl }
        ended_stays answer.SaveTooLarge = record { resources = refl; start = refl; told = refl; built = refl; manager = refl; builders = refl }
        ended_stays answer.SaveNumbers = record { resources = refl; start = refl; told = refl; built = refl; manager = refl; builders = refl }
        ended_stays answer.NoMemory = record { resources = refl; start = refl; told = refl; built = refl; manager = refl; builders = refl }

        ended_kept : (o : SaveAnswer) → (check_in x.state (outcomes.Save o)).0.remembered.kept ≡ (if is_saved o then x.state.remembered.kept else kept_before x.state.remembered)
        ended_kept answer.Saved = refl
        ended_kept answer.SaveFailed = refl
        ended_kept (answer.ParticipantFailed name) = refl
        ended_kept answer.SaveTooLarge = refl
        ended_kept answer.SaveNumbers = refl
        ended_kept answer.NoMemory = refl

        ended_before : (o : SaveAnswer) → (check_in x.state (outcomes.Save o)).0.remembered.before ≡ None
        ended_before answer.Saved = refl
        ended_before answer.SaveFailed = refl
        ended_before (answer.ParticipantFailed name) = refl
        ended_before answer.SaveTooLarge = refl
        ended_before answer.SaveNumbers = refl
        ended_before answer.NoMemory = refl
