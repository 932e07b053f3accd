-- Services that fit a history fit it on.
use Rattle.std.proofs.Common.{◌≡◌, ℕ, Bool, true, false, List, [], ◌∷◌, ◌++◌, refl, sym, ap, ◌∙◌, subst, inl, inr, append-nil, if◌then◌else◌}
use Rattle.std.specs.Prelude.{Option, Some, None}
use Rattle.std.specs.Option.{option_to_list}
use Rattle.std.specs.List.{AllByRecursion}
use Rattle.ws_outside.specs.declared.contents.Contents.{Contents}
use Rattle.builder_api.specs.Told.{Told as BuilderTold}
use Rattle.core_event.specs.declared.entry.Entry.{Entry}
use Rattle.core_event.specs.declared.reply.Answer.{Answer}
use Rattle.core_event.specs.declared.reply.Answer.TheVariants as answers
use Rattle.ws_core.specs.States.{Moment}
use Rattle.core_event.specs.declared.event.Event.TheVariants.{Service}
use Rattle.core_event.specs.declared.service.Purpose.{Purpose}
use Rattle.core_event.specs.declared.service.Purpose.TheVariants.{Build, Save}
use Rattle.core_event.specs.declared.service.ServiceEvent.{ServiceEvent}
use Rattle.core_event.specs.declared.service.ServiceEvent.TheVariants.{Checkout}
use Rattle.core_event.specs.Events.{service_of}
use Rattle.ws_core.specs.Histories.{after, only_tried, replay, written}
use Rattle.ws_core.specs.Durables.{durable_of}
use Rattle.save_history.specs.Kept.{Keeper, HasNumberLeft, IsKept, IsSafe, HasRisenBy, disk_of, first_disk}
use Rattle.save_history.specs.Points.{Points, points_from, with_step}
use Rattle.save_history.specs.Rounds.{no_rounds, rounds_after, rounds_of}
use Rattle.save_history.specs.Steps.{SaveStep, Begins, failures, step_asked, step_in, step_of, steps_of}
use Rattle.save_history.specs.Steps as steps
use Rattle.save_history.proofs.Walks.{no_step, plain_step, points_append, replay_append, steps_append}
use Rattle.save_history.proofs.Rounds.{rounds_on}
use Rattle.save_history.proofs.Safe.{kept_begins, kept_none}
use Rattle.pass_history.specs.Served.{Served, served_by, services_of, site_named}
use Rattle.pass_history.specs.Served as served
use Rattle.pass_history.proofs.Serving.{IsQuiet, quiet_services, services_append}
use Rattle.ws_locked.specs.Fits.{Fits, HadEach, Told, session}
use Rattle.ws_locked.specs.Opened.{Opened, Vows, is_of_save}

-- ---- quiet entries make no step of a save

done_same : (a : Answer) → steps.was_done a ≡ served.was_done a
done_same answers.Done = refl
done_same (answers.Id n) = refl
done_same (answers.Count n) = refl
done_same answers.None = refl
done_same (answers.Job name) = refl
done_same (answers.Seen seen) = refl
done_same (answers.Plan plan) = refl
done_same (answers.Handed handed) = refl
done_same (answers.Committed touched problems) = refl
done_same (answers.Refused r) = refl

pub quiet_step : (x : Entry) → IsQuiet x → step_of x.event x.reply.answer ≡ None
quiet_step x (inl plain) = no_step x.event x.reply.answer (plain_step x.event plain)
quiet_step x (inr refused) = ap (λ b. if b then step_in x.event else None) (done_same x.reply.answer ∙ refused)

pub quiet_steps : (h : List Entry) → AllByRecursion IsQuiet h → steps_of h ≡ []
quiet_steps [] all = refl
quiet_steps (x ∷ h) all = ap (λ o. option_to_list o ++ steps_of h) (quiet_step x all.0) ∙ quiet_steps h all.1

pub quiet_points : (p : Points) (s : Moment) (h : List Entry) → AllByRecursion IsQuiet h → points_from p s h ≡ p
quiet_points p s [] all = refl
quiet_points p s (x ∷ h) all =
    ap (λ o. points_from (with_step (durable_of (after s x)) o p) (after s x) h) (quiet_step x all.0) ∙ quiet_points p (after s x) h all.1

-- so the points, steps, rounds and services of a history stay where it goes on by quiet entries
pub points_stay : (p : Points) (s : Moment) (h l : List Entry) → AllByRecursion IsQuiet l → points_from p s (h ++ l) ≡ points_from p s h
points_stay p s h l all = points_append p s h l ∙ quiet_points (points_from p s h) (replay s h) l all

pub steps_stay : (h l : List Entry) → AllByRecursion IsQuiet l → steps_of (h ++ l) ≡ steps_of h
steps_stay h l all = steps_append h l ∙ (ap (λ z. steps_of h ++ z) (quiet_steps l all) ∙ append-nil (steps_of h))

pub services_stay : (s : Moment) (h l : List Entry) → AllByRecursion IsQuiet l → services_of s (h ++ l) ≡ services_of s h
services_stay s h l all = services_append s h l ∙ (ap (λ z. services_of s h ++ z) (quiet_services (replay s h) l all) ∙ append-nil (services_of s h))

module _ {D : Type 0} (moment : D → ℕ) (left_since : D → ℕ → Contents → Type 0) (may_leave : D → Contents → Type 0) (faults : D → ℕ)
    (vow : Opened → List BuilderTold → List Served → Type 0) (o : Opened) (began : Keeper D) where
  abbrev Fit : List Entry → Told D → Type 0
  Fit h t = Fits moment left_since may_leave faults vow o began h t

  -- histories with the same points and steps
  pub store_same : (s : Moment) (g h : List Entry) (keeper : Keeper D) → ((p : Points) → points_from p s h ≡ points_from p s g) → steps_of h ≡ steps_of g
      → IsKept moment left_since may_leave faults (session s g) keeper → IsKept moment left_since may_leave faults (session s h) keeper
  store_same s g h keeper points made kept = record {
    safe = subst (λ p. IsSafe moment left_since may_leave faults p keeper) (sym (points _)) kept.safe;
    number_left = subst (λ p. HasNumberLeft p keeper) (sym (points _)) kept.number_left;
    counted = subst (λ l. HasRisenBy (failures l) (faults (first_disk keeper)) (faults (disk_of keeper))) (sym made) kept.counted;
    untouched = λ none. kept.untouched (sym made ∙ none);
  }

  -- and services
  pub fits_same : (g h : List Entry) (t : Told D) → ((p : Points) → points_from p o.state h ≡ points_from p o.state g) → steps_of h ≡ steps_of g → services_of o.state h ≡ services_of o.state g
      → Fit g t → Fit h t
  fits_same g h t points made asked fit = record {
    same_store = fit.same_store;
    kept = store_same o.state g h t.keeper points made fit.kept;
    had = subst (λ l. HadEach (rounds_after no_rounds l).ended o.participants t.participants) (sym made) fit.had;
    vowed = subst (vow o t.builders) (sym asked) fit.vowed;
  }

  pub fits_on : (h l : List Entry) (t : Told D) → AllByRecursion IsQuiet l → Fit h t → Fit (h ++ l) t
  fits_on h l t all = fits_same h (h ++ l) t (λ p. points_stay p o.state h l all) (steps_stay h l all) (services_stay o.state h l all)

-- ---- the services go out

pub made_is : (x : Entry) (v : ServiceEvent) → x.event ≡ Service v → served.was_done x.reply.answer ≡ true → step_of x.event x.reply.answer ≡ step_asked v
made_is x v is good = ap (λ b. if b then step_in x.event else None) (done_same x.reply.answer ∙ good) ∙ ap step_in is

pub steps_one : (x : Entry) (o : Option SaveStep) → step_of x.event x.reply.answer ≡ o → steps_of (x ∷ []) ≡ option_to_list o
steps_one x o made = append-nil _ ∙ ap (λ z. option_to_list z) made

-- an entry that concerns the services and was done is one of those that the services served
pub served_one : (s : Moment) (h : List Entry) (x : Entry) (v : ServiceEvent) → x.event ≡ Service v → served.was_done x.reply.answer ≡ true
    → services_of s (h ++ x ∷ []) ≡ services_of s h ++ record { entry = x; command = site_named (replay s h) v } ∷ []
served_one s h x v is good = services_append s h (x ∷ []) ∙ ap (λ o. services_of s h ++ (option_to_list o ++ []))
    (ap (λ b. if b then served_by (replay s h) x (service_of x.event) else None) good ∙ ap (λ e. served_by (replay s h) x (service_of e)) is)

module _ {D : Type 0} (moment : D → ℕ) (left_since : D → ℕ → Contents → Type 0) (may_leave : D → Contents → Type 0) (faults : D → ℕ)
    (vow : Opened → List BuilderTold → List Served → Type 0) (vows : Vows vow) (o : Opened) (began : Keeper D) where
  pub fits_out : (h : List Entry) (x : Entry) (purpose : Purpose) (t : Told D) → x.event ≡ Service (Checkout purpose) → served.was_done x.reply.answer ≡ true
      → Fits moment left_since may_leave faults vow o began h t → Fits moment left_since may_leave faults vow o began (h ++ x ∷ []) t
  fits_out h x purpose t is good fit = by purpose is
    where
      made : (p : Purpose) → x.event ≡ Service (Checkout p) → step_of x.event x.reply.answer ≡ step_asked (Checkout p)
      made p e = made_is x (Checkout p) e good

      vowed : (p : Purpose) → x.event ≡ Service (Checkout p) → vow o t.builders (services_of o.state (h ++ x ∷ []))
      vowed p e = subst (vow o t.builders) (sym (served_one o.state h x (Checkout p) e good)) (vows o t.builders (services_of o.state h) (record { entry = x; command = None }) (ap is_of_save e) fit.vowed)

      rounds : (q : Option SaveStep) → step_of x.event x.reply.answer ≡ q → rounds_of (h ++ x ∷ []) ≡ rounds_after (rounds_of h) (option_to_list q)
      rounds q m = rounds_on h (h ++ x ∷ []) (x ∷ []) (option_to_list q) refl (steps_one x q m)

      by : (p : Purpose) → x.event ≡ Service (Checkout p) → Fits moment left_since may_leave faults vow o began (h ++ x ∷ []) t
      by (Build kind scope) e = record {
        same_store = fit.same_store;
        kept = kept_none moment left_since may_leave faults t.keeper (session o.state h) (session o.state (h ++ x ∷ [])) refl refl x refl (replay_append o.state h (x ∷ [])) (made (Build kind scope) e) fit.kept;
        had = subst (λ r. HadEach r.ended o.participants t.participants) (sym (rounds None (made (Build kind scope) e))) fit.had;
        vowed = vowed (Build kind scope) e;
      }
      by (Save kind) e = record {
        same_store = fit.same_store;
        kept = kept_begins moment left_since may_leave faults t.keeper (session o.state h) (session o.state (h ++ x ∷ [])) refl refl x refl (replay_append o.state h (x ∷ [])) kind (made (Save kind) e) fit.kept;
        had = subst (λ r. HadEach r.ended o.participants t.participants) (sym (rounds (Some (Begins kind)) (made (Save kind) e))) fit.had;
        vowed = vowed (Save kind) e;
      }

  -- the same of what is written of the entry
  pub fits_written : (h now : List Entry) (x : Entry) (purpose : Purpose) (t : Told D) → now ≡ written h x → x.event ≡ Service (Checkout purpose) → served.was_done x.reply.answer ≡ true
      → Fits moment left_since may_leave faults vow o began h t → Fits moment left_since may_leave faults vow o began now t
  fits_written h now x purpose t is e good fit = subst (λ l. Fits moment left_since may_leave faults vow o began l t) (sym is) (by (only_tried x))
    where
      by : (b : Bool) → Fits moment left_since may_leave faults vow o began (if b then h else h ++ x ∷ []) t
      by true = fit
      by false = fits_out h x purpose t e good fit
