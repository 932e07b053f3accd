-- While a pass has the services no other does anything that concerns them.
use Rattle.std.proofs.Common.{◌≡◌, ◌≢◌, ℕ, Bool, true, false, List, [], ◌∷◌, ◌++◌, map, refl, sym, ap, ◌∙◌, subst, append_assoc, inl, inr, ◌⊎◌, true≢false, if◌then◌else◌}
use Rattle.std.specs.Prelude.{Option, Some, None}
use Rattle.std.specs.Option.{option_to_list}
use Rattle.std.specs.List.{AllByRecursion}
use Rattle.proj_desc.specs.FirstCause.{first_cause}
use Rattle.build_due.specs.declared.site.Site.{Site}
use Rattle.core_event.specs.declared.entry.Entry.{Entry}
use Rattle.core_event.specs.declared.event.Event.{Event}
use Rattle.core_event.specs.declared.event.Event.TheVariants.{Service}
use Rattle.core_event.specs.declared.reply.Answer.{Answer}
use Rattle.core_event.specs.declared.reply.Answer.TheVariants.{Refused}
use Rattle.core_event.specs.declared.reply.Refusal.{Refusal}
use Rattle.core_event.specs.declared.reply.Reply.{Reply}
use Rattle.core_event.specs.declared.service.Purpose.TheVariants.{Build, Save}
use Rattle.core_event.specs.declared.service.ServiceEvent.{ServiceEvent}
use Rattle.core_event.specs.declared.service.ServiceEvent.TheVariants.{Checkout, CheckIn, Handed, Commit, Clean, Saving}
use Rattle.core_event.specs.Events.{service_of}
use Rattle.service_desk.specs.Desks.{is_building, is_saving}
use Rattle.service_desk.specs.Refusals.{unrooted, project_causes, command_causes}
use Rattle.service_desk.specs.Sites.{site_in}
use Rattle.ws_core.specs.States.{Moment}
use Rattle.ws_core.specs.Effects.{clean_for, commit_for, hand, serve}
use Rattle.ws_core.specs.Refusals.{current, edit_cause, no_build, refusal}
use Rattle.ws_core.specs.Steps.{acted, act, told, tells, step}
use Rattle.ws_core.specs.Histories.{after, entry_of, replay, replies}
use Rattle.ws_core.proofs.ServingPass.{serving_named}
use Rattle.ws_core.proofs.Stepped.{Concern, OfOperation, OfService, OfManager, concern_of}
use Rattle.run_order.proofs.Managed.{step_services, told_answer}
use Rattle.ws_turn.specs.Lists.{of}
use Rattle.pass_turns.proofs.There.{others}
use Rattle.pass_history.specs.Served.{keeps_services, moves_nothing, served, services_of, served_by, was_done, who_serves}
use Rattle.pass_history.proofs.Given.{heads}

abbrev pub serving_of : Moment → Option ℕ
serving_of s = s.manager.passes.services

same_some : (a b : ℕ) → Some a ≡ Some b → a ≡ b
same_some a b e = let e : Some a ≡ Some b = e in cc

none_some : (a : ℕ) → None ≡ Some a → ⊥
none_some a e = let e : None ≡ Some a = e in cc

pub told_serving : (b : Bool) (s : Moment) (a : Answer) → serving_of (told b s a).0 ≡ serving_of s
told_serving true s a = refl
told_serving false s a = refl

-- a cause that applies is the first one or stands behind it
pub first_none : (c : Option Refusal) (cs : List (Option Refusal)) → first_cause (c ∷ cs) ≡ None → c ≡ None
first_none None cs e = refl
first_none (Some r) cs e = let e : Some r ≡ None = e in cc

-- ---- one event of another pass

-- the event was refused
abbrev Refuses : Moment → ℕ → ServiceEvent → Type 0
Refuses s j x = (r : Refusal) × ((step s j (Service x)).1.answer ≡ Refused r)

-- what is done of an event that isn't refused leaves the services with the pass, where they are with it
hand_serving : (s : Moment) (o : Option Site) (kind : _) → serving_of (hand s o kind).0 ≡ serving_of s
hand_serving s None kind = refl
hand_serving s (Some site) kind = refl

commit_serving : (s : Moment) (o : Option Site) (edits : _) → serving_of (commit_for s o edits).0 ≡ serving_of s
commit_serving s None edits = refl
commit_serving s (Some site) edits = refl

clean_serving : (s : Moment) (o : Option Site) → serving_of (clean_for s o).0 ≡ serving_of s
clean_serving s None = refl
clean_serving s (Some site) = refl

-- where an event was done, its pass had the services before, or has them then, or nobody has
pub done_serving : (s : Moment) (j k : ℕ) (x : ServiceEvent) → j ≢ k → refusal s j (Service x) ≡ None → serving_of (serve s j x).0 ≡ Some k → ⊥
done_serving s j k (Checkout (Build kind scope)) other none is = other (same_some j k is)
done_serving s j k (Checkout (Save kind)) other none is = other (same_some j k is)
done_serving s j k (CheckIn outcome) other none is = none_some k is
done_serving s j k (Handed project index kind) other none is =
    other (same_some j k (sym (serving_named s.manager.passes (is_building s.desk.serving) j (first_none _ (unrooted s.manager.passes.rules j ∷ (project_causes s.resources.tree project ++ command_causes s.resources.tree s.desk.builders project index)) none)) ∙ (sym (hand_serving s (site_in s.resources.tree project index) kind) ∙ is)))
done_serving s j k (Commit edits) other none is =
    other (same_some j k (sym (serving_named s.manager.passes (is_building s.desk.serving) j (first_none _ (no_build (current s) ∷ unrooted s.manager.passes.rules j ∷ edit_cause s.resources edits (current s) ∷ []) none)) ∙ (sym (commit_serving s (current s) edits) ∙ is)))
done_serving s j k (Clean project index) other none is =
    other (same_some j k (sym (serving_named s.manager.passes (is_building s.desk.serving) j (first_none _ (unrooted s.manager.passes.rules j ∷ (project_causes s.resources.tree project ++ command_causes s.resources.tree s.desk.builders project index)) none)) ∙ (sym (clean_serving s (site_in s.resources.tree project index)) ∙ is)))
done_serving s j k (Saving states) other none is =
    other (same_some j k (sym (serving_named s.manager.passes (is_saving s.desk.serving) j (first_none _ [] none)) ∙ is))

-- where a pass has the services after an event of another, it had them before, and the other was refused
pub others_refused : (s : Moment) (j k : ℕ) (x : ServiceEvent) → j ≢ k → serving_of (step s j (Service x)).0 ≡ Some k → (serving_of s ≡ Some k) × Refuses s j x
others_refused s j k x other is = by (refusal s j (Service x)) refl
  where
    was : serving_of (act s j (Service x)).0 ≡ Some k
    was = sym (told_serving (tells (Service x) (act s j (Service x)).0) (act s j (Service x)).0 (act s j (Service x)).1) ∙ is

    answered : (step s j (Service x)).1.answer ≡ (act s j (Service x)).1
    answered = told_answer (tells (Service x) (act s j (Service x)).0) (act s j (Service x)).0 (act s j (Service x)).1

    by : (r : Option Refusal) → refusal s j (Service x) ≡ r → (serving_of s ≡ Some k) × Refuses s j x
    by None e = absurd (done_serving s j k x other e (sym (ap (λ o. serving_of (acted o s j (Service x)).0) e) ∙ was))
    by (Some r) e = (sym (ap (λ o. serving_of (acted o s j (Service x)).0) e) ∙ was, (r, answered ∙ ap (λ o. (acted o s j (Service x)).1) e))

-- ---- an entry that concerns the services was refused, or it doesn't concern them

abbrev pub IsQuiet : Entry → Type 0
IsQuiet x = (service_of x.event ≡ None) ⊎ (was_done x.reply.answer ≡ false)

pub quiet_entry : (s : Moment) (k : ℕ) (x : Entry) → x.pass ≢ k → x.reply ≡ (step s x.pass x.event).1 → serving_of (after s x) ≡ Some k → (serving_of s ≡ Some k) × IsQuiet x
quiet_entry s k x other told is = by (concern_of x.event)
  where
    plainly : service_of x.event ≡ None → (serving_of s ≡ Some k) × IsQuiet x
    plainly plain = (sym (step_services s x.pass x.event plain) ∙ is, inl plain)

    by : Concern x.event → (serving_of s ≡ Some k) × IsQuiet x
    by (OfOperation op e) = plainly (ap service_of e)
    by (OfManager none plain) = plainly plain
    by (OfService v e) =
        let r = others_refused s x.pass k v other (ap (λ z. serving_of (step s x.pass z).0) (sym e) ∙ is) in
        (r.0, inr (ap was_done (ap (λ (y : Reply). y.answer) told ∙ (ap (λ z. (step s x.pass z).1.answer) e ∙ r.1.1))))

-- the entries of others, at whose end a pass has the services
pub others_quiet : (s : Moment) (k : ℕ) (m : List Entry) → map (λ (x : Entry). x.reply) m ≡ replies s m → of (λ (x : Entry). x.pass) k m ≡ [] → who_serves s m ≡ Some k
    → (serving_of s ≡ Some k) × AllByRecursion IsQuiet m
others_quiet s k [] told none is = (is, tt)
others_quiet s k (x ∷ m) told none is =
    let t = heads _ _ _ _ told in
    let o = others (λ (y : Entry). y.pass) k x m none in
    let later = others_quiet (after s x) k m t.1 o.1 is in
    let here = quiet_entry s k x o.0 t.0 later.0 in
    (here.0, (here.1, later.1))

-- ---- quiet entries add nothing of the services

pub quiet_served : (s : Moment) (x : Entry) → IsQuiet x → served s x ≡ None
quiet_served s x (inl plain) = by (was_done x.reply.answer)
  where
    by : (b : Bool) → (if b then served_by s x (service_of x.event) else None) ≡ None
    by true = ap (served_by s x) plain
    by false = refl
quiet_served s x (inr refused) = ap (λ b. if b then served_by s x (service_of x.event) else None) refused

pub quiet_services : (s : Moment) (h : List Entry) → AllByRecursion IsQuiet h → services_of s h ≡ []
quiet_services s [] all = refl
quiet_services s (x ∷ h) all = ap (λ o. option_to_list o ++ services_of (after s x) h) (quiet_served s x all.0) ∙ quiet_services (after s x) h all.1

pub services_append : (s : Moment) (g h : List Entry) → services_of s (g ++ h) ≡ services_of s g ++ services_of (replay s g) h
services_append s [] h = refl
services_append s (x ∷ g) h = ap (λ l. option_to_list (served s x) ++ l) (services_append (after s x) g h) ∙ sym (append_assoc (option_to_list (served s x)) (services_of (after s x) g) (services_of (replay (after s x) g) h))

-- ---- an event that takes no services and gives none back

pub moved_nothing : (s : Moment) (k : ℕ) (e : Event) → keeps_services e ≡ true → serving_of (step s k e).0 ≡ serving_of s
moved_nothing s k e keeps = by (concern_of e)
  where
    still : (x : ServiceEvent) → moves_nothing x ≡ true → serving_of (serve s k x).0 ≡ serving_of s
    still (Checkout purpose) is = absurd (true≢false (sym is))
    still (CheckIn outcome) is = absurd (true≢false (sym is))
    still (Handed project index kind) is = hand_serving s (site_in s.resources.tree project index) kind
    still (Commit edits) is = commit_serving s (current s) edits
    still (Clean project index) is = clean_serving s (site_in s.resources.tree project index)
    still (Saving states) is = refl

    acted_still : (x : ServiceEvent) (r : Option Refusal) → moves_nothing x ≡ true → serving_of (acted r s k (Service x)).0 ≡ serving_of s
    acted_still x None is = still x is
    acted_still x (Some r) is = refl

    by : Concern e → serving_of (step s k e).0 ≡ serving_of s
    by (OfOperation op is) = step_services s k e (ap service_of is)
    by (OfManager none plain) = step_services s k e plain
    by (OfService x is) = subst (λ z. serving_of (step s k z).0 ≡ serving_of s) (sym is)
        (told_serving (tells (Service x) (act s k (Service x)).0) (act s k (Service x)).0 (act s k (Service x)).1
        ∙ acted_still x (refusal s k (Service x)) (sym (ap keeps_services is) ∙ keeps))

-- where no pass has the services such an event is refused, or doesn't concern them
pub nobody_serves : (s : Moment) (k : ℕ) (e : Event) → keeps_services e ≡ true → serving_of s ≡ None → IsQuiet (entry_of s k e)
nobody_serves s k e keeps nobody = by (concern_of e)
  where
    served : (o : Option ℕ) → serving_of s ≡ o → o ≡ Some k → ⊥
    served o is some = none_some k (sym nobody ∙ (is ∙ some))

    never : (x : ServiceEvent) → moves_nothing x ≡ true → refusal s k (Service x) ≡ None → ⊥
    never (Checkout purpose) is none = true≢false (sym is)
    never (CheckIn outcome) is none = true≢false (sym is)
    never (Handed project index kind) is none =
        served _ refl (serving_named s.manager.passes (is_building s.desk.serving) k (first_none _ (unrooted s.manager.passes.rules k ∷ (project_causes s.resources.tree project ++ command_causes s.resources.tree s.desk.builders project index)) none))
    never (Commit edits) is none =
        served _ refl (serving_named s.manager.passes (is_building s.desk.serving) k (first_none _ (no_build (current s) ∷ unrooted s.manager.passes.rules k ∷ edit_cause s.resources edits (current s) ∷ []) none))
    never (Clean project index) is none =
        served _ refl (serving_named s.manager.passes (is_building s.desk.serving) k (first_none _ (unrooted s.manager.passes.rules k ∷ (project_causes s.resources.tree project ++ command_causes s.resources.tree s.desk.builders project index)) none))
    never (Saving states) is none = served _ refl (serving_named s.manager.passes (is_saving s.desk.serving) k (first_none _ [] none))

    refused : (x : ServiceEvent) (r : Option Refusal) → refusal s k (Service x) ≡ r → moves_nothing x ≡ true → was_done (act s k (Service x)).1 ≡ false
    refused x None is moves = absurd (never x moves is)
    refused x (Some r) is moves = ap (λ o. was_done (acted o s k (Service x)).1) is

    by : Concern e → IsQuiet (entry_of s k e)
    by (OfOperation op is) = inl (ap service_of is)
    by (OfManager none plain) = inl plain
    by (OfService x is) = inr (ap (λ z. was_done (step s k z).1.answer) is
        ∙ (ap was_done (told_answer (tells (Service x) (act s k (Service x)).0) (act s k (Service x)).0 (act s k (Service x)).1)
        ∙ refused x (refusal s k (Service x)) refl (sym (ap keeps_services is) ∙ keeps)))
