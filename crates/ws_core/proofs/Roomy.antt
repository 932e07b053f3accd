-- Room for entries stays.
use Rattle.std.proofs.Common.{◌≡◌, ◌≤◌, ◌+◌, inl, inr, ℕ, Bool, true, false, [], ◌∷◌, length, refl, sym, ap, ◌∙◌, subst, arith}
use Rattle.std.specs.Prelude.{Option, Some, None, Result, Ok, Err, IfOk, OnErr}
use Rattle.proj_desc.specs.FirstCause.{first_cause}
use Rattle.rule_table.specs.Tables.{last_rule, rules_held}
use Rattle.op_kind.specs.declared.op.Op.{Op}
use Rattle.core_event.specs.declared.event.Event.{Event}
use Rattle.core_event.specs.declared.event.Event.TheVariants.{End, Operation, Service}
use Rattle.core_event.specs.declared.reply.Answer.{Answer}
use Rattle.core_event.specs.declared.reply.Refusal.{Refusal}
use Rattle.core_event.specs.declared.reply.Reply.{Reply}
use Rattle.core_event.specs.declared.twice.Twice.{Twice}
use Rattle.core_event.specs.declared.service.Outcomes.{Outcomes}
use Rattle.core_event.specs.declared.service.Purpose.TheVariants.{Build, Save}
use Rattle.core_event.specs.declared.service.ServiceEvent.{ServiceEvent}
use Rattle.core_event.specs.declared.service.ServiceEvent.TheVariants.{Checkout, CheckIn, Handed, Commit, Clean, Saving}
use Rattle.core_event.specs.Events.{service_of}
use Rattle.core_event.specs.Twice.{doubled}
use Rattle.job_manager.specs.declared.manager.JobManager.{JobManager}
use Rattle.job_manager.specs.Effects as managing
use Rattle.job_manager.specs.Refusals as managers
use Rattle.job_manager.proofs.Counts.{held_more, one_fewer}
use Rattle.job_manager.proofs.Ended.{is_last}
use Rattle.ws_core.specs.States.{Moment}
use Rattle.build_due.specs.declared.site.Site.{Site}
use Rattle.service_desk.specs.Desks.{may_end}
use Rattle.service_desk.specs.Refusals.{not_serving}
use Rattle.service_desk.specs.Sites.{site_in}
use Rattle.ws_core.specs.Refusals.{current, refusal}
use Rattle.ws_core.specs.Effects.{clean_for, commit_for, hand, serve}
use Rattle.ws_core.specs.Steps.{acted, act, told, tells, step}
use Rattle.ws_core.specs.Inside.Rooms.{Fits, HasRoom, IsKept, due_back}
use Rattle.job_manager.specs.Ends.{EndsLast}
use Rattle.ws_core.proofs.ServingPass.{not_refused}
use Rattle.ws_core.proofs.Stepped.{Concern, OfOperation, OfService, OfManager, concern_of, act_managed}

told_manager : (b : Bool) (s : Moment) (a : Answer) → (told b s a).0.manager ≡ s.manager
told_manager true s a = refl
told_manager false s a = refl

-- what an event leaves of the jobs and passes
act_manager : (s : Moment) (k : ℕ) (e : Event) → service_of e ≡ None → (act s k e).0.manager ≡ (managing.outcome s.manager k e).0
act_manager s k e plain = by (concern_of e)
  where
    operated : (op : Op) (r : Option Refusal) → (acted r s k (Operation op)).0.manager ≡ s.manager
    operated op None = refl
    operated op (Some r) = refl

    never : (x : ServiceEvent) → Some x ≡ None → ⊥
    never x h = cc

    by : Concern e → (act s k e).0.manager ≡ (managing.outcome s.manager k e).0
    by (OfOperation op is) = subst (λ z. (act s k z).0.manager ≡ (managing.outcome s.manager k z).0) (sym is) (operated op (refusal s k (Operation op)))
    by (OfService x is) = absurd (never x (sym (ap service_of is) ∙ plain))
    by (OfManager none other) = ap (λ (d : Moment × Answer). d.0.manager) (act_managed s k e none other)

-- what a step leaves of the jobs and passes
pub step_manager : (s : Moment) (k : ℕ) (e : Event) → service_of e ≡ None → (step s k e).0.manager ≡ (managing.outcome s.manager k e).0
step_manager s k e plain = told_manager (tells e (act s k e).0) (act s k e).0 (act s k e).1 ∙ act_manager s k e plain

-- the manager, with these services
abbrev pub serving : JobManager → Option ℕ → JobManager
serving m services = record m { passes = record (m.passes) { services = services } }

-- what concerns the services changes of the jobs and passes at most who has them
pub service_manager : (s : Moment) (k : ℕ) (x : ServiceEvent) → (services : Option ℕ) × ((step s k (Service x)).0.manager ≡ serving s.manager services)
service_manager s k x =
    let done = by (refusal s k (Service x)) in
    (done.0, told_manager (tells (Service x) (act s k (Service x)).0) (act s k (Service x)).0 (act s k (Service x)).1 ∙ done.1)
  where
    Is : Moment × Answer → Type 0
    Is d = (services : Option ℕ) × (d.0.manager ≡ serving s.manager services)

    served : (v : ServiceEvent) → Is (serve s k v)
    served (Checkout (Build kind scope)) = (Some k, refl)
    served (Checkout (Save kind)) = (Some k, refl)
    served (Saving states) = (s.manager.passes.services, refl)
    served (CheckIn outcome) = (None, refl)
    served (Handed project index kind) = of (site_in s.resources.tree project index)
      where
        of : (o : Option Site) → Is (hand s o kind)
        of None = (s.manager.passes.services, refl)
        of (Some site) = (s.manager.passes.services, refl)
    served (Commit edits) = of (current s)
      where
        of : (o : Option Site) → Is (commit_for s o edits)
        of None = (s.manager.passes.services, refl)
        of (Some site) = (s.manager.passes.services, refl)
    served (Clean project index) = of (site_in s.resources.tree project index)
      where
        of : (o : Option Site) → Is (clean_for s o)
        of None = (s.manager.passes.services, refl)
        of (Some site) = (s.manager.passes.services, refl)

    by : (r : Option Refusal) → Is (acted r s k (Service x))
    by None = served x
    by (Some r) = (s.manager.passes.services, refl)

-- ---- how many rules are held

-- at most one more than before
held_after : (s : Moment) (k : ℕ) (e : Event) → length (step s k e).0.manager.passes.rules ≤ length s.manager.passes.rules + 1
held_after s k e = by (concern_of e)
  where
    plainly : service_of e ≡ None → length (step s k e).0.manager.passes.rules ≤ length s.manager.passes.rules + 1
    plainly plain = let same = ap (λ (m : JobManager). length m.passes.rules) (step_manager s k e plain) in let one = held_more s.manager k e in omega (arith, same, one)

    served : (x : ServiceEvent) → length (step s k (Service x)).0.manager.passes.rules ≤ length s.manager.passes.rules + 1
    served x =
        let same : length (step s k (Service x)).0.manager.passes.rules ≡ length s.manager.passes.rules = ap (λ (m : JobManager). length m.passes.rules) (service_manager s k x).1 in
        omega (arith, same)

    by : Concern e → length (step s k e).0.manager.passes.rules ≤ length s.manager.passes.rules + 1
    by (OfOperation op is) = plainly (ap service_of is)
    by (OfService x is) = subst (λ z. length (step s k z).0.manager.passes.rules ≤ length s.manager.passes.rules + 1) (sym is) (served x)
    by (OfManager none plain) = plainly plain

ended_held : (m : JobManager) (k : ℕ) (e : Event) → EndsLast m.passes.rules k e → length (managing.outcome m k e).0.passes.rules + 1 ≡ length m.passes.rules
ended_held m k e h =
    ap (λ x. length (managing.outcome m k x).0.passes.rules + 1) h.ends
    ∙ ap (λ r. length (managing.decided r m k (End h.rule)).0.passes.rules + 1) (is_last (last_rule k m.passes.rules) (rules_held k m.passes.rules) h.rule h.last)
    ∙ one_fewer k m.passes.rules h.rule h.last

-- the end of a rule leaves who has the services
ended_services : (m : JobManager) (k : ℕ) (e : Event) → EndsLast m.passes.rules k e → (managing.outcome m k e).0.passes.services ≡ m.passes.services
ended_services m k e h = ap (λ x. (managing.outcome m k x).0.passes.services) h.ends ∙ by (managers.refusal m k (End h.rule))
  where
    by : (r : Option Refusal) → (managing.decided r m k (End h.rule)).0.passes.services ≡ m.passes.services
    by None = refl
    by (Some r) = refl

-- a check-in leaves the rules, and no pass with the services
checked_in_manager : (s : Moment) (k : ℕ) (outcome : Outcomes) → not_serving s.manager.passes (may_end s.desk.serving outcome) k ≡ None
    → (step s k (Service (CheckIn outcome))).0.manager ≡ serving s.manager None
checked_in_manager s k outcome none =
    let x = Service (CheckIn outcome) in
    told_manager (tells x (act s k x).0) (act s k x).0 (act s k x).1 ∙ ap (λ c. (acted (first_cause (c ∷ [])) s k x).0.manager) none

-- ---- room

one_due : (services : Option ℕ) → due_back services ≤ 1
one_due None = omega arith
one_due (Some pass) = omega arith

-- where room for the event's entry was kept
kept_stepped : (s : Moment) (k : ℕ) (e : Event) (len capacity after : ℕ) → IsKept s k e → Fits s.manager.passes len capacity → after ≤ len + 1
    → Fits (step s k e).0.manager.passes after capacity
kept_stepped s k e len capacity after (inl h) fits more =
    let now = step_manager s k e (ap service_of h.ends) in
    let held = ap (λ (m : JobManager). length m.passes.rules) now in
    let out = ap (λ (m : JobManager). due_back m.passes.services) now in
    let one = ended_held s.manager k e h in
    let same = ap due_back (ended_services s.manager k e h) in
    omega (arith, held, out, one, same, fits, more)
kept_stepped s k e len capacity after (inr h) fits more =
    let now = ap (λ x. (step s k x).0.manager) h.gives ∙ checked_in_manager s k h.outcome (not_refused s.manager.passes (may_end s.desk.serving h.outcome) k h.serving h.fits) in
    let held : length (step s k e).0.manager.passes.rules ≡ length s.manager.passes.rules = ap (λ (m : JobManager). length m.passes.rules) now in
    let out : due_back (step s k e).0.manager.passes.services ≡ 0 = ap (λ (m : JobManager). due_back m.passes.services) now in
    let was : due_back s.manager.passes.services ≡ 1 = ap due_back h.serving in
    omega (arith, held, out, was, fits, more)

stepped : (s : Moment) (k : ℕ) (e : Event) (len capacity after : ℕ) → HasRoom s k e len capacity → after ≤ len + 1
    → Fits (step s k e).0.manager.passes after capacity
stepped s k e len capacity after (inl room) more =
    let held = held_after s k e in
    let out = one_due (step s k e).0.manager.passes.services in
    omega (arith, held, out, room, more)
stepped s k e len capacity after (inr h) more = kept_stepped s k e len capacity after h.0 h.1 more

-- there is room after a step whose entry was written, and where nothing was done
pub room_after : {E : Type 0} (r : Result (Twice Reply) E) (w : Bool) (s t : Moment) (k : ℕ) (e : Event) (len capacity after now : ℕ)
    → IfOk r (λ x. (t, x) ≡ doubled w (step s k e)) → OnErr r (t ≡ s) → HasRoom s k e len capacity → Fits s.manager.passes len capacity
    → after ≤ len + 1 → OnErr r (after ≡ len) → now ≡ capacity → Fits t.manager.passes after now
room_after (Ok x) w s t k e len capacity after now ok err room fits more same whole =
    subst (Fits t.manager.passes after) (sym whole)
    (subst (λ (z : Moment). Fits z.manager.passes after capacity) (sym (ap (λ d. d.0) ok)) (stepped s k e len capacity after room more))
room_after (Err x) w s t k e len capacity after now ok err room fits more same whole =
    subst (Fits t.manager.passes after) (sym whole)
    (subst (λ (z : Moment). Fits z.manager.passes after capacity) (sym err) (subst (λ n. Fits s.manager.passes n capacity) (sym same) fits))
