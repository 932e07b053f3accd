-- How a build of the one worker begins, as its book has it.
use Rattle.std.proofs.Common.{◌≡◌, inl, inr, ℕ, ◌≤◌, true, false, not, ◌==◌, ◌&&◌, List, [], ◌∷◌, ◌++◌, map, length, take, drop, Option, Some, None, IfSome, refl, sym, ap, ◌∙◌, subst, arith, append_assoc, append-nil}
use Rattle.std.specs.Prelude.{is_none}
use Rattle.std.specs.Option.{option_map}
use Rattle.proj_desc.specs.FirstCause.{first_cause}
use Rattle.builder_api.specs.declared.kind.BuildKind.{BuildKind}
use Rattle.builder_api.specs.declared.plan.Plan.{Plan}
use Rattle.builder_api.specs.Told.{Told}
use Rattle.build_laws.specs.States.{Descs, State}
use Rattle.build_laws.specs.Planned.{IsPlanned}
use Rattle.build_laws.specs.Builds.{Project as Listed}
use Rattle.res_path.specs.Paths.{Names}
use Rattle.std.specs.List.{list_any}
use Rattle.std.specs.Str.{bytes_eq}
use Rattle.build_plan.specs.Plans.{plan}
use Rattle.build_run.specs.declared.answers.Started.{Started}
use Rattle.build_run.specs.declared.answers.Started.TheVariants as started
use Rattle.build_run.specs.Books.{at}
use Rattle.build_run.specs.Books as books
use Rattle.build_run.specs.Starts.{Begins, Fails, Stops}
use Rattle.core_event.specs.declared.event.Event.{Event}
use Rattle.core_event.specs.declared.event.Event.TheVariants as events
use Rattle.core_event.specs.Events.{service_of}
use Rattle.core_event.specs.declared.event.Event.TheVariants.{Service}
use Rattle.core_event.specs.declared.reply.Answer.TheVariants as answers
use Rattle.core_event.specs.declared.reply.Refusal.{Refusal}
use Rattle.core_event.specs.declared.service.Purpose.TheVariants.{Build}
use Rattle.core_event.specs.declared.service.ServiceEvent.TheVariants.{Checkout}
use Rattle.core_event.specs.Replies.{refusal_number}
use Rattle.job_manager.specs.declared.manager.JobManager.{JobManager}
use Rattle.job_manager.specs.Admission.{admission}
use Rattle.job_manager.specs.Effects as managing
use Rattle.pass_table.specs.Passes.{batches_of}
use Rattle.service_desk.specs.Desks.{is_building}
use Rattle.service_desk.specs.Refusals.{not_serving, root_rule, unrooted}
use Rattle.ws_core.specs.States.{Moment}
use Rattle.ws_core.specs.Histories.{has_entered, replay}
use Rattle.ws_core.specs.Refusals.{service_causes}
use Rattle.ws_core.specs.Sessions.{Session}
use Rattle.ws_core.specs.Steps.{step}
use Rattle.build_core.specs.States.{state_of}
use Rattle.build_core.specs.Histories.{book_of, entries_of, may_build, number_of, started_of, Steps}
use Rattle.build_core.proofs.Checkouts.{checkout_leaves, checkout_planned}
use Rattle.build_core.proofs.Holding.{batch_leaves, batch_rooted, begin_rooted, checkout_rooted, checkout_serves}
use Rattle.build_core.proofs.Leaves.{managed_leaves, refused}
use Rattle.run_order.proofs.Managed.{step_services}
use Rattle.build_host.specs.Hosts.{Asked, checkout}
use Rattle.build_host.proofs.Batches.{batch_open}
use Rattle.build_host.proofs.Growing.{length_after, mine_grows, since_grows}
use Rattle.build_host.proofs.Handing.{Serving}
use Rattle.build_history.proofs.Names.{step_names}
use Rattle.build_host.proofs.Keeping.{step_keeps}
use Rattle.build_host.proofs.Lists.{drop_all}

-- the entries of the worker
abbrev pub mine : Session → List books.Entry
mine x = entries_of 1 x.opened x.history

-- one after others
more : {X : Type 0} (a b c ds : List X) (d : X) → b ≡ a ++ ds → c ≡ b ++ d ∷ [] → c ≡ a ++ (ds ++ d ∷ [])
more a b c ds d p q = q ∙ ap (λ z. z ++ d ∷ []) p ∙ append_assoc a ds (d ∷ [])

-- the first steps of a build: its rule is begun, and a batch
pub record Begun (x m : Session) : Type 0 where
  pub steps : Steps 1 (events.Begin root_rule) x m
  pub done : number_of (step x.state 1 (events.Begin root_rule)).1.answer ≡ None

pub record Batched (x m n : Session) : Type 0 where
  pub begun : Begun x m
  pub steps : Steps 1 events.Batch m n

begun_mine : (x m : Session) → Begun x m → mine m ≡ mine x ++ at (state_of x.state) (books.Begin None) ∷ []
begun_mine x m h = mine_grows 1 (events.Begin root_rule) (books.Begin None) x m h.steps (ap (λ o. Some (books.Begin o)) h.done)

batched_mine : (x m n : Session) → Batched x m n → mine n ≡ mine x ++ (at (state_of x.state) (books.Begin None) ∷ at (state_of m.state) books.Batch ∷ [])
batched_mine x m n h = more (mine x) (mine m) (mine n) (at (state_of x.state) (books.Begin None) ∷ []) (at (state_of m.state) books.Batch) (begun_mine x m h.begun) (mine_grows 1 events.Batch books.Batch m n h.steps refl)

asked_mine : (kind : BuildKind) (scope : Option (List ℕ)) (x m n p : Session) (answer : Started) → Batched x m n → Asked kind scope n p answer
    → mine p ≡ mine x ++ (at (state_of x.state) (books.Begin None) ∷ at (state_of m.state) books.Batch ∷ at (state_of n.state) (books.Checkout kind scope answer) ∷ [])
asked_mine kind scope x m n p answer h g =
    more (mine x) (mine n) (mine p) (at (state_of x.state) (books.Begin None) ∷ at (state_of m.state) books.Batch ∷ []) (at (state_of n.state) (books.Checkout kind scope answer)) (batched_mine x m n h)
    (mine_grows 1 (checkout kind scope) (books.Checkout kind scope answer) n p g.steps (ap (option_map (λ z. books.Checkout kind scope z)) g.answered))

batch_ended_mine : (kind : BuildKind) (scope : Option (List ℕ)) (x m n p q : Session) (answer : Started) → Batched x m n → Asked kind scope n p answer → Steps 1 events.EndBatch p q
    → mine q ≡ mine x ++ (at (state_of x.state) (books.Begin None) ∷ at (state_of m.state) books.Batch ∷ at (state_of n.state) (books.Checkout kind scope answer) ∷ at (state_of p.state) books.EndBatch ∷ [])
batch_ended_mine kind scope x m n p q answer h g steps =
    more (mine x) (mine p) (mine q) (at (state_of x.state) (books.Begin None) ∷ at (state_of m.state) books.Batch ∷ at (state_of n.state) (books.Checkout kind scope answer) ∷ []) (at (state_of p.state) books.EndBatch)
    (asked_mine kind scope x m n p answer h g) (mine_grows 1 events.EndBatch books.EndBatch p q steps refl)

ended_mine : (kind : BuildKind) (scope : Option (List ℕ)) (x m n p q y : Session) (answer : Started) → Batched x m n → Asked kind scope n p answer → Steps 1 events.EndBatch p q → Steps 1 (events.End root_rule) q y
    → mine y ≡ mine x ++ (at (state_of x.state) (books.Begin None) ∷ at (state_of m.state) books.Batch ∷ at (state_of n.state) (books.Checkout kind scope answer) ∷ at (state_of p.state) books.EndBatch ∷ at (state_of q.state) books.End ∷ [])
ended_mine kind scope x m n p q y answer h g batch steps =
    more (mine x) (mine q) (mine y)
    (at (state_of x.state) (books.Begin None) ∷ at (state_of m.state) books.Batch ∷ at (state_of n.state) (books.Checkout kind scope answer) ∷ at (state_of p.state) books.EndBatch ∷ []) (at (state_of q.state) books.End)
    (batch_ended_mine kind scope x m n p q answer h g batch) (mine_grows 1 (events.End root_rule) books.End q y steps refl)

-- ---- memory wanted

pub fails_none : (kind : BuildKind) (scope : Option (List ℕ)) (j i : ℕ) (c b told : List Told) (x y : Session) → y ≡ x → Fails kind scope (book_of x 1 j c told) (book_of y 1 i b told)
fails_none kind scope j i c b told x y same = record {
  entries = [];
  mine = ap mine same ∙ sym (append-nil (mine x));
  told = refl;
  rest = at (state_of x.state) (books.Begin (Some 15)) ∷ [];
  number = 15;
  stopped = inl (state_of x.state, refl);
}

pub fails_begun : (kind : BuildKind) (scope : Option (List ℕ)) (j i : ℕ) (c b told : List Told) (x m y : Session) → Begun x m → y ≡ m → Fails kind scope (book_of x 1 j c told) (book_of y 1 i b told)
fails_begun kind scope j i c b told x m y h same = record {
  entries = at (state_of x.state) (books.Begin None) ∷ [];
  mine = ap mine same ∙ begun_mine x m h;
  told = refl;
  rest = at (state_of x.state) books.Batch ∷ at (state_of x.state) (books.Checkout kind scope (started.Refused 15)) ∷ at (state_of x.state) books.EndBatch ∷ at (state_of x.state) books.End ∷ [];
  number = 15;
  stopped = inr (state_of x.state, state_of x.state, state_of x.state, state_of x.state, state_of x.state, refl);
}

pub fails_batched : (kind : BuildKind) (scope : Option (List ℕ)) (j i : ℕ) (c b told : List Told) (x m n y : Session) → Batched x m n → y ≡ n → Fails kind scope (book_of x 1 j c told) (book_of y 1 i b told)
fails_batched kind scope j i c b told x m n y h same = record {
  entries = at (state_of x.state) (books.Begin None) ∷ at (state_of m.state) books.Batch ∷ [];
  mine = ap mine same ∙ batched_mine x m n h;
  told = refl;
  rest = at (state_of x.state) (books.Checkout kind scope (started.Refused 15)) ∷ at (state_of x.state) books.EndBatch ∷ at (state_of x.state) books.End ∷ [];
  number = 15;
  stopped = inr (state_of x.state, state_of m.state, state_of x.state, state_of x.state, state_of x.state, refl);
}

pub fails_refused : (kind : BuildKind) (scope : Option (List ℕ)) (j i : ℕ) (c b told : List Told) (x m n p y : Session) (number : ℕ) → Batched x m n → Asked kind scope n p (started.Refused number) → y ≡ p
    → Fails kind scope (book_of x 1 j c told) (book_of y 1 i b told)
fails_refused kind scope j i c b told x m n p y number h g same = record {
  entries = at (state_of x.state) (books.Begin None) ∷ at (state_of m.state) books.Batch ∷ at (state_of n.state) (books.Checkout kind scope (started.Refused number)) ∷ [];
  mine = ap mine same ∙ asked_mine kind scope x m n p (started.Refused number) h g;
  told = refl;
  rest = at (state_of x.state) books.EndBatch ∷ at (state_of x.state) books.End ∷ [];
  number = number;
  stopped = inr (state_of x.state, state_of m.state, state_of n.state, state_of x.state, state_of x.state, refl);
}

pub fails_ended : (kind : BuildKind) (scope : Option (List ℕ)) (j i : ℕ) (c b told : List Told) (x m n p q y : Session) (number : ℕ) → Batched x m n → Asked kind scope n p (started.Refused number) → Steps 1 events.EndBatch p q
    → y ≡ q → Fails kind scope (book_of x 1 j c told) (book_of y 1 i b told)
fails_ended kind scope j i c b told x m n p q y number h g steps same = record {
  entries = at (state_of x.state) (books.Begin None) ∷ at (state_of m.state) books.Batch ∷ at (state_of n.state) (books.Checkout kind scope (started.Refused number)) ∷ at (state_of p.state) books.EndBatch ∷ [];
  mine = ap mine same ∙ batch_ended_mine kind scope x m n p q (started.Refused number) h g steps;
  told = refl;
  rest = at (state_of x.state) books.End ∷ [];
  number = number;
  stopped = inr (state_of x.state, state_of m.state, state_of n.state, state_of p.state, state_of x.state, refl);
}

-- ---- the build was refused

abbrev pub services : Session → Option ℕ
services x = x.state.manager.passes.services

pub services_step : (e : Event) (x y : Session) → service_of e ≡ None → Steps 1 e x y → services y ≡ services x
services_step e x y plain steps = ap (λ (s : Moment). s.manager.passes.services) steps.state ∙ step_services x.state 1 e plain

-- a checkout is answered a plan, or refused
refused_services : (kind : BuildKind) (scope : Option (List ℕ)) (n p : Session) (number : ℕ) → Asked kind scope n p (started.Refused number) → services p ≡ services n
refused_services kind scope n p number g = by (first_cause (service_causes n.state 1 (Checkout (Build kind scope)))) refl
  where
    by : (r : Option Refusal) → first_cause (service_causes n.state 1 (Checkout (Build kind scope))) ≡ r → services p ≡ services n
    by None is =
        let got : Some (started.Plan (plan n.state.resources.tree scope)) ≡ Some (started.Refused number) = sym (ap started_of (checkout_leaves n.state 1 kind scope is).answer) ∙ g.answered in
        cc
    by (Some r) is = ap (λ (s : Moment). s.manager.passes.services) g.steps.state ∙ ap (λ (m : JobManager). m.passes.services) (refused n.state 1 (Checkout (Build kind scope)) r is).manager

pub stops_at_once : (kind : BuildKind) (scope : Option (List ℕ)) (j i : ℕ) (c b told : List Told) (x y : Session) (number : ℕ) → Steps 1 (events.Begin root_rule) x y
    → number_of (step x.state 1 (events.Begin root_rule)).1.answer ≡ Some number → Stops kind scope (book_of x 1 j c told) number (book_of y 1 i b told)
stops_at_once kind scope j i c b told x y number steps is = record {
  entries = at (state_of x.state) (books.Begin (Some number)) ∷ [];
  mine = mine_grows 1 (events.Begin root_rule) (books.Begin (Some number)) x y steps (ap (λ o. Some (books.Begin o)) is);
  told = refl;
  home = ap is_none (services_step (events.Begin root_rule) x y refl steps);
  stopped = inl (state_of x.state, refl);
}

pub stops_later : (kind : BuildKind) (scope : Option (List ℕ)) (j i : ℕ) (c b told : List Told) (x m n p q y : Session) (number : ℕ) → Batched x m n → Asked kind scope n p (started.Refused number)
    → Steps 1 events.EndBatch p q → Steps 1 (events.End root_rule) q y → Stops kind scope (book_of x 1 j c told) number (book_of y 1 i b told)
stops_later kind scope j i c b told x m n p q y number h g batch steps = record {
  entries = at (state_of x.state) (books.Begin None) ∷ at (state_of m.state) books.Batch ∷ at (state_of n.state) (books.Checkout kind scope (started.Refused number)) ∷ at (state_of p.state) books.EndBatch
      ∷ at (state_of q.state) books.End ∷ [];
  mine = ended_mine kind scope x m n p q y (started.Refused number) h g batch steps;
  told = refl;
  home = ap is_none (services_step (events.End root_rule) q y refl steps ∙ services_step events.EndBatch p q refl batch ∙ refused_services kind scope n p number g
      ∙ services_step events.Batch m n refl h.steps ∙ services_step (events.Begin root_rule) x m refl h.begun.steps);
  stopped = inr (state_of x.state, state_of m.state, state_of n.state, state_of p.state, state_of q.state, refl);
}

-- ---- the build begins

-- the book after these, where its build began with them
abbrev since : ℕ → Session → List books.Entry
since i x = entries_of 1 (replay x.opened (take i x.history)) (drop i x.history)

not_refused : (kind : BuildKind) (scope : Option (List ℕ)) (n y : Session) (p : Plan) → Asked kind scope n y (started.Plan p) → first_cause (service_causes n.state 1 (Checkout (Build kind scope))) ≡ None
not_refused kind scope n y p g = by (first_cause (service_causes n.state 1 (Checkout (Build kind scope)))) refl
  where
    by : (r : Option Refusal) → first_cause (service_causes n.state 1 (Checkout (Build kind scope))) ≡ r → first_cause (service_causes n.state 1 (Checkout (Build kind scope))) ≡ None
    by None is = is
    by (Some r) is =
        let got : Some (started.Refused (refusal_number r)) ≡ Some (started.Plan p) = sym (ap started_of (refused n.state 1 (Checkout (Build kind scope)) r is).answer) ∙ g.answered in
        cc

admitted : (x m : Session) → Begun x m → admission x.state.manager.passes.rules 1 root_rule ≡ None
admitted x m h = by (admission x.state.manager.passes.rules 1 root_rule) refl
  where
    by : (r : Option Refusal) → admission x.state.manager.passes.rules 1 root_rule ≡ r → admission x.state.manager.passes.rules 1 root_rule ≡ None
    by None is = is
    by (Some r) is =
        let answer : (step x.state 1 (events.Begin root_rule)).1.answer ≡ answers.Refused r =
        (managed_leaves x.state 1 (events.Begin root_rule) refl refl).answer ∙ ap (λ o. (managing.decided o x.state.manager 1 (events.Begin root_rule)).1) is in
        let got : Some (refusal_number r) ≡ None = sym (ap number_of answer) ∙ h.done in
        cc

may_from : (s : Moment) → Serving s 1 → unrooted s.manager.passes.rules 1 ≡ None → (batches_of s.manager.passes 1 == 0) ≡ false → may_build s 1 ≡ true
may_from s a b c = λ i. is_none (a i) && is_none (b i) && not (c i)

-- the services are out with the worker, which has the rule of the root and an open batch
pub may_then : (kind : BuildKind) (scope : Option (List ℕ)) (x m n y : Session) (p : Plan) → has_entered 1 x.state ≡ true → Batched x m n → Asked kind scope n y (started.Plan p) → may_build y.state 1 ≡ true
may_then kind scope x m n y p there h g =
    let none = not_refused kind scope n y p g in
    let at_m : unrooted m.state.manager.passes.rules 1 ≡ None = ap (λ (s : Moment). unrooted s.manager.passes.rules 1) h.begun.steps.state ∙ begin_rooted x.state 1 (admitted x m h.begun) in
    let at_n : unrooted n.state.manager.passes.rules 1 ≡ None = ap (λ (s : Moment). unrooted s.manager.passes.rules 1) h.steps.state ∙ batch_rooted m.state 1 at_m in
    let there_m : has_entered 1 m.state ≡ true = ap (λ (s : Moment). has_entered 1 s) h.begun.steps.state ∙ (step_keeps x.state (events.Begin root_rule) there tt).worker there in
    let open_n : (batches_of n.state.manager.passes 1 == 0) ≡ false =
    ap (λ (s : Moment). batches_of s.manager.passes 1 == 0) h.steps.state ∙ ap (λ (z : JobManager). batches_of z.passes 1 == 0) (batch_leaves m.state 1).manager ∙ batch_open m.state.manager.passes there_m in
    may_from y.state
    (ap (λ (s : Moment). not_serving s.manager.passes (is_building s.desk.serving) 1) g.steps.state ∙ checkout_serves n.state 1 kind scope none)
    (ap (λ (s : Moment). unrooted s.manager.passes.rules 1) g.steps.state ∙ checkout_rooted n.state 1 kind scope none at_n)
    (ap (λ (s : Moment). batches_of s.manager.passes 1 == 0) g.steps.state ∙ ap (λ (z : JobManager). batches_of z.passes 1 == 0) (checkout_leaves n.state 1 kind scope none).manager ∙ open_n)

pub opens : (kind : BuildKind) (scope : Option (List ℕ)) (j : ℕ) (c told : List Told) (x m n y : Session) (p : Plan) → has_entered 1 x.state ≡ true → Batched x m n → Asked kind scope n y (started.Plan p)
    → Begins kind scope (book_of x 1 j c told) p (book_of y 1 (length x.history) told told)
opens kind scope j c told x m n y p there h g = record {
  first = state_of x.state;
  second = state_of m.state;
  since = entries ∙ (λ i. at (state_of x.state) (books.Begin None) ∷ at (state_of m.state) books.Batch ∷ at (sym now i) (books.Checkout kind scope (started.Plan p)) ∷ []);
  mine = asked_mine kind scope x m n y (started.Plan p) h g ∙ ap (λ z. mine x ++ z) (sym entries);
  began = refl;
  told = refl;
  serving = may_then kind scope x m n y p there h g;
  has = ap (λ (names : Names). λ (name : List ℕ). list_any (bytes_eq name) names) names;
  groups = planned.0;
  planned = subst (λ (d : Descs). IsPlanned d p.order p.knots planned.0) (sym (ap (λ (s : State). s.descs) now)) (subst (λ (z : Plan). IsPlanned (state_of n.state).descs z.order z.knots planned.0) same planned.1);
  one = subst (λ (z : Plan). IfSome scope (λ name. map (λ q. q.0) z.order ≡ name ∷ [])) same planned.2;
}
  where
    none : first_cause (service_causes n.state 1 (Checkout (Build kind scope))) ≡ None
    none = not_refused kind scope n y p g

    now : state_of y.state ≡ state_of n.state
    now = ap state_of g.steps.state ∙ (checkout_leaves n.state 1 kind scope none).state

    same : plan n.state.resources.tree scope ≡ p
    same = let got : Some (started.Plan (plan n.state.resources.tree scope)) ≡ Some (started.Plan p) = sym (ap started_of (checkout_leaves n.state 1 kind scope none).answer) ∙ g.answered in cc

    planned : (gs : List (List Listed)) × IsPlanned (state_of n.state).descs (plan n.state.resources.tree scope).order (plan n.state.resources.tree scope).knots gs
        × IfSome scope (λ name. map (λ q. q.0) (plan n.state.resources.tree scope).order ≡ name ∷ [])
    planned = checkout_planned n.state 1 kind scope g.steps.sound none

    names : y.state.desk.builders ≡ x.state.desk.builders
    names =
        ap (λ (s : Moment). s.desk.builders) g.steps.state ∙ step_names n.state 1 (checkout kind scope)
        ∙ ap (λ (s : Moment). s.desk.builders) h.steps.state ∙ step_names m.state 1 events.Batch
        ∙ ap (λ (s : Moment). s.desk.builders) h.begun.steps.state ∙ step_names x.state 1 (events.Begin root_rule)

    first : length x.history ≤ length x.history
    first = omega arith

    second : length x.history ≤ length m.history
    second = let e = length_after 1 (events.Begin root_rule) x m h.begun.steps in omega (arith, e)

    third : length x.history ≤ length n.history
    third = let e = length_after 1 events.Batch m n h.steps in omega (arith, e, second)

    entries : since (length x.history) y ≡ at (state_of x.state) (books.Begin None) ∷ at (state_of m.state) books.Batch ∷ at (state_of n.state) (books.Checkout kind scope (started.Plan p)) ∷ []
    entries =
        since_grows 1 (length x.history) (checkout kind scope) (books.Checkout kind scope (started.Plan p)) n y third g.steps (ap (option_map (λ z. books.Checkout kind scope z)) g.answered)
        ∙ ap (λ z. z ++ at (state_of n.state) (books.Checkout kind scope (started.Plan p)) ∷ []) (since_grows 1 (length x.history) events.Batch books.Batch m n second h.steps refl)
        ∙ ap (λ z. (z ++ at (state_of m.state) books.Batch ∷ []) ++ at (state_of n.state) (books.Checkout kind scope (started.Plan p)) ∷ [])
        (since_grows 1 (length x.history) (events.Begin root_rule) (books.Begin None) x m first h.begun.steps (ap (λ o. Some (books.Begin o)) h.begun.done))
        ∙ ap (λ z. ((z ++ at (state_of x.state) (books.Begin None) ∷ []) ++ at (state_of m.state) books.Batch ∷ []) ++ at (state_of n.state) (books.Checkout kind scope (started.Plan p)) ∷ [])
        (ap (entries_of 1 (replay x.opened (take (length x.history) x.history))) (drop_all x.history))
