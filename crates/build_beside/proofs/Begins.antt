-- How a build beside others begins, as its book has it.
use Rattle.std.proofs.Common.{◌≡◌, ◌≤◌, ◌+◌, ◌==◌, inl, inr, ℕ, true, false, cond, not, List, [], ◌∷◌, ◌++◌, map, length, take, drop, Option, Some, None, IfSome, refl, sym, ap, ◌∙◌, subst, arith, rules, append_assoc, append-nil, length-append}
use Rattle.std.specs.Prelude.{is_some}
use Rattle.std.specs.Option.{option_map, option_eq}
use Rattle.std.specs.FinMap.{get, get-insert}
use Rattle.std.proofs.lemmas.Cmp.{nat_cmp_total}
use Rattle.std.specs.List.{list_any}
use Rattle.std.specs.Str.{bytes_eq}
use Rattle.res_path.specs.Paths.{Names}
use Rattle.res_path.proofs.Spelled.{both}
use Rattle.proj_desc.specs.FirstCause.{first_cause}
use Rattle.sched_rules.specs.declared.ws_atom.WsAtom.{WsAtom}
use Rattle.job_queue.specs.Changed.{put_if}
use Rattle.job_queue.proofs.Found.{itself}
use Rattle.pass_table.specs.declared.pass.Pass.{Pass}
use Rattle.pass_table.specs.Passes.{Passes, batches_in, batches_of, has_pass, serves}
use Rattle.pass_table.specs.Rows.{with_batches}
use Rattle.pass_table.specs.Rows as rows
use Rattle.builder_api.specs.declared.kind.BuildKind.{BuildKind}
use Rattle.builder_api.specs.declared.plan.Plan.{Plan}
use Rattle.builder_api.specs.Told.{Told}
use Rattle.build_laws.specs.States.{Descs, State}
use Rattle.build_laws.specs.Planned.{IsPlanned}
use Rattle.build_laws.specs.Builds.{Project as Listed}
use Rattle.build_plan.specs.Plans.{plan}
use Rattle.build_run.specs.declared.answers.Started.{Started}
use Rattle.build_run.specs.declared.answers.Started.TheVariants as started
use Rattle.build_run.specs.Books as books
use Rattle.build_run.specs.Books.{Deed, at}
use Rattle.build_run.specs.Starts.{Begins, Fails, Stops}
use Rattle.core_event.specs.declared.entry.Entry.{Entry}
use Rattle.core_event.specs.declared.event.Event.{Event}
use Rattle.core_event.specs.declared.event.Event.TheVariants as events
use Rattle.core_event.specs.declared.event.Event.TheVariants.{Service}
use Rattle.core_event.specs.declared.reply.Answer.{Answer}
use Rattle.core_event.specs.declared.reply.Refusal.{Refusal}
use Rattle.core_event.specs.declared.service.Purpose.TheVariants.{Build}
use Rattle.core_event.specs.declared.service.ServiceEvent.TheVariants.{Checkout}
use Rattle.core_event.specs.Events.{service_of}
use Rattle.core_event.specs.Replies.{refusal_number}
use Rattle.job_manager.specs.declared.manager.JobManager.{JobManager}
use Rattle.service_desk.specs.Refusals.{root_rule, scope_causes, services_out, unrooted}
use Rattle.ws_core.specs.States.{Moment}
use Rattle.ws_core.specs.Histories.{entered, entry_of, has_entered, replay}
use Rattle.ws_core.specs.Refusals.{service_causes}
use Rattle.ws_core.specs.Steps.{step}
use Rattle.ws_core.proofs.Grown.{entered_append, replay_append}
use Rattle.ws_turn.specs.Lists.{of}
use Rattle.run_order.proofs.Managed.{step_services}
use Rattle.pass_history.proofs.Serving.{first_none}
use Rattle.build_core.specs.States.{state_of}
use Rattle.build_core.specs.Histories.{deed_of, entries_of, may_build, number_of, started_of}
use Rattle.build_core.proofs.Checkouts.{checkout_leaves, checkout_planned}
use Rattle.build_core.proofs.Holding.{batch_leaves, checkout_rooted, checkout_serves}
use Rattle.build_core.proofs.Leaves.{refused}
use Rattle.build_history.proofs.Names.{replay_names}
use Rattle.build_host.specs.Hosts.{checkout}
use Rattle.build_host.proofs.Growing.{mine_grows, since_grows}
use Rattle.build_host.proofs.Lists.{drop_all}
use Rattle.build_beside.specs.Turns.{Answered, IsOpening, Made, pass_of, session}
use Rattle.build_beside.specs.Beside.{book_in}
use Rattle.build_beside.specs.UnderWay.{HasBegun}
use Rattle.build_beside.proofs.Batches.{others_batches}
use Rattle.build_beside.proofs.Books.{mine_aside, since_aside}
use Rattle.build_beside.proofs.Others.{may_of, others_serve}
use Rattle.build_beside.proofs.Turns.{made_below, made_steps, replay_sound}

more : {X : Type 0} (a b c ds : List X) (d : X) → b ≡ a ++ ds → c ≡ b ++ d ∷ [] → c ≡ a ++ (ds ++ d ∷ [])
more a b c ds d p q = q ∙ ap (λ z. z ++ d ∷ []) p ∙ append_assoc a ds (d ∷ [])

-- the pass has one batch more open after it began one
batch_opens : (p : Passes WsAtom) (n : ℕ) → has_pass p n ≡ true → (batches_of (rows.in_batch p n) n == 0) ≡ false
batch_opens p n there = by (get p.there n) refl there
  where
    open_row : Pass → Pass
    open_row pass = with_batches (pass.batches + 1) pass

    more_than : (m : ℕ) → (m + 1 == 0) ≡ false
    more_than m = search rules

    by : (o : Option Pass) → get p.there n ≡ o → is_some o ≡ true → (batches_in (get (put_if p.there n (option_map open_row o)) n) == 0) ≡ false
    by None is h = cc
    by (Some pass) is h =
        ap (λ o. batches_in o == 0) (get-insert nat_cmp_total p.there n (open_row pass) n ∙ ap (λ b. cond b (Some (open_row pass)) (get p.there n)) (itself nat_cmp_total n))
        ∙ more_than pass.batches

-- ---- the entries of a build, one by one

module _ (n : ℕ) (s : Moment) (opening : IsOpening s) where
  -- those of the pass in a history
  abbrev pub mine : List Entry → List books.Entry
  mine h = entries_of n s h

  -- the state that an event found
  abbrev pub met : (e : Event) (a : Answer) (g h : List Entry) → Answered n e s a g h → Moment
  met e a g h x = replay s (g ++ x.made.between)

  pub did_mine : (e : Event) (deed : Deed) (a : Answer) (g h : List Entry) (x : Answered n e s a g h) → deed_of e a ≡ Some deed → mine h ≡ mine g ++ at (state_of (met e a g h x)) deed ∷ []
  did_mine e deed a g h x did =
      mine_grows n e deed (session s (g ++ x.made.between)) (session s h) (made_steps n e s g h opening x.made) (ap (deed_of e) (sym x.told) ∙ did)
      ∙ ap (λ z. z ++ at (state_of (met e a g h x)) deed ∷ []) (mine_aside n s g x.made.between x.made.others)

  did_since : (start : ℕ) (e : Event) (deed : Deed) (a : Answer) (g h : List Entry) (x : Answered n e s a g h) → start ≤ length g → deed_of e a ≡ Some deed
      → entries_of n (replay s (take start h)) (drop start h) ≡ entries_of n (replay s (take start g)) (drop start g) ++ at (state_of (met e a g h x)) deed ∷ []
  did_since start e deed a g h x le did =
      let longer = length-append g x.made.between in
      since_grows n start e deed (session s (g ++ x.made.between)) (session s h) (omega (arith, le, longer)) (made_steps n e s g h opening x.made) (ap (deed_of e) (sym x.told) ∙ did)
      ∙ ap (λ z. z ++ at (state_of (met e a g h x)) deed ∷ []) (since_aside n start s g x.made.between le x.made.others)

  pub made_longer : (e : Event) (g h : List Entry) → Made n e s g h → length g ≤ length h
  made_longer e g h m =
      let x = entry_of (replay s (g ++ m.between)) n e in
      let one = ap length m.are ∙ length-append (g ++ m.between) (x ∷ []) in
      let two = length-append g m.between in
      omega (arith, one, two)

  made_state : (e : Event) (g h : List Entry) (m : Made n e s g h) → replay s h ≡ (step (replay s (g ++ m.between)) n e).0
  made_state e g h m = (made_steps n e s g h opening m).state

  made_there : (e : Event) (g h : List Entry) (m : Made n e s g h) → has_entered n (replay s (g ++ m.between)) ≡ true
  made_there e g h m =
      let f = g ++ m.between in
      let x = entry_of (replay s f) n e in
      (both (has_entered n (replay s f)) true (both (entered s f) (entered (replay s f) (x ∷ [])) (sym (entered_append s f (x ∷ [])) ∙ (ap (entered s) (sym m.are) ∙ m.legal.entered))).1).0

  -- whether it has the services stays where it asks nothing of them
  serves_aside : (g between : List Entry) → of pass_of n between ≡ [] → serves (replay s (g ++ between)).manager.passes n ≡ serves (replay s g).manager.passes n
  serves_aside g between none = ap (λ z. serves z.manager.passes n) (replay_append s g between) ∙ others_serve (replay s g) n between none

  pub plain_serves : (e : Event) (g h : List Entry) → service_of e ≡ None → Made n e s g h → serves (replay s h).manager.passes n ≡ serves (replay s g).manager.passes n
  plain_serves e g h plain m =
      ap (λ z. serves z.manager.passes n) (made_state e g h m)
      ∙ (ap (λ (o : Option ℕ). option_eq (λ a b. a == b) o (Some n)) (step_services (replay s (g ++ m.between)) n e plain)
      ∙ serves_aside g m.between m.others)

  -- ---- the first steps of a build

  module _ (a0 : Answer) (g0 g1 : List Entry) (x0 : Answered n (events.Begin root_rule) s a0 g0 g1) where
    pub refused_mine : (number : ℕ) → number_of a0 ≡ Some number → mine g1 ≡ mine g0 ++ at (state_of (met (events.Begin root_rule) a0 g0 g1 x0)) (books.Begin (Some number)) ∷ []
    refused_mine number is = did_mine (events.Begin root_rule) (books.Begin (Some number)) a0 g0 g1 x0 (ap (λ o. Some (books.Begin o)) is)

    module _ (done : number_of a0 ≡ None) where
      abbrev first : State
      first = state_of (met (events.Begin root_rule) a0 g0 g1 x0)

      begun_mine : mine g1 ≡ mine g0 ++ at first (books.Begin None) ∷ []
      begun_mine = did_mine (events.Begin root_rule) (books.Begin None) a0 g0 g1 x0 (ap (λ o. Some (books.Begin o)) done)

      module _ (a1 : Answer) (g2 : List Entry) (x1 : Answered n events.Batch s a1 g1 g2) where
        abbrev second : State
        second = state_of (met events.Batch a1 g1 g2 x1)

        batched_mine : mine g2 ≡ mine g0 ++ (at first (books.Begin None) ∷ at second books.Batch ∷ [])
        batched_mine = more (mine g0) (mine g1) (mine g2) (at first (books.Begin None) ∷ []) (at second books.Batch) begun_mine (did_mine events.Batch books.Batch a1 g1 g2 x1 refl)

        module _ (kind : BuildKind) (scope : Option (List ℕ)) (a2 : Answer) (g3 : List Entry) (x2 : Answered n (checkout kind scope) s a2 g2 g3) where
          abbrev asked : Moment
          asked = met (checkout kind scope) a2 g2 g3 x2

          asked_mine : (answer : Started) → started_of a2 ≡ Some answer → mine g3 ≡ mine g0 ++ (at first (books.Begin None) ∷ at second books.Batch ∷ at (state_of asked) (books.Checkout kind scope answer) ∷ [])
          asked_mine answer is =
              more (mine g0) (mine g2) (mine g3) (at first (books.Begin None) ∷ at second books.Batch ∷ []) (at (state_of asked) (books.Checkout kind scope answer)) batched_mine
              (did_mine (checkout kind scope) (books.Checkout kind scope answer) a2 g2 g3 x2 (ap (option_map (λ z. books.Checkout kind scope z)) is))

          -- the checkout was refused, and the build ends
          module _ (number : ℕ) (is : started_of a2 ≡ Some (started.Refused number)) where
            refused_serves : serves (replay s g3).manager.passes n ≡ serves (replay s g2).manager.passes n
            refused_serves =
                ap (λ z. serves z.manager.passes n) (made_state (checkout kind scope) g2 g3 x2.made)
                ∙ (by (first_cause (service_causes asked n (Checkout (Build kind scope)))) refl ∙ serves_aside g2 x2.made.between x2.made.others)
              where
                by : (r : Option Refusal) → first_cause (service_causes asked n (Checkout (Build kind scope))) ≡ r → serves (step asked n (checkout kind scope)).0.manager.passes n ≡ serves asked.manager.passes n
                by None none =
                    let got : Some (started.Plan (plan asked.resources.tree scope)) ≡ Some (started.Refused number) = sym (ap started_of (x2.told ∙ (checkout_leaves asked n kind scope none).answer)) ∙ is in
                    cc
                by (Some r) some = ap (λ (m : JobManager). serves m.passes n) (refused asked n (Checkout (Build kind scope)) r some).manager

            module _ (a3 : Answer) (g4 : List Entry) (x3 : Answered n events.EndBatch s a3 g3 g4) where
              batch_ended_mine : mine g4 ≡ mine g0 ++ (at first (books.Begin None) ∷ at second books.Batch ∷ at (state_of asked) (books.Checkout kind scope (started.Refused number)) ∷ at (state_of (met events.EndBatch a3 g3 g4 x3)) books.EndBatch ∷ [])
              batch_ended_mine =
                  more (mine g0) (mine g3) (mine g4) (at first (books.Begin None) ∷ at second books.Batch ∷ at (state_of asked) (books.Checkout kind scope (started.Refused number)) ∷ []) (at (state_of (met events.EndBatch a3 g3 g4 x3)) books.EndBatch)
                  (asked_mine (started.Refused number) is) (did_mine events.EndBatch books.EndBatch a3 g3 g4 x3 refl)

              pub fails_ended : (i j : ℕ) (c b told : List Told) → Fails kind scope (book_in s n i c told g0) (book_in s n j b told g4)
              fails_ended i j c b told = record {
                entries = at first (books.Begin None) ∷ at second books.Batch ∷ at (state_of asked) (books.Checkout kind scope (started.Refused number)) ∷ at (state_of (met events.EndBatch a3 g3 g4 x3)) books.EndBatch ∷ [];
                mine = batch_ended_mine;
                told = refl;
                rest = at first books.End ∷ [];
                number = number;
                stopped = inr (first, second, state_of asked, state_of (met events.EndBatch a3 g3 g4 x3), first, refl);
              }

              pub stops_later : (a4 : Answer) (g5 : List Entry) (x4 : Answered n (events.End root_rule) s a4 g4 g5) (i j : ℕ) (c b told : List Told) → Stops kind scope (book_in s n i c told g0) number (book_in s n j b told g5)
              stops_later a4 g5 x4 i j c b told =
                  let last = state_of (met (events.End root_rule) a4 g4 g5 x4) in record {
                    entries = at first (books.Begin None) ∷ at second books.Batch ∷ at (state_of asked) (books.Checkout kind scope (started.Refused number)) ∷ at (state_of (met events.EndBatch a3 g3 g4 x3)) books.EndBatch ∷ at last books.End ∷ [];
                    mine = more (mine g0) (mine g4) (mine g5)
                        (at first (books.Begin None) ∷ at second books.Batch ∷ at (state_of asked) (books.Checkout kind scope (started.Refused number)) ∷ at (state_of (met events.EndBatch a3 g3 g4 x3)) books.EndBatch ∷ []) (at last books.End)
                        batch_ended_mine (did_mine (events.End root_rule) books.End a4 g4 g5 x4 refl);
                    told = refl;
                    home = ap not (plain_serves (events.End root_rule) g4 g5 refl x4.made ∙ (plain_serves events.EndBatch g3 g4 refl x3.made ∙ (refused_serves
                        ∙ (plain_serves events.Batch g1 g2 refl x1.made ∙ plain_serves (events.Begin root_rule) g0 g1 refl x0.made))));
                    stopped = inr (first, second, state_of asked, state_of (met events.EndBatch a3 g3 g4 x3), last, refl);
                  }

            pub fails_refused : (i j : ℕ) (c b told : List Told) → Fails kind scope (book_in s n i c told g0) (book_in s n j b told g3)
            fails_refused i j c b told = record {
              entries = at first (books.Begin None) ∷ at second books.Batch ∷ at (state_of asked) (books.Checkout kind scope (started.Refused number)) ∷ [];
              mine = asked_mine (started.Refused number) is;
              told = refl;
              rest = at first books.EndBatch ∷ at first books.End ∷ [];
              number = number;
              stopped = inr (first, second, state_of asked, first, first, refl);
            }

          -- ---- the checkout gave a plan

          module _ (p : Plan) (is : started_of a2 ≡ Some (started.Plan p)) where
            none : first_cause (service_causes asked n (Checkout (Build kind scope))) ≡ None
            none = by (first_cause (service_causes asked n (Checkout (Build kind scope)))) refl
              where
                by : (r : Option Refusal) → first_cause (service_causes asked n (Checkout (Build kind scope))) ≡ r → first_cause (service_causes asked n (Checkout (Build kind scope))) ≡ None
                by None e = e
                by (Some r) e =
                    let got : Some (started.Refused (refusal_number r)) ≡ Some (started.Plan p) = sym (ap started_of (x2.told ∙ (refused asked n (Checkout (Build kind scope)) r e).answer)) ∙ is in
                    cc

            rooted : unrooted asked.manager.passes.rules n ≡ None
            rooted = first_none (unrooted asked.manager.passes.rules n) (services_out asked.manager.passes ∷ scope_causes asked.resources.tree scope) none

            open_then : (batches_of asked.manager.passes n == 0) ≡ false
            open_then =
                let f = replay s (g1 ++ x1.made.between) in
                ap (λ z. batches_of z.manager.passes n == 0) (replay_append s g2 x2.made.between)
                ∙ (ap (λ b. b == 0) (others_batches (replay s g2) n x2.made.between x2.made.others (made_below n events.Batch s g1 g2 opening x1.made))
                ∙ (ap (λ z. batches_of z.manager.passes n == 0) (made_state events.Batch g1 g2 x1.made)
                ∙ (ap (λ (m : JobManager). batches_of m.passes n == 0) (batch_leaves f n).manager ∙ batch_opens f.manager.passes n (made_there events.Batch g1 g2 x1.made))))

            pub may_then : may_build (replay s g3) n ≡ true
            may_then = ap (λ z. may_build z n) (made_state (checkout kind scope) g2 g3 x2.made) ∙ may_of (step asked n (checkout kind scope)).0 n
                (checkout_serves asked n kind scope none)
                (checkout_rooted asked n kind scope none rooted)
                (ap (λ (m : JobManager). batches_of m.passes n == 0) (checkout_leaves asked n kind scope none).manager ∙ open_then)

            now : state_of (replay s g3) ≡ state_of asked
            now = ap state_of (made_state (checkout kind scope) g2 g3 x2.made) ∙ (checkout_leaves asked n kind scope none).state

            same : plan asked.resources.tree scope ≡ p
            same =
                let got : Some (started.Plan (plan asked.resources.tree scope)) ≡ Some (started.Plan p) = sym (ap started_of (x2.told ∙ (checkout_leaves asked n kind scope none).answer)) ∙ is in
                cc

            planned : (gs : List (List Listed)) × IsPlanned (state_of asked).descs (plan asked.resources.tree scope).order (plan asked.resources.tree scope).knots gs
                × IfSome scope (λ name. map (λ q. q.0) (plan asked.resources.tree scope).order ≡ name ∷ [])
            planned = checkout_planned asked n kind scope (replay_sound s (g2 ++ x2.made.between) opening.sound) none

            since : entries_of n (replay s (take (length g0) g3)) (drop (length g0) g3)
                ≡ at first (books.Begin None) ∷ at second books.Batch ∷ at (state_of asked) (books.Checkout kind scope (started.Plan p)) ∷ []
            since =
                let one = made_longer (events.Begin root_rule) g0 g1 x0.made in
                let two = made_longer events.Batch g1 g2 x1.made in
                did_since (length g0) (checkout kind scope) (books.Checkout kind scope (started.Plan p)) a2 g2 g3 x2 (omega (arith, one, two)) (ap (option_map (λ z. books.Checkout kind scope z)) is)
                ∙ ap (λ z. z ++ at (state_of asked) (books.Checkout kind scope (started.Plan p)) ∷ []) (did_since (length g0) events.Batch books.Batch a1 g1 g2 x1 one refl)
                ∙ ap (λ z. (z ++ at second books.Batch ∷ []) ++ at (state_of asked) (books.Checkout kind scope (started.Plan p)) ∷ [])
                (did_since (length g0) (events.Begin root_rule) (books.Begin None) a0 g0 g1 x0 (omega arith) (ap (λ o. Some (books.Begin o)) done))
                ∙ ap (λ z. ((z ++ at first (books.Begin None) ∷ []) ++ at second books.Batch ∷ []) ++ at (state_of asked) (books.Checkout kind scope (started.Plan p)) ∷ [])
                (ap (entries_of n (replay s (take (length g0) g0))) (drop_all g0))

            pub begun_entries : HasBegun kind scope s n g0 g3
            begun_entries = record { first = first; second = second; third = state_of asked; plan = p; are = asked_mine (started.Plan p) is }

            pub begins : (i : ℕ) (c told : List Told) → Begins kind scope (book_in s n i c told g0) p (book_in s n (length g0) told told g3)
            begins i c told = record {
              first = first;
              second = second;
              since = since ∙ (λ k. at first (books.Begin None) ∷ at second books.Batch ∷ at (sym now k) (books.Checkout kind scope (started.Plan p)) ∷ []);
              mine = asked_mine (started.Plan p) is ∙ ap (λ z. mine g0 ++ z) (sym since);
              began = refl;
              told = refl;
              serving = may_then;
              has = ap (λ (names : Names). λ (name : List ℕ). list_any (bytes_eq name) names) (replay_names s g3 ∙ sym (replay_names s g0));
              groups = planned.0;
              planned = subst (λ (d : Descs). IsPlanned d p.order p.knots planned.0) (sym (ap (λ (z : State). z.descs) now)) (subst (λ (z : Plan). IsPlanned (state_of asked).descs z.order z.knots planned.0) same planned.1);
              one = subst (λ (z : Plan). IfSome scope (λ name. map (λ q. q.0) z.order ≡ name ∷ [])) same planned.2;
            }

        pub fails_batched : (kind : BuildKind) (scope : Option (List ℕ)) (i j : ℕ) (c b told : List Told) → Fails kind scope (book_in s n i c told g0) (book_in s n j b told g2)
        fails_batched kind scope i j c b told = record {
          entries = at first (books.Begin None) ∷ at second books.Batch ∷ [];
          mine = batched_mine;
          told = refl;
          rest = at first (books.Checkout kind scope (started.Refused 15)) ∷ at first books.EndBatch ∷ at first books.End ∷ [];
          number = 15;
          stopped = inr (first, second, first, first, first, refl);
        }

      pub fails_begun : (kind : BuildKind) (scope : Option (List ℕ)) (i j : ℕ) (c b told : List Told) → Fails kind scope (book_in s n i c told g0) (book_in s n j b told g1)
      fails_begun kind scope i j c b told = record {
        entries = at first (books.Begin None) ∷ [];
        mine = begun_mine;
        told = refl;
        rest = at first books.Batch ∷ at first (books.Checkout kind scope (started.Refused 15)) ∷ at first books.EndBatch ∷ at first books.End ∷ [];
        number = 15;
        stopped = inr (first, first, first, first, first, refl);
      }

    -- the beginning was refused
    pub stops_at_once : (kind : BuildKind) (scope : Option (List ℕ)) (number : ℕ) → number_of a0 ≡ Some number → (i j : ℕ) (c b told : List Told) → Stops kind scope (book_in s n i c told g0) number (book_in s n j b told g1)
    stops_at_once kind scope number is i j c b told = record {
      entries = at (state_of (met (events.Begin root_rule) a0 g0 g1 x0)) (books.Begin (Some number)) ∷ [];
      mine = refused_mine number is;
      told = refl;
      home = ap not (plain_serves (events.Begin root_rule) g0 g1 refl x0.made);
      stopped = inl (state_of (met (events.Begin root_rule) a0 g0 g1 x0), refl);
    }

  -- memory wanted before anything was done
  pub fails_none : (g0 : List Entry) (kind : BuildKind) (scope : Option (List ℕ)) (i j : ℕ) (c b told : List Told) → Fails kind scope (book_in s n i c told g0) (book_in s n j b told g0)
  fails_none g0 kind scope i j c b told = record {
    entries = [];
    mine = sym (append-nil (mine g0));
    told = refl;
    rest = at (state_of s) (books.Begin (Some 15)) ∷ [];
    number = 15;
    stopped = inl (state_of s, refl);
  }
