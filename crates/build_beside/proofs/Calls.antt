-- Builders were called for what the services were asked in a build beside others.
use Rattle.std.proofs.Common.{◌≡◌, ◌≢◌, inl, inr, ◌==◌, ℕ, Bool, true, false, if◌then◌else◌, eqb-true, true≢false, List, [], ◌∷◌, ◌++◌, map, Option, Some, None, refl, sym, ap, ◌∙◌, subst, append_assoc, append-nil, arith}
use Rattle.std.specs.Prelude.{option_and_then, slice_get}
use Rattle.std.specs.List.{AllByRecursion, flat_map}
use Rattle.std.specs.Option.{option_map, option_to_list}
use Rattle.proj_desc.specs.declared.command.Command.{Command}
use Rattle.proj_desc.specs.declared.desc.Desc.{Desc}
use Rattle.ws_elem.specs.Trees.{Tree}
use Rattle.builder_api.specs.declared.kind.BuildKind.{BuildKind}
use Rattle.builder_api.specs.declared.outcome.BuildOutcome.{BuildOutcome}
use Rattle.builder_api.specs.Meanings.{Meanings}
use Rattle.builder_api.specs.Told.{Built, Cleaned, Told}
use Rattle.build_due.specs.declared.site.Site.{Site}
use Rattle.build_due.specs.Sites.{site, site_at}
use Rattle.build_laws.specs.States.{Finds, item}
use Rattle.build_plan.specs.Descriptions.{desc_at}
use Rattle.build_run.specs.Books as books
use Rattle.build_run.specs.Books.{Book}
use Rattle.build_run.specs.Commands.{CameTo}
use Rattle.core_event.specs.declared.entry.Entry.{Entry}
use Rattle.core_event.specs.declared.event.Event.{Event}
use Rattle.core_event.specs.declared.event.Event.TheVariants.{Service}
use Rattle.core_event.specs.declared.reply.Answer.{Answer}
use Rattle.core_event.specs.declared.reply.Answer.TheVariants as answers
use Rattle.core_event.specs.declared.reply.Refusal.{Refusal}
use Rattle.core_event.specs.declared.reply.Reply.{Reply}
use Rattle.core_event.specs.declared.service.ServiceEvent.{ServiceEvent}
use Rattle.core_event.specs.declared.service.ServiceEvent.TheVariants as services
use Rattle.core_event.specs.Events.{service_of}
use Rattle.service_desk.specs.Desks.{is_building}
use Rattle.service_desk.specs.Sites.{site_in}
use Rattle.ws_core.specs.States.{Moment}
use Rattle.ws_core.specs.Histories.{Legal, after, replay}
use Rattle.ws_core.specs.Histories.{entry_of as entry_made}
use Rattle.ws_core.proofs.Grown.{replay_append}
use Rattle.ws_core.proofs.ServingPass.{serving_named}
use Rattle.ws_core.proofs.Stepped.{Concern, OfOperation, OfService, OfManager, concern_of}
use Rattle.ws_turn.specs.Lists.{of}
use Rattle.pass_turns.proofs.There.{others}
use Rattle.pass_history.specs.Served.{Served, served, served_by, services_of, site_named, was_done}
use Rattle.pass_history.proofs.Given.{replay_next}
use Rattle.pass_history.proofs.Serving.{IsQuiet, quiet_served}
use Rattle.pass_history.proofs.Standing.{OthersQuiet, others_stand}
use Rattle.build_core.specs.States.{state_of}
use Rattle.build_core.specs.Histories.{entries_of, entry_of, may_build}
use Rattle.build_core.proofs.Entered.{entries_append, others_add_none}
use Rattle.build_history.specs.Calls.{NamedCall, WereCalled, calls_for, calls_of, command_at}
use Rattle.build_history.specs.Calls as history
use Rattle.build_history.specs.Events.{IsBuilding}
use Rattle.build_history.proofs.Calls.{asked, call_of, calls_read, done_called, own_entry, plain_calls}
use Rattle.build_history.proofs.Keeping.{later_replies}
use Rattle.build_history.proofs.Lists.{all_append, flat_append, same_rest}
use Rattle.build_history.proofs.Went.{Works, went_works}
use Rattle.build_host.proofs.Handing.{it_serves}
use Rattle.build_beside.specs.Called.{calls_in, event_calls, service_calls}
use Rattle.build_beside.specs.Beside.{IsAside, MayReturn, book_in, check_in}
use Rattle.build_beside.specs.UnderWay.{CameThrough, HasBegun, IsLast, MayGoOn, WentAside, beginning}
use Rattle.build_beside.specs.Turns.{IsOpening, Looked, Made, pass_of}
use Rattle.build_beside.proofs.Books.{finds_on, mine_aside}
use Rattle.build_beside.proofs.Others.{Keeps}
use Rattle.build_beside.proofs.Turns.{keeps_between}

-- the entries of the pass in a history, as builds read them
abbrev mine : ℕ → Moment → List Entry → List books.Entry
mine n s h = entries_of n s h

-- ---- what one entry asks

-- the command at a place is the one that the site there has
placed_call : (t : Tree) (project : List ℕ) (index : ℕ) (f : Command → NamedCall) (g : Option Site → List NamedCall) → ((site : Site) → g (Some site) ≡ f site.command ∷ []) → g None ≡ []
    → g (site_in t project index) ≡ option_to_list (option_map f (command_at (desc_at t) project index))
placed_call t project index f g some none = by (desc_at t project)
  where
    of : (d : Desc) (o : Option Command) → g (option_map (λ (c : Command). site (item project index c) d.references) o) ≡ option_to_list (option_map f o)
    of d None = none
    of d (Some c) = some (site (item project index c) d.references)

    by : (o : Option Desc) → g (option_and_then (site_at project index) o) ≡ option_to_list (option_map f (option_and_then (λ (d : Desc). slice_get d.commands index) o))
    by None = none
    by (Some d) = of d (slice_get d.commands index)

refused_is : (a : Answer) → was_done a ≡ false → (r : Refusal) × (a ≡ answers.Refused r)
refused_is answers.Done h = absurd (true≢false h)
refused_is (answers.Id id) h = absurd (true≢false h)
refused_is (answers.Count count) h = absurd (true≢false h)
refused_is answers.None h = absurd (true≢false h)
refused_is (answers.Job name) h = absurd (true≢false h)
refused_is (answers.Seen seen) h = absurd (true≢false h)
refused_is (answers.Plan plan) h = absurd (true≢false h)
refused_is (answers.Handed handed) h = absurd (true≢false h)
refused_is (answers.Committed touched problems) h = absurd (true≢false h)
refused_is (answers.Refused r) h = (r, refl)

module _ (s : Moment) where
  handed_call : (project : List ℕ) (index : ℕ) (kind : BuildKind) (a : Answer)
      → service_calls (services.Handed project index kind) a (site_named s (services.Handed project index kind)) ≡ history.service_calls (desc_at s.resources.tree) (services.Handed project index kind) a
  handed_call project index kind answers.Done = refl
  handed_call project index kind (answers.Id id) = refl
  handed_call project index kind (answers.Count count) = refl
  handed_call project index kind answers.None = refl
  handed_call project index kind (answers.Job name) = refl
  handed_call project index kind (answers.Seen seen) = refl
  handed_call project index kind (answers.Plan plan) = refl
  handed_call project index kind (answers.Handed handed) =
      placed_call s.resources.tree project index (λ c. (c.builder, Built c handed)) (service_calls (services.Handed project index kind) (answers.Handed handed)) (λ site. refl) refl
  handed_call project index kind (answers.Committed touched problems) = refl
  handed_call project index kind (answers.Refused r) = refl

  cleaned_call : (project : List ℕ) (index : ℕ) (a : Answer)
      → service_calls (services.Clean project index) a (site_named s (services.Clean project index)) ≡ calls_for (command_at (desc_at s.resources.tree) project index) (λ c. Cleaned)
  cleaned_call project index a = placed_call s.resources.tree project index (λ c. (c.builder, Cleaned)) (service_calls (services.Clean project index) a) (λ site. refl) refl

  clean_done : (project : List ℕ) (index : ℕ) (a : Answer) → was_done a ≡ true
      → history.service_calls (desc_at s.resources.tree) (services.Clean project index) a ≡ calls_for (command_at (desc_at s.resources.tree) project index) (λ c. Cleaned)
  clean_done project index answers.Done h = refl
  clean_done project index (answers.Id id) h = refl
  clean_done project index (answers.Count count) h = refl
  clean_done project index answers.None h = refl
  clean_done project index (answers.Job name) h = refl
  clean_done project index (answers.Seen seen) h = refl
  clean_done project index (answers.Plan plan) h = refl
  clean_done project index (answers.Handed handed) h = refl
  clean_done project index (answers.Committed touched problems) h = refl
  clean_done project index (answers.Refused r) h = absurd (true≢false (sym h))

  done_call : (v : ServiceEvent) (a : Answer) → was_done a ≡ true → service_calls v a (site_named s v) ≡ history.service_calls (desc_at s.resources.tree) v a
  done_call (services.Checkout purpose) a done = refl
  done_call (services.CheckIn outcome) a done = refl
  done_call (services.Commit edits) a done = refl
  done_call (services.Saving states) a done = refl
  done_call (services.Handed project index kind) a done = handed_call project index kind a
  done_call (services.Clean project index) a done = cleaned_call project index a ∙ sym (clean_done project index a done)

  refused_call : (v : ServiceEvent) (r : Refusal) → history.service_calls (desc_at s.resources.tree) v (answers.Refused r) ≡ []
  refused_call (services.Checkout purpose) r = refl
  refused_call (services.CheckIn outcome) r = refl
  refused_call (services.Commit edits) r = refl
  refused_call (services.Saving states) r = refl
  refused_call (services.Handed project index kind) r = refl
  refused_call (services.Clean project index) r = refl

  service_call : (x : Entry) (v : ServiceEvent) → x.event ≡ Service v → calls_in (option_to_list (served s x)) ≡ calls_of s x.event x.reply.answer
  service_call x v is = by (was_done x.reply.answer) refl
    where
      by : (b : Bool) → was_done x.reply.answer ≡ b → calls_in (option_to_list (served s x)) ≡ calls_of s x.event x.reply.answer
      by true done =
          ap (λ b. calls_in (option_to_list (if b then served_by s x (service_of x.event) else None))) done
          ∙ (ap (λ e. calls_in (option_to_list (served_by s x (service_of e)))) is
          ∙ (append-nil (event_calls x.event x.reply.answer (site_named s v))
          ∙ (ap (λ e. event_calls e x.reply.answer (site_named s v)) is
          ∙ (done_call v x.reply.answer done ∙ sym (ap (λ e. calls_of s e x.reply.answer) is)))))
      by false refused =
          let r = refused_is x.reply.answer refused in
          ap (λ o. calls_in (option_to_list o)) (quiet_served s x (inr refused))
          ∙ sym (ap (λ e. calls_of s e x.reply.answer) is ∙ (ap (history.service_calls (desc_at s.resources.tree) v) r.1 ∙ refused_call v r.0))

  one_call : (x : Entry) → calls_in (option_to_list (served s x)) ≡ calls_of s x.event x.reply.answer
  one_call x = by (concern_of x.event)
    where
      plainly : service_of x.event ≡ None → calls_in (option_to_list (served s x)) ≡ calls_of s x.event x.reply.answer
      plainly plain = ap (λ o. calls_in (option_to_list o)) (quiet_served s x (inl plain)) ∙ sym (plain_calls s x.event x.reply.answer plain)

      by : Concern x.event → calls_in (option_to_list (served s x)) ≡ calls_of s x.event x.reply.answer
      by (OfOperation op is) = plainly (ap service_of is)
      by (OfManager none plain) = plainly plain
      by (OfService v is) = service_call x v is

-- ---- what a build asks

differs : (j n : ℕ) → j ≢ n → (j == n) ≡ false
differs j n other = by (j == n) refl
  where
    by : (b : Bool) → (j == n) ≡ b → b ≡ false
    by true is = absurd (other (eqb-true j n is))
    by false is = refl

aside_call : (n : ℕ) (s : Moment) (x : Entry) → IsAside n x → calls_in (option_to_list (served s x)) ≡ flat_map asked (entry_of n s x)
aside_call n s x (inl own) =
    one_call s x
    ∙ (sym (append-nil (calls_of s x.event x.reply.answer))
    ∙ (calls_read n s (x ∷ []) (own, tt) ∙ ap (flat_map asked) (append-nil (entry_of n s x))))
aside_call n s x (inr aside) = ap (λ o. calls_in (option_to_list o)) (quiet_served s x aside.1) ∙ sym (ap (flat_map asked) (others_add_none n s x (differs x.pass n aside.0)))

-- what the services were asked is what the pass's entries ask
aside_calls : (n : ℕ) (s : Moment) (m : List Entry) → AllByRecursion (IsAside n) m → calls_in (services_of s m) ≡ flat_map asked (entries_of n s m)
aside_calls n s [] all = refl
aside_calls n s (x ∷ m) all =
    flat_append (λ (y : Served). event_calls y.entry.event y.entry.reply.answer y.command) (option_to_list (served s x)) (services_of (after s x) m)
    ∙ ((λ i. aside_call n s x all.0 i ++ aside_calls n (after s x) m all.1 i) ∙ sym (flat_append asked (entry_of n s x) (entries_of n (after s x) m)))

-- builders were called for what the entries ask that led to an outcome, behind the first ones, which ask nothing
came_called : (ms : Meanings) (kind : BuildKind) (project : Option (List ℕ)) (b : Book) (o : BuildOutcome) (last : Book) → CameTo ms kind project b o last → (front es : List books.Entry) → flat_map asked front ≡ []
    → last.mine ≡ b.mine ++ (front ++ es) → WereCalled (flat_map asked es) b.told last.told
came_called ms kind project b o last came front es none are =
    subst (λ cs. WereCalled cs b.told last.told) (sym all)
    (subst (λ t. WereCalled (map call_of works.done) t last.told) came.begins.told (done_called works.done came.first.told last.told works.adds.done))
  where
    works : Works ms came.went.0 came.first last
    works = went_works ms came.first kind came.plan came.went.0 last came.begins.planned.described came.went.1

    whole : last.mine ≡ b.mine ++ (came.first.since ++ works.entries)
    whole = works.adds.mine ∙ (ap (λ z. z ++ works.entries) came.begins.mine ∙ append_assoc b.mine came.first.since works.entries)

    same : front ++ es ≡ came.first.since ++ works.entries
    same = same_rest b.mine (front ++ es) (came.first.since ++ works.entries) (sym are ∙ whole)

    all : flat_map asked es ≡ map call_of works.done
    all =
        sym (flat_append asked front es ∙ ap (λ z. z ++ flat_map asked es) none)
        ∙ (ap (flat_map asked) (same ∙ ap (λ z. z ++ works.entries) came.begins.since) ∙ works.asked)

-- ---- the services may be given back

module _ (ms : Meanings) (kind : BuildKind) (project : Option (List ℕ)) (s : Moment) (n : ℕ) (o : BuildOutcome) (k g h : List Entry) (old new : List Told) (begun : HasBegun kind project s n k g)
    (through : CameThrough ms kind project s n o k g h old new) where
  abbrev since : List Entry
  since = through.aside.since

  abbrev es : List books.Entry
  es = entries_of n (replay s g) since

  abbrev front : List books.Entry
  front = beginning begun.first begun.second begun.third kind project begun.plan

  whole : through.last.mine ≡ mine n s k ++ (front ++ es)
  whole =
      through.is_last.mine
      ∙ (ap (mine n s) through.aside.are
      ∙ (entries_append n s g since ∙ (ap (λ z. z ++ es) begun.are ∙ append_assoc (mine n s k) front es)))

  called : WereCalled (flat_map asked es) old new
  called = subst (WereCalled (flat_map asked es) old) through.is_last.told (came_called ms kind project (book_in s n 0 [] old k) o through.last through.came front es refl whole)

  abbrev returned : Reply → Entry
  returned r = record { pass = n; event = check_in o; reply = r }

  all : (r : Reply) → calls_in (services_of (replay s g) (since ++ returned r ∷ [])) ≡ flat_map asked es
  all r =
      let u = replay (replay s g) since in
      aside_calls n (replay s g) (since ++ returned r ∷ []) (all_append (IsAside n) since (returned r ∷ []) through.aside.aside (inl (record { pass = refl; building = refl }), tt))
      ∙ (ap (flat_map asked) (entries_append n (replay s g) since (returned r ∷ []))
      ∙ (flat_append asked es (entries_of n u (returned r ∷ []))
      ∙ (ap (λ z. flat_map asked es ++ flat_map asked z) (append-nil (entry_of n u (returned r)) ∙ own_entry n u (returned r) refl)
      ∙ append-nil (flat_map asked es))))

  -- builders were called for what the services were asked since the pass took them
  pub may_return : MayReturn ms s n o g h old new
  may_return = record {
    since = since;
    are = through.aside.are;
    aside = through.aside.aside;
    below = through.goes_on.below;
    may = through.goes_on.may;
    served = λ r done. record { stays = through.stays; called = subst (λ cs. WereCalled cs old new) (sym (all r)) called };
  }

-- ---- the entries of a build while the pass has the services

pub aside_none : (n : ℕ) (g : List Entry) → WentAside n g g
aside_none n g = record { since = []; are = sym (append-nil g); aside = tt }

quiet_aside : (n : ℕ) (m : List Entry) → of pass_of n m ≡ [] → AllByRecursion IsQuiet m → AllByRecursion (IsAside n) m
quiet_aside n [] none quiet = tt
quiet_aside n (x ∷ m) none quiet = let o = others pass_of n x m none in (inr (o.0, quiet.0), quiet_aside n m o.1 quiet.1)

-- one entry of the build more
pub made_aside : (n : ℕ) (e : Event) (s : Moment) (k g h : List Entry) → IsBuilding e → may_build (replay s g) n ≡ true → Made n e s g h → WentAside n k g → WentAside n k h
made_aside n e s k g h building may m went =
    let x = entry_made (replay s (g ++ m.between)) n e in record {
      since = went.since ++ (m.between ++ x ∷ []);
      are = m.are ∙ (append_assoc g m.between (x ∷ []) ∙ (ap (λ z. z ++ (m.between ++ x ∷ [])) went.are ∙ append_assoc k went.since (m.between ++ x ∷ [])));
      aside = all_append (IsAside n) went.since (m.between ++ x ∷ []) went.aside
          (all_append (IsAside n) m.between (x ∷ []) (quiet_aside n m.between m.others quiet.quiet) (inl (record { pass = refl; building = building }), tt));
    }
  where
    quiet : OthersQuiet n (replay s g) m.between
    quiet = others_stand (replay s g) n m.between (later_replies s g m.between m.legal_found.replies) m.others
        (serving_named (replay s g).manager.passes (is_building (replay s g).desk.serving) n (it_serves (replay s g) n may))

-- ---- others go on

module _ (n : ℕ) (s : Moment) (opening : IsOpening s) (h j : List Entry) (looked : Looked n s h j) (goes_on : MayGoOn s n h) where
  kept : Keeps n (replay s h) (replay s (h ++ looked.between))
  kept = keeps_between n s h looked.between opening goes_on.below goes_on.may (subst (Legal s) looked.are looked.legal) looked.others

  pub looked_goes : MayGoOn s n j
  looked_goes = subst (MayGoOn s n) (sym looked.are) (record {
    below =
        let same = ap (λ (z : Moment). z.manager.passes.next) (replay_append s h looked.between) in
        let up = replay_next (replay s h) looked.between in
        let lt = goes_on.below in
        omega (arith, same, up, lt);
    may = kept.may;
  })

  pub looked_last : (told : List Told) (last : Book) → IsLast n s told h last → IsLast n s told j last
  looked_last told last is = record {
    mine = is.mine ∙ sym (ap (mine n s) looked.are ∙ mine_aside n s h looked.between looked.others);
    told = is.told;
    finds = finds_on last.now (state_of (replay s h)) (state_of (replay s j)) is.finds (subst (λ l. Finds (state_of (replay s h)) (state_of (replay s l))) (sym looked.are) kept.finds);
  }

  pub looked_aside : (g : List Entry) → WentAside n g h → WentAside n g j
  looked_aside g went = record {
    since = went.since ++ looked.between;
    are = looked.are ∙ (ap (λ z. z ++ looked.between) went.are ∙ append_assoc g went.since looked.between);
    aside = all_append (IsAside n) went.since looked.between went.aside (quiet_aside n looked.between looked.others quiet.quiet);
  }
    where
      quiet : OthersQuiet n (replay s h) looked.between
      quiet = others_stand (replay s h) n looked.between (later_replies s h looked.between (subst (Legal s) looked.are looked.legal).replies) looked.others
          (serving_named (replay s h).manager.passes (is_building (replay s h).desk.serving) n (it_serves (replay s h) n goes_on.may))
