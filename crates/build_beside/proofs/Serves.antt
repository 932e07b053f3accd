-- What is handed, committed and cleaned, as the book of a build beside others has it.
use Rattle.std.proofs.Common.{◌≡◌, ◌<◌, ◌≤◌, ℕ, true, not, List, [], ◌∷◌, ◌++◌, length, Option, Some, None, refl, sym, ap, ◌∙◌, subst, arith, length-append}
use Rattle.std.specs.Prelude.{IfSome}
use Rattle.std.specs.Option.{option_map}
use Rattle.pass_table.specs.Passes.{serves}
use Rattle.builder_api.specs.declared.edits.Edits.{Edits}
use Rattle.builder_api.specs.declared.kind.BuildKind.{BuildKind}
use Rattle.builder_api.specs.Told.{Told}
use Rattle.build_due.specs.declared.site.Site.{Site}
use Rattle.build_laws.specs.States.{Descs, IsItem, Item}
use Rattle.build_plan.specs.Descriptions.{desc_at}
use Rattle.build_run.specs.declared.answers.Given.{Given}
use Rattle.build_run.specs.declared.answers.Taken.{Taken}
use Rattle.build_run.specs.Books.{Book, Cleans, Cleared, Hands, Takes, WasDone}
use Rattle.core_event.specs.declared.entry.Entry.{Entry}
use Rattle.core_event.specs.declared.event.Event.{Event}
use Rattle.core_event.specs.declared.event.Event.TheVariants.{Service}
use Rattle.core_event.specs.declared.reply.Answer.{Answer}
use Rattle.core_event.specs.declared.service.ServiceEvent.TheVariants as services
use Rattle.core_event.specs.declared.reply.Refusal.TheVariants.{NoBuild}
use Rattle.proj_desc.specs.FirstCause.{first_cause}
use Rattle.service_desk.specs.Refusals.{unrooted}
use Rattle.ws_core.specs.States.{Moment}
use Rattle.ws_core.specs.Histories.{replay}
use Rattle.ws_core.specs.Refusals.{current, edit_cause, no_build}
use Rattle.build_core.specs.States.{item_of, state_of}
use Rattle.build_core.specs.Histories.{Steps, book_of, given_of, may_build, number_of, taken_of}
use Rattle.build_core.proofs.Leaves.{refused}
use Rattle.build_host.proofs.Clearing.{clears}
use Rattle.build_host.proofs.Handing.{hands, it_serves}
use Rattle.build_host.proofs.Results.{handed_answered}
use Rattle.build_host.proofs.Taking.{takes}
use Rattle.build_beside.specs.Turns.{Answered, IsOpening, session}
use Rattle.build_beside.specs.Beside.{book_in}
use Rattle.build_beside.proofs.Books.{book_aside, cleans_from, cleans_home, cleans_serving, hands_from, hands_home, hands_serving, not_home, takes_from, takes_home, takes_serving}
use Rattle.build_beside.proofs.Others.{Keeps}
use Rattle.build_beside.proofs.Turns.{keeps_between, made_steps}

longer : (g between : List Entry) (start : ℕ) → start ≤ length g → start ≤ length (g ++ between)
longer g between start le = let e = length-append g between in omega (arith, e, le)

-- where no command is under way a commit is refused
idle_commit : (n : ℕ) (s : Moment) (f h : List Entry) (e : Edits) → Steps n (Service (services.Commit e)) (session s f) (session s h) → may_build (replay s f) n ≡ true → current (replay s f) ≡ None → may_build (replay s h) n ≡ may_build (replay s f) n
idle_commit n s f h e steps may none =
    let u = replay s f in
    let left = refused u n (services.Commit e) NoBuild
    (ap (λ c. first_cause (c ∷ no_build (current u) ∷ unrooted u.manager.passes.rules n ∷ edit_cause u.resources e (current u) ∷ [])) (it_serves u n may)
    ∙ ap (λ o. first_cause (None ∷ no_build o ∷ unrooted u.manager.passes.rules n ∷ edit_cause u.resources e o ∷ [])) none) in
    ap (λ z. may_build z n) steps.state ∙ (λ i. may_build (record u { manager = left.manager i; desk = left.desk i }) n)

-- the pass may build, and the event is one of its turns
module _ (n start : ℕ) (began told : List Told) (s : Moment) (g h : List Entry) (opening : IsOpening s) (lt : n < (replay s g).manager.passes.next) (le : start ≤ length g) (may : may_build (replay s g) n ≡ true) where
  abbrev before : Book
  before = book_in s n start began told g

  -- the book that the event found
  abbrev met : List Entry → Book
  met f = book_in s n start began told f

  module _ (between : List Entry) (keeps : Keeps n (replay s g) (replay s (g ++ between))) where
    abbrev f : List Entry
    f = g ++ between

    home_same : may_build (replay s h) n ≡ true → not (serves (replay s h).manager.passes n) ≡ not (serves (replay s f).manager.passes n)
    home_same then = not_home (replay s h) n then ∙ sym (not_home (replay s f) n keeps.may)

  module _ (e : Event) (a : Answer) (x : Answered n e s a g h) where
    abbrev there : List Entry
    there = g ++ x.made.between

    kept : Keeps n (replay s g) (replay s there)
    kept = keeps_between n s g x.made.between opening lt may x.made.legal_found x.made.others

    same : met there ≡ record before { now = state_of (replay s there) }
    same = book_aside s n start began told g x.made.between le x.made.others may kept

    listed : (i : Item) → IsItem (desc_at (replay s g).resources.tree) i → IsItem (desc_at (replay s there).resources.tree) i
    listed i it = subst (λ (d : Descs). IsItem d i) (sym kept.finds.descs) it

  -- ---- what is handed

  module _ (i : Item) (kind : BuildKind) (a : Answer) (x : Answered n (Service (services.Handed i.project i.index kind)) s a g h) (it : IsItem (desc_at (replay s g).resources.tree) i) where
    abbrev handing : Event
    handing = Service (services.Handed i.project i.index kind)

    pub answers_handing : given_of a ≡ None → ⊥
    answers_handing none = handed_answered (replay s (there handing a x)) n i kind (kept handing a x).may (listed handing a x i it) (ap given_of (sym x.told) ∙ none)

    module _ (v : Given) (is : given_of a ≡ Some v) where
      handed_then : Hands (book_of (session s (there handing a x)) n start began told) i kind v (book_of (session s h) n start began told)
      handed_then = hands n start began told i kind v (session s (there handing a x)) (session s h) (longer g x.made.between start le) (kept handing a x).may (listed handing a x i it)
          (made_steps n handing s g h opening x.made) (ap given_of (sym x.told) ∙ is)

      pub may_handed : may_build (replay s h) n ≡ true
      may_handed = hands_serving (book_of (session s (there handing a x)) n start began told) (book_of (session s h) n start began told) i kind v handed_then ∙ (kept handing a x).may

      pub handed_beside : Hands before i kind v (book_in s n start began told h)
      handed_beside =
          hands_from before (state_of (replay s (there handing a x))) (book_in s n start began told h) i kind v (kept handing a x).finds
          (subst (λ z. Hands z i kind v (book_in s n start began told h)) (same handing a x)
          (subst (λ w. Hands (met (there handing a x)) i kind v (record (book_of (session s h) n start began told) { home = w })) (sym (home_same x.made.between (kept handing a x) may_handed))
          (hands_home (not (serves (replay s (there handing a x)).manager.passes n)) (book_of (session s (there handing a x)) n start began told) (book_of (session s h) n start began told) i kind v handed_then)))

  -- ---- what is committed

  module _ (e : Edits) (a : Answer) (x : Answered n (Service (services.Commit e)) s a g h) (v : Taken) (is : taken_of a ≡ Some v) where
    abbrev committing : Event
    committing = Service (services.Commit e)

    taken_then : IfSome (book_of (session s (there committing a x)) n start began told).under (λ i. Takes (book_of (session s (there committing a x)) n start began told) i e v (book_of (session s h) n start began told))
    taken_then = takes n start began told e v (session s (there committing a x)) (session s h) (longer g x.made.between start le) (kept committing a x).may (made_steps n committing s g h opening x.made) (ap taken_of (sym x.told) ∙ is)

    beside : (i : Item) → may_build (replay s h) n ≡ true → Takes (book_of (session s (there committing a x)) n start began told) i e v (book_of (session s h) n start began told) → Takes before i e v (book_in s n start began told h)
    beside i then t =
        takes_from before (state_of (replay s (there committing a x))) (book_in s n start began told h) i e v (kept committing a x).finds
        (subst (λ z. Takes z i e v (book_in s n start began told h)) (same committing a x)
        (subst (λ w. Takes (met (there committing a x)) i e v (record (book_of (session s h) n start began told) { home = w })) (sym (home_same x.made.between (kept committing a x) then))
        (takes_home (not (serves (replay s (there committing a x)).manager.passes n)) (book_of (session s (there committing a x)) n start began told) (book_of (session s h) n start began told) i e v t)))

    -- the pass may go on: the edits were made, or refused for what they are, or since no command is under way
    pub may_taken : may_build (replay s h) n ≡ true
    may_taken = by (current (replay s (there committing a x))) refl
      where
        f : List Entry
        f = there committing a x

        stays : may_build (replay s h) n ≡ may_build (replay s f) n → may_build (replay s h) n ≡ true
        stays same_may = same_may ∙ (kept committing a x).may

        by : (o : Option Site) → current (replay s f) ≡ o → may_build (replay s h) n ≡ true
        by None none = stays (idle_commit n s f h e (made_steps n committing s g h opening x.made) (kept committing a x).may none)
        by (Some site) is_there =
            let t = subst (λ u. IfSome u (λ i. Takes (book_of (session s f) n start began told) i e v (book_of (session s h) n start began told))) (ap (option_map item_of) is_there) taken_then in
            takes_serving (book_of (session s f) n start began told) (book_of (session s h) n start began told) (item_of site) e v t ∙ (kept committing a x).may

    pub taken_beside : IfSome before.under (λ i. Takes before i e v (book_in s n start began told h))
    taken_beside = go before.under (subst (λ u. IfSome u (λ i. Takes (book_of (session s (there committing a x)) n start began told) i e v (book_of (session s h) n start began told))) (ap (λ (z : Book). z.under) (same committing a x)) taken_then)
      where
        go : (o : Option Item) → IfSome o (λ i. Takes (book_of (session s (there committing a x)) n start began told) i e v (book_of (session s h) n start began told)) → IfSome o (λ i. Takes before i e v (book_in s n start began told h))
        go None t = tt
        go (Some i) t = beside i may_taken t

  -- ---- what is cleaned

  module _ (told' : List Told) (i : Item) (a : Answer) (x : Answered n (Service (services.Clean i.project i.index)) s a g h) (it : IsItem (desc_at (replay s g).resources.tree) i) (v : Option ℕ) (is : number_of a ≡ v)
      (called : v ≡ None → WasDone (Cleared i) told told') (quiet : (m : ℕ) → v ≡ Some m → told' ≡ told) where
    abbrev cleaning : Event
    cleaning = Service (services.Clean i.project i.index)

    cleaned_then : Cleans (book_of (session s (there cleaning a x)) n start began told) i v (book_of (session s h) n start began told')
    cleaned_then = clears n start began told told' i v (session s (there cleaning a x)) (session s h) (longer g x.made.between start le) (kept cleaning a x).may (listed cleaning a x i it)
        (made_steps n cleaning s g h opening x.made) (ap number_of (sym x.told) ∙ is) called quiet

    pub may_cleaned : may_build (replay s h) n ≡ true
    may_cleaned = cleans_serving (book_of (session s (there cleaning a x)) n start began told) (book_of (session s h) n start began told') i v cleaned_then ∙ (kept cleaning a x).may

    pub cleaned_beside : Cleans before i v (book_in s n start began told' h)
    cleaned_beside =
        cleans_from before (state_of (replay s (there cleaning a x))) (book_in s n start began told' h) i v (kept cleaning a x).finds
        (subst (λ z. Cleans z i v (book_in s n start began told' h)) (same cleaning a x)
        (subst (λ w. Cleans (met (there cleaning a x)) i v (record (book_of (session s h) n start began told') { home = w })) (sym (home_same x.made.between (kept cleaning a x) may_cleaned))
        (cleans_home (not (serves (replay s (there cleaning a x)).manager.passes n)) (book_of (session s (there cleaning a x)) n start began told) (book_of (session s h) n start began told') i v cleaned_then)))
