-- How a build beside others ends, as its book has it.
use Rattle.std.proofs.Common.{◌≡◌, inl, inr, ℕ, false, not, List, [], ◌∷◌, ◌++◌, refl, sym, ap, ◌∙◌, append_assoc}
use Rattle.builder_api.specs.declared.outcome.BuildOutcome.{BuildOutcome}
use Rattle.builder_api.specs.Told.{Told}
use Rattle.pass_table.specs.Passes.{serves}
use Rattle.build_laws.specs.States.{Finds, State}
use Rattle.build_run.specs.Books as books
use Rattle.build_run.specs.Books.{Book, at}
use Rattle.build_run.specs.Starts.{Closes, IsCut}
use Rattle.core_event.specs.declared.entry.Entry.{Entry}
use Rattle.core_event.specs.declared.event.Event.TheVariants as events
use Rattle.core_event.specs.declared.reply.Answer.{Answer}
use Rattle.core_event.specs.declared.service.Outcomes.TheVariants.{Build}
use Rattle.job_manager.specs.declared.manager.JobManager.{JobManager}
use Rattle.service_desk.specs.Refusals.{root_rule}
use Rattle.ws_core.specs.States.{Moment}
use Rattle.ws_core.specs.Histories.{replay}
use Rattle.build_core.specs.States.{state_of}
use Rattle.build_core.specs.Histories.{entries_of}
use Rattle.build_core.proofs.Leaves.{check_in_leaves}
use Rattle.build_host.proofs.Handing.{it_serves}
use Rattle.build_beside.specs.Turns.{Answered, IsOpening}
use Rattle.build_beside.specs.Beside.{book_in, check_in}
use Rattle.build_beside.specs.UnderWay.{IsLast, MayGoOn}
use Rattle.build_beside.proofs.Begins.{did_mine, met, plain_serves}
use Rattle.build_beside.proofs.Books.{finds_on}
use Rattle.build_beside.proofs.Others.{Keeps}
use Rattle.build_beside.proofs.Turns.{keeps_between, made_steps}

more : {X : Type 0} (a b c ds : List X) (d : X) → b ≡ a ++ ds → c ≡ b ++ d ∷ [] → c ≡ a ++ (ds ++ d ∷ [])
more a b c ds d p q = q ∙ ap (λ z. z ++ d ∷ []) p ∙ append_assoc a ds (d ∷ [])

module _ (n : ℕ) (s : Moment) (opening : IsOpening s) (g h : List Entry) (goes_on : MayGoOn s n g)
    (o : BuildOutcome) (a : Answer) (x : Answered n (check_in o) s a g h) where
  abbrev there : Moment
  there = replay s (g ++ x.made.between)

  kept : Keeps n (replay s g) there
  kept = keeps_between n s g x.made.between opening goes_on.below goes_on.may x.made.legal_found x.made.others

  gone : serves (replay s h).manager.passes n ≡ false
  gone = ap (λ z. serves z.manager.passes n) (made_steps n (check_in o) s g h opening x.made).state
      ∙ ap (λ (m : JobManager). serves m.passes n) (check_in_leaves there n (Build o) (it_serves there n kept.may)).manager

  module _ (told : List Told) (last : Book) (is : IsLast n s told g last) where
    found : Finds last.now (state_of there)
    found = finds_on last.now (state_of (replay s g)) (state_of there) is.finds kept.finds

    checked : entries_of n s h ≡ last.mine ++ at (state_of there) (books.CheckIn o) ∷ []
    checked = did_mine n s opening (check_in o) (books.CheckIn o) a g h x refl ∙ ap (λ z. z ++ at (state_of there) (books.CheckIn o) ∷ []) (sym is.mine)

    -- memory wanted after the outcome was checked in
    pub cut_first : (start : ℕ) (began : List Told) → IsCut last o (book_in s n start began told h)
    cut_first start began = inl (record { found = state_of there; finds = found; mine = checked; told = sym is.told; home = ap not gone })

    module _ (a1 : Answer) (h1 : List Entry) (x1 : Answered n events.EndBatch s a1 h h1) where
      abbrev second : State
      second = state_of (met n s opening events.EndBatch a1 h h1 x1)

      batch_closed : entries_of n s h1 ≡ last.mine ++ (at (state_of there) (books.CheckIn o) ∷ at second books.EndBatch ∷ [])
      batch_closed = more last.mine (entries_of n s h) (entries_of n s h1) (at (state_of there) (books.CheckIn o) ∷ []) (at second books.EndBatch) checked (did_mine n s opening events.EndBatch books.EndBatch a1 h h1 x1 refl)

      gone_then : serves (replay s h1).manager.passes n ≡ false
      gone_then = plain_serves n s opening events.EndBatch h h1 refl x1.made ∙ gone

      -- and after the batch was ended
      pub cut_second : (start : ℕ) (began : List Told) → IsCut last o (book_in s n start began told h1)
      cut_second start began = inr (
        second,
        record { found = state_of there; finds = found; mine = batch_closed; told = sym is.told; home = ap not gone_then },
      )

      pub closes : (a2 : Answer) (h2 : List Entry) (x2 : Answered n (events.End root_rule) s a2 h1 h2) (start : ℕ) (began : List Told) → Closes last o (book_in s n start began told h2)
      closes a2 h2 x2 start began =
          let third = state_of (met n s opening (events.End root_rule) a2 h1 h2 x2) in record {
            first = second;
            second = third;
            checked = record {
              found = state_of there;
              finds = found;
              mine = more last.mine (entries_of n s h1) (entries_of n s h2) (at (state_of there) (books.CheckIn o) ∷ at second books.EndBatch ∷ []) (at third books.End) batch_closed
                  (did_mine n s opening (events.End root_rule) books.End a2 h1 h2 x2 refl);
              told = sym is.told;
              home = ap not (plain_serves n s opening (events.End root_rule) h1 h2 refl x2.made ∙ gone_then);
            };
          }
