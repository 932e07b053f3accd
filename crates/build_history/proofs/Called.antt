-- Builders were called for what the entries of a build ask.
use Rattle.std.proofs.Common.{◌≡◌, ℕ, List, [], ◌∷◌, ◌++◌, map, Option, refl, sym, ap, ◌∙◌, subst, append-nil}
use Rattle.std.specs.List.{AllByRecursion, flat_map}
use Rattle.builder_api.specs.declared.kind.BuildKind.{BuildKind}
use Rattle.builder_api.specs.Meanings.{Meanings}
use Rattle.builder_api.specs.Told.{Told}
use Rattle.build_laws.specs.States.{Descs}
use Rattle.build_run.specs.declared.answers.BuildAnswer.{BuildAnswer}
use Rattle.build_run.specs.Books as books
use Rattle.build_run.specs.Books.{Book, Deed, Begin, Batch, Checkout, Handing, Commit, CleanUp, CheckIn, EndBatch, End, at}
use Rattle.build_run.specs.Commands.{IsAnswered, IsUnanswered}
use Rattle.core_event.specs.declared.entry.Entry.{Entry}
use Rattle.ws_core.specs.Histories.{replay}
use Rattle.ws_core.specs.Sessions.{Session}
use Rattle.build_core.specs.Histories.{book_of, entries_of}
use Rattle.build_core.proofs.Entered.{entries_append}
use Rattle.build_history.specs.Calls.{WereCalled, calls}
use Rattle.build_history.specs.Events.{IsOwn}
use Rattle.build_history.proofs.Lists.{flat_append}
use Rattle.build_history.proofs.Calls.{asked, deed_calls, call_of, calls_read, called_none, done_called}
use Rattle.build_history.proofs.Parts.{AreAround, IsAround, Parts, NoneCame, OneCame, answered_parts, unanswered_parts}

deed_asks_none : (descs : Descs) (d : Deed) → IsAround d → deed_calls descs d ≡ []
deed_asks_none descs (Begin x) h = refl
deed_asks_none descs Batch h = refl
deed_asks_none descs (Checkout kind project x) h = refl
deed_asks_none descs (Handing project index kind x) h = absurd h
deed_asks_none descs (Commit e x) h = absurd h
deed_asks_none descs (CleanUp project index x) h = absurd h
deed_asks_none descs (CheckIn o) h = absurd h
deed_asks_none descs EndBatch h = refl
deed_asks_none descs End h = refl

around_ask : (es : List books.Entry) → AreAround es → flat_map asked es ≡ []
around_ask [] h = refl
around_ask (x ∷ es) h = (λ i. deed_asks_none x.before.descs x.deed h.0 i ++ around_ask es h.1 i)

-- the pass's entries of a session that went on
pub went_on : (x y : Session) (h : List Entry) → y.opened ≡ x.opened → y.history ≡ x.history ++ h → x.state ≡ replay x.opened x.history
    → entries_of 1 y.opened y.history ≡ entries_of 1 x.opened x.history ++ entries_of 1 x.state h
went_on x y h opened history placed =
    (λ i. entries_of 1 (opened i) (history i))
    ∙ entries_append 1 x.opened x.history h
    ∙ ap (λ s. entries_of 1 x.opened x.history ++ entries_of 1 s h) (sym placed)

parts_called : (ms : Meanings) (kind : BuildKind) (project : Option (List ℕ)) (b b' : Book) (es : List books.Entry) → Parts ms kind project b b' es → WereCalled (flat_map asked es) b.told b'.told
parts_called ms kind project b b' es (NoneCame around told) = subst (WereCalled (flat_map asked es) b.told) (sym told) (called_none (flat_map asked es) b.told (around_ask es around))
parts_called ms kind project b b' es (OneCame c) =
    subst (λ cs. WereCalled cs b.told b'.told) (sym all)
    (subst (λ t. WereCalled (map call_of c.works.done) t b'.told) c.came.begins.told
    (subst (WereCalled (map call_of c.works.done) c.came.first.told) (sym c.told) (done_called c.works.done c.came.first.told c.last.told c.works.adds.done)))
  where
    all : flat_map asked es ≡ map call_of c.works.done
    all = ap (flat_map asked) c.are ∙ flat_append asked c.works.entries (at c.found (CheckIn c.outcome) ∷ c.rest)
        ∙ (λ i. c.works.asked i ++ around_ask c.rest c.around i) ∙ append-nil (map call_of c.works.done)

module _ (ms : Meanings) (kind : BuildKind) (project : Option (List ℕ)) (x y : Session) (j i : ℕ) (c began told told' : List Told) (h : List Entry)
    (opened : y.opened ≡ x.opened) (history : y.history ≡ x.history ++ h) (placed : x.state ≡ replay x.opened x.history) (own : AllByRecursion (IsOwn 1) h) where
  -- by a build that was answered
  pub answered_calls : (a : BuildAnswer) → IsAnswered ms kind project (book_of x 1 j c told) a (book_of y 1 i began told') → WereCalled (calls x.state h) told told'
  answered_calls a answered = subst (λ cs. WereCalled cs told told') (sym (calls_read 1 x.state h own))
      (parts_called ms kind project (book_of x 1 j c told) (book_of y 1 i began told') (entries_of 1 x.state h)
      (answered_parts ms kind project (book_of x 1 j c told) (book_of y 1 i began told') (entries_of 1 x.state h) (went_on x y h opened history placed) a answered))

  -- and by one that memory stopped
  pub unanswered_calls : IsUnanswered ms kind project (book_of x 1 j c told) (book_of y 1 i began told') → WereCalled (calls x.state h) told told'
  unanswered_calls unanswered = subst (λ cs. WereCalled cs told told') (sym (calls_read 1 x.state h own))
      (parts_called ms kind project (book_of x 1 j c told) (book_of y 1 i began told') (entries_of 1 x.state h)
      (unanswered_parts ms kind project (book_of x 1 j c told) (book_of y 1 i began told') (entries_of 1 x.state h) (went_on x y h opened history placed) unanswered))
