-- The entries of a build commit what is right for what was handed, and its outcome tells of the last builder that was called.
use Rattle.std.proofs.Common.{◌≡◌, ℕ, ◌+◌, List, [], ◌∷◌, ◌++◌, map, Option, None, refl, sym, ap, ◌∙◌, subst, arith}
use Rattle.std.specs.Prelude.{IfSome}
use Rattle.std.specs.List.{AllByRecursion, list_any}
use Rattle.std.specs.Option.{IsSomeAnd, option_or}
use Rattle.std.specs.Str.{bytes_eq}
use Rattle.res_path.specs.Paths.{Names}
use Rattle.builder_api.specs.declared.kind.BuildKind.{BuildKind}
use Rattle.builder_api.specs.Meanings.{Meanings}
use Rattle.builder_api.specs.Told.{Told}
use Rattle.build_laws.specs.States.{Descs}
use Rattle.build_run.specs.declared.answers.BuildAnswer.{BuildAnswer}
use Rattle.build_run.specs.declared.answers.Started.TheVariants as started
use Rattle.build_run.specs.Books as books
use Rattle.build_run.specs.Books.{Book, Deed, Begin, Batch, Checkout, Commit, CleanUp, CheckIn, EndBatch, End, at}
use Rattle.build_run.specs.Commands.{IsAnswered, IsUnanswered}
use Rattle.core_event.specs.declared.entry.Entry.{Entry}
use Rattle.ws_core.specs.Histories.{replay}
use Rattle.ws_core.specs.Sessions.{Session}
use Rattle.build_core.specs.Histories.{book_of, entries_of}
use Rattle.build_history.specs.Events.{IsOwn}
use Rattle.build_history.specs.Handings.{AnswersHandings, Handing, HaveRisen, IsOf, IsRight, failure}
use Rattle.build_history.proofs.Called.{went_on}
use Rattle.build_history.proofs.Counts.{risen_none}
use Rattle.build_history.proofs.Handings.{AreGood, deed_edits, deed_fails, deed_hands, failed_in, failures_after, failures_of, failures_read, good_append, last_of, no_failures, right_read, told_read}
use Rattle.build_history.proofs.Parts.{AreAround, IsAround, Came, Parts, NoneCame, OneCame, answered_parts, unanswered_parts, beginning}
use Rattle.build_history.proofs.Went.{AreListed, IsWork}

-- ---- entries that hand nothing, commit nothing and tell of no builder

record IsIdle (d : Deed) : Type 0 where
  hands : (descs : Descs) → deed_hands descs d ≡ None
  edits : deed_edits d ≡ None
  fails : deed_fails d ≡ None

around_idle : (d : Deed) → IsAround d → IsIdle d
around_idle (Begin x) h = record { hands = λ descs. refl; edits = refl; fails = refl }
around_idle Batch h = record { hands = λ descs. refl; edits = refl; fails = refl }
around_idle (Checkout kind project x) h = record { hands = λ descs. refl; edits = refl; fails = refl }
around_idle (books.Handing project index kind x) h = absurd h
around_idle (Commit e x) h = absurd h
around_idle (CleanUp project index x) h = absurd h
around_idle (CheckIn o) h = absurd h
around_idle EndBatch h = record { hands = λ descs. refl; edits = refl; fails = refl }
around_idle End h = record { hands = λ descs. refl; edits = refl; fails = refl }

around_tells : (es : List books.Entry) → AreAround es → AllByRecursion (λ (e : books.Entry). deed_fails e.deed ≡ None) es
around_tells [] h = tt
around_tells (e ∷ es) h = ((around_idle e.deed h.0).fails, around_tells es h.1)

around_good : (ms : Meanings) (last : Option Handing) (es : List books.Entry) → AreAround es → AreGood ms last es
around_good ms last [] h = tt
around_good ms last (e ∷ es) h =
    let idle = around_idle e.deed h.0 in (
      record {
        right = subst (λ o. IfSome o (λ edits. IsSomeAnd last (IsRight ms e.before edits))) (sym idle.edits) tt;
        told = subst (λ o. IfSome o (λ at. IsSomeAnd last (IsOf at))) (sym idle.fails) tt;
      },
      subst (λ o. AreGood ms (option_or o last) es) (sym (idle.hands e.before.descs)) (around_good ms last es h.1),
    )

one_tells : (d : Deed) → IsWork d → deed_fails d ≡ None
one_tells (books.Handing project index kind x) h = refl
one_tells (Commit e x) h = refl
one_tells (CleanUp project index x) h = refl
one_tells (Begin x) h = absurd h
one_tells Batch h = absurd h
one_tells (Checkout kind project x) h = absurd h
one_tells (CheckIn o) h = absurd h
one_tells EndBatch h = absurd h
one_tells End h = absurd h

work_tells : (es : List books.Entry) → AllByRecursion (λ (e : books.Entry). IsWork e.deed) es → AllByRecursion (λ (e : books.Entry). deed_fails e.deed ≡ None) es
work_tells [] h = tt
work_tells (e ∷ es) h = (one_tells e.deed h.0, work_tells es h.1)

-- ---- the entries of a build

module _ (ms : Meanings) (kind : BuildKind) (project : Option (List ℕ)) (b b' : Book) (es : List books.Entry) where
  parts_good : Parts ms kind project b b' es → (last : Option Handing) → AreGood ms last es
  parts_good (NoneCame around told) last = around_good ms last es around
  parts_good (OneCame c) last = subst (AreGood ms last) (sym c.are) (
    record { right = tt; told = tt },
    (
      record { right = tt; told = tt },
      (
        record { right = tt; told = tt },
        good_append ms last c.works.entries (at c.found (CheckIn c.outcome) ∷ c.rest) (c.works.good last)
            (record { right = tt; told = c.works.told last }, around_good ms (last_of last c.works.entries) c.rest c.around),
      ),
    ),
  )

  came_failures : (c : Came ms kind project b b' es) (last : Option Handing) (name : List ℕ) → failures_of name last es ≡ failure name (failed_in c.outcome) (last_of last c.works.entries)
  came_failures c last name =
      ap (failures_of name last) c.are
      ∙ failures_after name last (beginning c.came.begins.first c.came.begins.second (at c.came.first.now (Checkout kind project (started.Plan c.came.plan)))) (c.works.entries ++ at c.found (CheckIn c.outcome) ∷ c.rest) (refl, (refl, (refl, tt)))
      ∙ failures_after name last c.works.entries (at c.found (CheckIn c.outcome) ∷ c.rest) (work_tells c.works.entries c.works.work)
      ∙ alone (failure name (failed_in c.outcome) (last_of last c.works.entries)) (failures_of name (last_of last c.works.entries) c.rest) (no_failures name (last_of last c.works.entries) c.rest (around_tells c.rest c.around))
    where
      alone : (n m : ℕ) → m ≡ 0 → n + m ≡ n
      alone n m h = omega (arith, h)

  parts_risen : Parts ms kind project b b' es → AreListed b → (last : Option Handing) (name : List ℕ) → HaveRisen name (failures_of name last es) b.told b'.told
  parts_risen (NoneCame around told) listed last name =
      subst (λ n. HaveRisen name n b.told b'.told) (sym (no_failures name last es (around_tells es around))) (subst (HaveRisen name 0 b.told) (sym told) (risen_none name b.told))
  parts_risen (OneCame c) listed last name =
      subst (λ n. HaveRisen name n b.told b'.told) (sym (came_failures c last name))
      (subst (HaveRisen name (failure name (failed_in c.outcome) (last_of last c.works.entries)) b.told) (sym c.told)
      (subst (λ t. HaveRisen name (failure name (failed_in c.outcome) (last_of last c.works.entries)) t c.last.told) c.came.begins.told
      (c.works.risen (c.came.begins.has ∙ listed ∙ ap (λ (told : List Told). λ (n : List ℕ). list_any (bytes_eq n) (map (λ t. t.named) told)) (sym c.came.begins.told)) last name)))

module _ (ms : Meanings) (kind : BuildKind) (project : Option (List ℕ)) (x y : Session) (j i : ℕ) (c began told told' : List Told) (h : List Entry)
    (opened : y.opened ≡ x.opened) (history : y.history ≡ x.history ++ h) (placed : x.state ≡ replay x.opened x.history) (own : AllByRecursion (IsOwn 1) h)
    (named : x.state.desk.builders ≡ map (λ t. t.named) told) where
  parts_answer : Parts ms kind project (book_of x 1 j c told) (book_of y 1 i began told') (entries_of 1 x.state h) → (last : Option Handing) → AnswersHandings ms last x.state h told told'
  parts_answer parts last =
      let good = parts_good ms kind project (book_of x 1 j c told) (book_of y 1 i began told') (entries_of 1 x.state h) parts last in
      let listed : AreListed (book_of x 1 j c told) = ap (λ (names : Names). λ (name : List ℕ). list_any (bytes_eq name) names) named in record {
        right = right_read ms 1 last x.state h own good;
        told = told_read ms 1 last x.state h own good;
        risen = λ name. subst (λ n. HaveRisen name n told told') (sym (failures_read name 1 last x.state h own))
            (parts_risen ms kind project (book_of x 1 j c told) (book_of y 1 i began told') (entries_of 1 x.state h) parts listed last name);
      }

  -- of a build that was answered
  pub answered_answers : (a : BuildAnswer) → IsAnswered ms kind project (book_of x 1 j c told) a (book_of y 1 i began told') → (last : Option Handing) → AnswersHandings ms last x.state h told told'
  answered_answers a answered = parts_answer (answered_parts ms kind project (book_of x 1 j c told) (book_of y 1 i began told') (entries_of 1 x.state h) (went_on x y h opened history placed) a answered)

  -- and of one that memory stopped
  pub unanswered_answers : IsUnanswered ms kind project (book_of x 1 j c told) (book_of y 1 i began told') → (last : Option Handing) → AnswersHandings ms last x.state h told told'
  unanswered_answers unanswered = parts_answer (unanswered_parts ms kind project (book_of x 1 j c told) (book_of y 1 i began told') (entries_of 1 x.state h) (went_on x y h opened history placed) unanswered)
