-- What a build leaves that settled, and that it keeps what was built last sound.
use Rattle.std.proofs.Common.{◌≡◌, ℕ, Bool, true, false, List, [], ◌∷◌, ◌++◌, Option, Some, None, refl, sym, ap, ◌∙◌, subst}
use Rattle.std.specs.List.{AllByRecursion}
use Rattle.std.specs.Option.{option_or}
use Rattle.res_path.specs.Paths.{Names}
use Rattle.builder_api.specs.declared.kind.BuildKind.{BuildKind}
use Rattle.builder_api.specs.declared.outcome.BuildOutcome.{BuildOutcome}
use Rattle.builder_api.specs.declared.outcome.BuildOutcome.TheVariants as outcome
use Rattle.builder_api.specs.Meanings.{Meanings}
use Rattle.builder_api.specs.Told.{Told}
use Rattle.build_laws.specs.Records.{Sound}
use Rattle.build_run.specs.declared.answers.BuildAnswer.{BuildAnswer}
use Rattle.build_run.specs.declared.answers.Started.TheVariants as started
use Rattle.build_run.specs.Books as books
use Rattle.build_run.specs.Books.{Book, Deed, Begin, Batch, Checkout, Handing, Commit, CleanUp, CheckIn, EndBatch, End, at}
use Rattle.build_run.specs.Commands.{IsAnswered, IsUnanswered}
use Rattle.core_event.specs.declared.entry.Entry.{Entry}
use Rattle.core_event.specs.declared.event.Event.{Event}
use Rattle.ws_core.specs.States.{Moment}
use Rattle.ws_core.specs.Histories.{Legal, fresh_for, replay}
use Rattle.ws_core.specs.Sessions.{Session}
use Rattle.ws_core.specs.Steps.{step}
use Rattle.build_core.specs.States.{records_of}
use Rattle.build_core.specs.Histories.{book_of, entries_of}
use Rattle.build_history.specs.Events.{IsOwn, NoBuilds, has_committed}
use Rattle.build_history.specs.Settled.{AllSettled, AreSound, Build, IsSettled, KeepsBuilt, is_builder, last_begun}
use Rattle.build_history.proofs.Called.{went_on}
use Rattle.build_history.proofs.Keeping.{AreReplies, all_sound, deed_commits, later_replies, sound_from, sound_to}
use Rattle.build_history.proofs.Names.{replay_append, replay_names, same_builders, step_names}
use Rattle.build_history.proofs.Parts.{IsAround, Came, Parts, NoneCame, OneCame, answered_parts, unanswered_parts}
use Rattle.build_history.proofs.Settled.{AreSettled, deed_begins, deed_settles, is_done, plain_settled, settled_append, settled_read}
use Rattle.build_history.proofs.Sounds.{fresh_sound, plain_sound, step_sound}
use Rattle.build_history.proofs.Went.{IsWork}

-- ---- entries that begin no build and settle none

record IsStill (d : Deed) : Type 0 where
  begins : deed_begins d ≡ None
  settles : deed_settles d ≡ false

abbrev AreStill : List books.Entry → Type 0
AreStill = AllByRecursion (λ (e : books.Entry). IsStill e.deed)

around_still : (d : Deed) → IsAround d → IsStill d
around_still (Begin x) h = record { begins = refl; settles = refl }
around_still Batch h = record { begins = refl; settles = refl }
around_still (Checkout kind project (started.Plan plan)) h = absurd h
around_still (Checkout kind project (started.Refused n)) h = record { begins = refl; settles = refl }
around_still (Handing project index kind x) h = absurd h
around_still (Commit e x) h = absurd h
around_still (CleanUp project index x) h = absurd h
around_still (CheckIn o) h = absurd h
around_still EndBatch h = record { begins = refl; settles = refl }
around_still End h = record { begins = refl; settles = refl }

work_still : (d : Deed) → IsWork d → IsStill d
work_still (Handing project index kind x) h = record { begins = refl; settles = refl }
work_still (Commit e x) h = record { begins = refl; settles = refl }
work_still (CleanUp project index x) h = record { begins = refl; settles = refl }
work_still (Begin x) h = absurd h
work_still Batch h = absurd h
work_still (Checkout kind project x) h = absurd h
work_still (CheckIn o) h = absurd h
work_still EndBatch h = absurd h
work_still End h = absurd h

around_quiet : (d : Deed) → IsAround d → deed_commits d ≡ false
around_quiet (Begin x) h = refl
around_quiet Batch h = refl
around_quiet (Checkout kind project x) h = refl
around_quiet (Handing project index kind x) h = absurd h
around_quiet (Commit e x) h = absurd h
around_quiet (CleanUp project index x) h = absurd h
around_quiet (CheckIn o) h = absurd h
around_quiet EndBatch h = refl
around_quiet End h = refl

of_each : (P Q : Deed → Type 0) → ((d : Deed) → P d → Q d) → (es : List books.Entry) → AllByRecursion (λ (e : books.Entry). P e.deed) es → AllByRecursion (λ (e : books.Entry). Q e.deed) es
of_each P Q f [] h = tt
of_each P Q f (e ∷ es) h = (f e.deed h.0, of_each P Q f es h.1)

module _ (ms : Meanings) (has : List ℕ → Bool) where
  still_settled : (last : Option Build) (es rest : List books.Entry) → AreStill es → AreSettled ms has last rest → AreSettled ms has last (es ++ rest)
  still_settled last [] rest h then = then
  still_settled last (e ∷ es) rest h then = (
    (λ is. absurd (let no : true ≡ false = sym is ∙ h.0.settles in cc)),
    subst (λ (b : Option Build). AreSettled ms has (option_or b last) (es ++ rest)) (sym h.0.begins) (still_settled last es rest h.1 then),
  )

  all_still : (last : Option Build) (es : List books.Entry) → AreStill es → AreSettled ms has last es
  all_still last [] h = tt
  all_still last (e ∷ es) h = (
    (λ is. absurd (let no : true ≡ false = sym is ∙ h.0.settles in cc)),
    subst (λ (b : Option Build). AreSettled ms has (option_or b last) es) (sym h.0.begins) (all_still last es h.1),
  )

done_settled : (o : BuildOutcome) → is_done o ≡ true → o ≡ outcome.Settled
done_settled outcome.Settled is = refl
done_settled (outcome.Unsettled names) is = absurd (let no : false ≡ true = is in cc)
done_settled (outcome.BuilderFailed project index) is = absurd (let no : false ≡ true = is in cc)
done_settled (outcome.Refused n) is = absurd (let no : false ≡ true = is in cc)
done_settled outcome.Cleaned is = absurd (let no : false ≡ true = is in cc)
done_settled outcome.NoMemory is = absurd (let no : false ≡ true = is in cc)

-- ---- the entries of a build

module _ (ms : Meanings) (kind : BuildKind) (project : Option (List ℕ)) (b b' : Book) (es : List books.Entry) (c : Came ms kind project b b' es)
    (sound : Sound ms c.came.first.has c.came.first.now.records) where
  abbrev begun : Build
  begun = record { scope = project; plan = c.came.plan }

  came_settles : deed_settles (CheckIn c.outcome) ≡ true → IsSettled ms c.came.first.has c.found.tree begun
  came_settles is =
      let done : c.outcome ≡ outcome.Settled = done_settled c.outcome is in record {
        fresh = c.came.fresh done sound c.found c.finds;
        from_scratch = λ lawful none. c.came.from_scratch done sound lawful none c.found c.finds;
      }

  came_settled : (last : Option Build) → AreSettled ms c.came.first.has last es
  came_settled last = subst (AreSettled ms c.came.first.has last) (sym c.are) (
    (λ is. absurd (let no : false ≡ true = is in cc)),
    (
      (λ is. absurd (let no : false ≡ true = is in cc)),
      (
        (λ is. absurd (let no : false ≡ true = is in cc)),
        still_settled ms c.came.first.has (Some begun) c.works.entries (at c.found (CheckIn c.outcome) ∷ c.rest) (of_each IsWork IsStill work_still c.works.entries c.works.work)
            (came_settles, all_still ms c.came.first.has (Some begun) c.rest (of_each IsAround IsStill around_still c.rest c.around)),
      ),
    ),
  )

-- ---- the build

module _ (ms : Meanings) (kind : BuildKind) (project : Option (List ℕ)) (s : Moment) (h : List Entry) (b b' : Book) (has : b.has ≡ is_builder s) (own : AllByRecursion (IsOwn 1) h) (are : AreReplies s h)
    (sound : AreSound ms s) where
  parts_keep : Parts ms kind project b b' (entries_of 1 s h) → KeepsBuilt ms s (replay s h) h
  parts_keep parts = record {
    settled = (by parts).0;
    sound = subst (λ (f : List ℕ → Bool). Sound ms f (records_of (replay s h).remembered.built)) (sym (same_builders s (replay s h) (replay_names s h))) (by parts).1;
  }
    where
      by : Parts ms kind project b b' (entries_of 1 s h) → ((last : Option Build) → AllSettled ms last s h) × Sound ms (is_builder s) (records_of (replay s h).remembered.built)
      by (NoneCame around told) = (
        (λ last. settled_read ms (is_builder s) 1 last s h own refl (all_still ms (is_builder s) last (entries_of 1 s h) (of_each IsAround IsStill around_still (entries_of 1 s h) around))),
        all_sound ms (is_builder s) 1 s h own are (of_each IsAround (λ d. deed_commits d ≡ false) around_quiet (entries_of 1 s h) around) sound,
      )
      by (OneCame c) =
          let same : c.came.first.has ≡ is_builder s = c.came.begins.has ∙ has in
          let front : List books.Entry = at c.came.begins.first (Begin None) ∷ at c.came.begins.second Batch ∷ [] in
          let out : books.Entry = at c.came.first.now (Checkout kind project (started.Plan c.came.plan)) in
          let later : List books.Entry = c.works.entries ++ at c.found (CheckIn c.outcome) ∷ c.rest in
          let first : Sound ms (is_builder s) c.came.first.now.records = sound_to ms (is_builder s) 1 s h front out later own are c.are (refl, (refl, tt)) sound in
          let firsts : Sound ms c.came.first.has c.came.first.now.records = subst (λ (f : List ℕ → Bool). Sound ms f c.came.first.now.records) (sym same) first in
          let lasts : Sound ms (is_builder s) c.last.now.records = subst (λ (f : List ℕ → Bool). Sound ms f c.last.now.records) (c.works.adds.has ∙ same) (c.came.sound firsts) in (
            (λ last. settled_read ms (is_builder s) 1 last s h own refl
                (subst (λ (f : List ℕ → Bool). AreSettled ms f last (entries_of 1 s h)) same (came_settled ms kind project b b' (entries_of 1 s h) c firsts last))),
            sound_from ms (is_builder s) 1 s h (front ++ (out ∷ c.works.entries)) (at c.found (CheckIn c.outcome)) c.rest own are
                (c.are) (refl, of_each IsAround (λ d. deed_commits d ≡ false) around_quiet c.rest c.around)
                (subst (Sound ms (is_builder s)) (sym c.finds.records) lasts),
          )

module _ (ms : Meanings) (kind : BuildKind) (project : Option (List ℕ)) (x y : Session) (j i : ℕ) (c began told told' : List Told) (h : List Entry)
    (opened : y.opened ≡ x.opened) (history : y.history ≡ x.history ++ h) (placed : x.state ≡ replay x.opened x.history) (placed' : y.state ≡ replay y.opened y.history) (own : AllByRecursion (IsOwn 1) h)
    (legal : Legal y.opened y.history) (sound : AreSound ms x.state) where
  replied : AreReplies x.state h
  replied = subst (λ s. AreReplies s h) (sym placed)
      (later_replies x.opened x.history h (subst (λ s. AreReplies s (x.history ++ h)) opened (subst (AreReplies y.opened) history legal.replies)))

  state : y.state ≡ replay x.state h
  state = placed' ∙ (λ k. replay (opened k) (history k)) ∙ replay_append x.opened x.history h ∙ ap (λ s. replay s h) (sym placed)

  left : Parts ms kind project (book_of x 1 j c told) (book_of y 1 i began told') (entries_of 1 x.state h) → KeepsBuilt ms x.state y.state h
  left parts = subst (λ t. KeepsBuilt ms x.state t h) (sym state) (parts_keep ms kind project x.state h (book_of x 1 j c told) (book_of y 1 i began told') refl own replied sound parts)

  -- of a build that was answered
  pub answered_keeps : (a : BuildAnswer) → IsAnswered ms kind project (book_of x 1 j c told) a (book_of y 1 i began told') → KeepsBuilt ms x.state y.state h
  answered_keeps a answered = left (answered_parts ms kind project (book_of x 1 j c told) (book_of y 1 i began told') (entries_of 1 x.state h) (went_on x y h opened history placed) a answered)

  -- and of one that memory stopped
  pub unanswered_keeps : IsUnanswered ms kind project (book_of x 1 j c told) (book_of y 1 i began told') → KeepsBuilt ms x.state y.state h
  unanswered_keeps unanswered = left (unanswered_parts ms kind project (book_of x 1 j c told) (book_of y 1 i began told') (entries_of 1 x.state h) (went_on x y h opened history placed) unanswered)

-- ---- histories

-- of a history in two parts
pub keeps_on : (ms : Meanings) (s t u : Moment) (g h : List Entry) → t ≡ replay s g → KeepsBuilt ms s t g → KeepsBuilt ms t u h → KeepsBuilt ms s u (g ++ h)
keeps_on ms s t u g h placed p q = record {
  settled = λ last. settled_append ms last s g h (p.settled last) (subst (λ v. AllSettled ms (last_begun last g) v h) placed (q.settled (last_begun last g)));
  sound = q.sound;
}

-- where nothing is asked of the services for a build
pub plain_keeps : (ms : Meanings) (s t : Moment) (h : List Entry) → t ≡ replay s h → NoBuilds h → AreSound ms s → KeepsBuilt ms s t h
plain_keeps ms s t h placed none sound = record {
  settled = λ last. plain_settled ms last s h none;
  sound = subst (AreSound ms) (sym placed)
      (subst (λ (f : List ℕ → Bool). Sound ms f (records_of (replay s h).remembered.built)) (sym (same_builders s (replay s h) (replay_names s h))) (plain_sound ms (is_builder s) s h none sound));
}

-- a step that commits nothing
pub step_keeps : (ms : Meanings) (s : Moment) (k : ℕ) (e : Event) → has_committed e (step s k e).1.answer ≡ false → AreSound ms s → AreSound ms (step s k e).0
step_keeps ms s k e none sound =
    subst (λ (f : List ℕ → Bool). Sound ms f (records_of (step s k e).0.remembered.built)) (sym (same_builders s (step s k e).0 (step_names s k e))) (step_sound ms (is_builder s) s k e none sound)

-- the fresh workspace
pub fresh_keeps : (ms : Meanings) (builders : Names) → AreSound ms (fresh_for builders)
fresh_keeps ms builders = fresh_sound ms (is_builder (fresh_for builders)) builders
