-- A build of a pass, beside what other passes do.
use Rattle.std.specs.Prelude.{◌≡◌, ◌≢◌, ◌⊎◌, ◌<◌, ℕ, not, List, [], ◌∷◌, ◌++◌, Option, None, Result, IfOk, OnErr, true, false}
use Rattle.std.specs.declared.alloc.AllocError.{AllocError}
use Rattle.std.specs.List.{AllByRecursion}
use Rattle.pass_table.specs.Passes.{serves}
use Rattle.builder_api.specs.declared.kind.BuildKind.{BuildKind}
use Rattle.builder_api.specs.declared.outcome.BuildOutcome.{BuildOutcome}
use Rattle.builder_api.specs.Meanings.{Meanings}
use Rattle.builder_api.specs.Told.{Told}
use Rattle.build_run.specs.declared.answers.BuildAnswer.{BuildAnswer}
use Rattle.build_run.specs.Books.{Book}
use Rattle.build_run.specs.Commands.{IsAnswered, IsUnanswered}
use Rattle.core_event.specs.declared.entry.Entry.{Entry}
use Rattle.core_event.specs.declared.event.Event.{Event}
use Rattle.core_event.specs.declared.event.Event.TheVariants.{Service}
use Rattle.core_event.specs.declared.reply.Answer.TheVariants.{Done}
use Rattle.core_event.specs.declared.reply.Reply.{Reply}
use Rattle.core_event.specs.declared.service.Outcomes.TheVariants.{Build}
use Rattle.core_event.specs.declared.service.ServiceEvent.TheVariants.{CheckIn}
use Rattle.core_event.specs.Events.{service_of}
use Rattle.ws_core.specs.States.{Moment}
use Rattle.ws_core.specs.Histories.{Legal, replay}
use Rattle.ws_turn.specs.Lists.{StartsWith, of}
use Rattle.pass_turns.specs.Turns.{IsFaithful, Knows}
use Rattle.pass_history.specs.Served.{services_of, was_done}
use Rattle.build_core.specs.Histories.{book_of, may_build}
use Rattle.build_history.specs.Events.{IsOwn}
use Rattle.build_beside.specs.Called.{WereServed}
use Rattle.build_beside.specs.Turns.{pass_of, session}

-- What pass n has done of a build, as a history tells it in which others' entries stand between: these have no part in it. Its build
-- command began after so many entries, when builders told this. That the services are home means here that the pass hasn't them.
abbrev pub book_in : Moment → ℕ → ℕ → List Told → List Told → List Entry → Book
book_in s n start began told h = record (book_of (session s h) n start began told) { home = not (serves (replay s h).manager.passes n) }

-- After the history g, with which h begins, pass n made the entries of one build command, which was answered so: as builds read
-- them they begin it, hand each command what is due, commit what is right while others changed markers alone, and check in what
-- came of it. The builders told the one when the pass took the services, and the other when it gave them back.
pub record IsBuildBeside (ms : Meanings) (n : ℕ) (kind : BuildKind) (project : Option (List ℕ)) (s : Moment) (g h : List Entry) (answer : BuildAnswer) : Type 0 where
  pub told : List Told
  pub now : List Told
  pub start : ℕ
  pub began : List Told
  pub answered : IsAnswered ms kind project (book_in s n 0 [] told g) answer (book_in s n start began now h)

-- the first of such entries, where memory wanted
pub record IsCutBeside (ms : Meanings) (n : ℕ) (kind : BuildKind) (project : Option (List ℕ)) (s : Moment) (g h : List Entry) : Type 0 where
  pub told : List Told
  pub now : List Told
  pub start : ℕ
  pub began : List Told
  pub unanswered : IsUnanswered ms kind project (book_in s n 0 [] told g) (book_in s n start began now h)

-- The pass made a build in turns of its own. Where it was answered, its last entry is the last one that the pass has seen; where memory
-- wanted, others may have gone on since its last entry.
pub record WasBuilt (ms : Meanings) (kind : BuildKind) (project : Option (List ℕ)) (s : Moment) (answer : Result BuildAnswer AllocError) (k j : Knows Entry) : Type 0 where
  pub begins : StartsWith j.seen k.seen
  pub number : j.number ≡ k.number
  pub lost : j.lost ≡ k.lost
  pub made : (entries : List Entry) × (j.mine ≡ k.mine ++ entries) × AllByRecursion (IsOwn k.number) entries
  pub built : IfOk answer (IsBuildBeside ms k.number kind project s k.seen j.seen)
  pub cut : OnErr answer ((h : List Entry) × StartsWith j.seen h × (of pass_of k.number h ≡ j.mine) × IsCutBeside ms k.number kind project s k.seen h)
  pub legal_seen : (j.seen ≡ k.seen) ⊎ Legal s j.seen
  pub faithful : IsFaithful pass_of j

-- ---- the services are given back

abbrev pub check_in : BuildOutcome → Event
check_in o = Service (CheckIn (Build o))

-- the entry is one of pass n for its build, or one of another that left the services alone
abbrev pub IsAside : ℕ → Entry → Type 0
IsAside n x = IsOwn n x ⊎ ((x.pass ≢ n) × ((service_of x.event ≡ None) ⊎ (was_done x.reply.answer ≡ false)))

-- Pass n took the services for a build at the end of the history g, when the builders told the one, and has them still at the end of h,
-- when they tell the other: it may give them back with this outcome.
pub record MayReturn (ms : Meanings) (s : Moment) (n : ℕ) (o : BuildOutcome) (g h : List Entry) (old new : List Told) : Type 0 where
  pub since : List Entry
  pub are : h ≡ g ++ since
  pub aside : AllByRecursion (IsAside n) since
  pub below : n < (replay s h).manager.passes.next
  pub may : may_build (replay s h) n ≡ true
  -- builders were called for what the services were asked since, the check-in among it, and for nothing else
  pub served : (r : Reply) → r.answer ≡ Done → WereServed ms (services_of (replay s g) (since ++ record { pass = n; event = check_in o; reply = r } ∷ [])) old new
