-- A build of a pass that is under way beside others.
use Rattle.std.specs.Prelude.{◌≡◌, ◌<◌, ℕ, true, List, [], ◌∷◌, ◌++◌, map, Option, None}
use Rattle.std.specs.List.{AllByRecursion}
use Rattle.builder_api.specs.declared.kind.BuildKind.{BuildKind}
use Rattle.builder_api.specs.declared.outcome.BuildOutcome.{BuildOutcome}
use Rattle.builder_api.specs.declared.plan.Plan.{Plan}
use Rattle.builder_api.specs.Meanings.{Meanings}
use Rattle.builder_api.specs.Told.{HaveMeanings, Told}
use Rattle.build_laws.specs.States.{Finds, State}
use Rattle.build_run.specs.declared.answers.Started.TheVariants as started
use Rattle.build_run.specs.Books as books
use Rattle.build_run.specs.Books.{Batch, Begin, Book, Checkout, at}
use Rattle.build_run.specs.Commands.{CameTo}
use Rattle.core_event.specs.declared.entry.Entry.{Entry}
use Rattle.ws_core.specs.States.{Moment}
use Rattle.ws_core.specs.Histories.{replay}
use Rattle.build_core.specs.States.{state_of}
use Rattle.build_core.specs.Histories.{entries_of, may_build}
use Rattle.build_host.specs.Hosts.{StayBuilders}
use Rattle.build_beside.specs.Beside.{IsAside, book_in}
use Rattle.build_beside.specs.Turns.{Looked}

-- the entries that begin a build
abbrev pub beginning : State → State → State → BuildKind → Option (List ℕ) → Plan → List books.Entry
beginning first second third kind project plan = at first (Begin None) ∷ at second Batch ∷ at third (Checkout kind project (started.Plan plan)) ∷ []

-- after the history k, up to g, pass n began a build: it took the services by its last entry
pub record HasBegun (kind : BuildKind) (project : Option (List ℕ)) (s : Moment) (n : ℕ) (k g : List Entry) : Type 0 where
  pub first : State
  pub second : State
  pub third : State
  pub plan : Plan
  pub are : entries_of n s g ≡ entries_of n s k ++ beginning first second third kind project plan

-- since the history g there were entries of pass n for its build, and others that left the services alone
pub record WentAside (n : ℕ) (g h : List Entry) : Type 0 where
  pub since : List Entry
  pub are : h ≡ g ++ since
  pub aside : AllByRecursion (IsAside n) since

-- the pass may build at the end of the history
pub record MayGoOn (s : Moment) (n : ℕ) (h : List Entry) : Type 0 where
  pub below : n < (replay s h).manager.passes.next
  pub may : may_build (replay s h) n ≡ true

-- The pass took the services at the end of the history g, when the builders told the one; its last entry is the last of h, and it has
-- seen j, to which others led. Now the builders tell the other.
pub record IsUnderWay (ms : Meanings) (s : Moment) (n : ℕ) (g h j : List Entry) (old new : List Told) : Type 0 where
  pub looked : Looked n s h j
  pub goes_on : MayGoOn s n h
  pub aside : WentAside n g h
  pub named : (replay s h).desk.builders ≡ map (λ (t : Told). t.named) new
  pub means : HaveMeanings ms new
  pub stays : StayBuilders ms old new

-- a book that has the pass's entries in a history, and the state that this leads to, but for markers
pub record IsLast (n : ℕ) (s : Moment) (tells : List Told) (g : List Entry) (last : Book) : Type 0 where
  pub mine : last.mine ≡ entries_of n s g
  pub told : last.told ≡ tells
  pub finds : Finds last.now (state_of (replay s g))

-- a build that pass n began after the history k, and for which it took the services at the end of g, came to an outcome, up to j
pub record CameThrough (ms : Meanings) (kind : BuildKind) (project : Option (List ℕ)) (s : Moment) (n : ℕ) (o : BuildOutcome) (k g j : List Entry) (old new : List Told) : Type 0 where
  pub last : Book
  pub came : CameTo ms kind project (book_in s n 0 [] old k) o last
  pub is_last : IsLast n s new j last
  pub goes_on : MayGoOn s n j
  pub aside : WentAside n g j
  pub stays : StayBuilders ms old new
