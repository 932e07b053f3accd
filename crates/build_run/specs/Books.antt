-- What a pass has done of a build, as contracts see it.
use Rattle.std.specs.Prelude.{◌≡◌, ℕ, Bool, true, false, List, [], ◌∷◌, ◌++◌, Option, Some, None, Result, Ok, Err}
use Rattle.std.specs.List.{AllByRecursion, flat_map}
use Rattle.builder_api.specs.declared.builder.BuildFault.{BuildFault}
use Rattle.builder_api.specs.declared.builder.BuildFault.TheVariants as fault
use Rattle.builder_api.specs.declared.edits.Edits.{Edits}
use Rattle.builder_api.specs.declared.handed.Handed.{Handed}
use Rattle.builder_api.specs.declared.kind.BuildKind.{BuildKind}
use Rattle.builder_api.specs.declared.outcome.BuildOutcome.{BuildOutcome}
use Rattle.builder_api.specs.Meanings.{Meanings}
use Rattle.builder_api.specs.Told.{Told, WasFirstCalled, HasFirstRisen}
use Rattle.builder_api.specs.Told as calls
use Rattle.build_laws.specs.States.{Item, State, due, Finds}
use Rattle.build_laws.specs.Commits.{IsCommitted, IsCleaned}
use Rattle.build_laws.specs.Records.{Sound}
use Rattle.build_laws.specs.Turns.{Turn, Skip, Make, after, after_all, IsStamped, AreTurns}
use Rattle.build_run.specs.declared.answers.Given.{Given}
use Rattle.build_run.specs.declared.answers.Given.TheVariants as given
use Rattle.build_run.specs.declared.answers.Started.{Started}
use Rattle.build_run.specs.declared.answers.Taken.{Taken}
use Rattle.build_run.specs.declared.answers.Taken.TheVariants as taken

-- an event of a build command with its answer; a number is that of a refusal
pub data Deed : Type 0 where
  Begin : Option ℕ → Deed
  Batch : Deed
  Checkout : BuildKind → Option (List ℕ) → Started → Deed
  Handing : List ℕ → ℕ → BuildKind → Given → Deed
  Commit : Edits → Taken → Deed
  CleanUp : List ℕ → ℕ → Option ℕ → Deed
  CheckIn : BuildOutcome → Deed
  EndBatch : Deed
  End : Deed

-- an entry of the pass, and the state before it
pub record Entry : Type 0 where
  pub deed : Deed
  pub before : State

abbrev pub at : State → Deed → Entry
at s deed = record { deed = deed; before = s }

-- what was done outside the workspace: a builder was called and answered, or it cleaned
pub data Did : Type 0 where
  Called : Item → Handed → Result Edits BuildFault → Did
  Cleared : Item → Did

-- the first builder of the command's name tells that, and no other builder tells anything; its count rose where it failed
abbrev pub WasDone : Did → List Told → List Told → Type 0
WasDone (Called i handed answer) old new = WasFirstCalled i.command.builder (calls.Built i.command handed) old new × (answer ≡ Err fault.Failed → HasFirstRisen i.command.builder old new)
WasDone (Cleared i) old new = WasFirstCalled i.command.builder calls.Cleaned old new

-- all that was done, in order
abbrev pub WereDone : List Did → List Told → List Told → Type 0
WereDone [] old new = new ≡ old
WereDone (d ∷ ds) old new = (then : List Told) × WasDone d old then × WereDone ds then new

-- what a pass has done
pub record Book : Type 0 where
  -- its entries, oldest first, and those of the build command
  pub mine : List Entry
  pub since : List Entry
  -- what the builders told when the build command began, and what they tell
  pub began : List Told
  pub told : List Told
  -- the state that its last entry left
  pub now : State
  -- whether it may build: it has the services and the rule of the root, and a batch is open
  pub serving : Bool
  -- no pass has the services
  pub home : Bool
  -- whether there is a builder of a name
  pub has : List ℕ → Bool
  -- the command under way
  pub under : Option Item

-- the book with one entry more, which leaves a state
abbrev pub noted : Book → State → Deed → State → Book
noted b found deed next = record b { mine = b.mine ++ at found deed ∷ []; since = b.since ++ at found deed ∷ []; now = next }

-- the command that was handed something is under way
abbrev pub handed : Book → State → Item → BuildKind → Given → Book
handed b found i kind (given.Due h) = record (noted b found (Handing i.project i.index kind (given.Due h)) found) { under = Some i }
handed b found i kind (given.Refused n) = noted b found (Handing i.project i.index kind (given.Refused n)) found

-- what is due is handed; it is refused just where there is no builder, with 35
abbrev pub IsGiven : Book → State → Item → BuildKind → Given → Type 0
IsGiven b found i kind (given.Due h) = (b.has i.command.builder ≡ true) × (h ≡ due found i kind) × IsStamped found i
IsGiven b found i kind (given.Refused n) = (b.has i.command.builder ≡ false) × (n ≡ 35)

-- a command was handed something, in a state in which others have changed markers alone
pub record Hands (b : Book) (i : Item) (kind : BuildKind) (answer : Given) (b' : Book) : Type 0 where
  pub found : State
  pub finds : Finds b.now found
  pub given : IsGiven b found i kind answer
  pub book : b' ≡ handed b found i kind answer

-- a commit, in such a state
abbrev pub Takes : Book → Item → Edits → Taken → Book → Type 0
Takes b i e (taken.Committed touched problems) b' = (found : State) × (next : State) × Finds b.now found × IsCommitted found i e touched problems next
    × (b' ≡ noted b found (Commit e (taken.Committed touched problems)) next)
Takes b i e (taken.Refused n) b' = (found : State) × Finds b.now found × (b' ≡ noted b found (Commit e (taken.Refused n)) found)

-- a cleaning, in such a state; it is refused just where there is no builder, with 35
abbrev pub Cleans : Book → Item → Option ℕ → Book → Type 0
Cleans b i None b' = (found : State) × (next : State) × Finds b.now found × (b.has i.command.builder ≡ true) × IsCleaned found i next
    × WasDone (Cleared i) b.told b'.told × (b' ≡ record (noted b found (CleanUp i.project i.index None) next) { told = b'.told; under = None })
Cleans b i (Some n) b' = (found : State) × Finds b.now found × (b.has i.command.builder ≡ false) × (n ≡ 35)
    × (b' ≡ noted b found (CleanUp i.project i.index (Some n)) found)

-- the entries of a turn, and what it did outside
abbrev pub turn_entries : Turn → List Entry
turn_entries (Skip kind i found) = at found (Handing i.project i.index kind (given.Refused 35)) ∷ []
turn_entries (Make kind i w) = at w.first (Handing i.project i.index kind (given.Due w.handed)) ∷ at w.then (Commit w.edits (taken.Committed w.touched w.problems)) ∷ []

abbrev pub turn_calls : Turn → List Did
turn_calls (Skip kind i found) = []
turn_calls (Make kind i w) = Called i w.handed (Ok w.edits) ∷ []

-- these entries were added, and this was done outside
pub record Adds (b b' : Book) (es : List Entry) (ds : List Did) : Type 0 where
  pub mine : b'.mine ≡ b.mine ++ es
  pub since : b'.since ≡ b.since ++ es
  pub began : b'.began ≡ b.began
  pub done : WereDone ds b.told b'.told
  pub serving : b'.serving ≡ b.serving
  pub has : b'.has ≡ b.has

-- these turns lead from one book to another
pub record Ran (ms : Meanings) (b b' : Book) (xs : List Turn) : Type 0 where
  pub adds : Adds b b' (flat_map turn_entries xs) (flat_map turn_calls xs)
  pub now : b'.now ≡ after_all b.now xs
  -- what was handed is due, and what was committed is right
  pub turns : AreTurns ms b.has b.now xs
  -- and from sound records each leaves sound ones
  pub sounds : Sound ms b.has b.now.records → AllByRecursion (λ x. Sound ms b.has (after x).records) xs
