-- How a build comes through, and how it halts.
use Rattle.std.specs.Prelude.{◌≡◌, ◌⊎◌, ◌<◌, Bool, true, false, List, [], ◌∷◌, ◌++◌, map, length, Result, Ok, Err}
use Rattle.std.specs.List.{flat_map}
use Rattle.res_path.specs.Paths.{Names}
use Rattle.builder_api.specs.declared.builder.BuildFault.{BuildFault}
use Rattle.builder_api.specs.declared.builder.BuildFault.TheVariants as fault
use Rattle.builder_api.specs.declared.edits.Edits.{Edits}
use Rattle.builder_api.specs.declared.kind.BuildKind.{BuildKind}
use Rattle.builder_api.specs.declared.outcome.BuildOutcome.{BuildOutcome}
use Rattle.builder_api.specs.declared.outcome.BuildOutcome.TheVariants as outcome
use Rattle.builder_api.specs.Meanings.{Meanings}
use Rattle.build_laws.specs.States.{Item, State, due, Finds}
use Rattle.build_laws.specs.Turns.{Turn}
use Rattle.build_laws.specs.Builds.{Project, items_of, Untouched, IsRound, kind_after, Stirs, GroupBuilt, AllBuilt}
use Rattle.build_laws.specs.Planned.{IsPlanned}
use Rattle.build_run.specs.declared.answers.Given.TheVariants as given
use Rattle.build_run.specs.declared.answers.Taken.TheVariants as taken
use Rattle.build_run.specs.Books.{Book, Entry, Did, Called, Handing, Commit, at, Adds, Ran}

-- whether some turn touched a file
abbrev pub IsStirred : Bool → List Turn → Type 0
IsStirred true xs = ¬ (Untouched xs)
IsStirred false xs = Untouched xs

-- in this state the command was handed what was due
abbrev pub handing : State → Item → BuildKind → Entry
handing found i kind = at found (Handing i.project i.index kind (given.Due (due found i kind)))

-- the command's turn has begun and the build ends there, with the book as the entries left it
abbrev pub Halts : Book → Item → BuildKind → BuildOutcome → Book → Type 0
-- its builder failed
Halts b i kind (outcome.BuilderFailed p n) b' = (found : State) × Finds b.now found × (b.has i.command.builder ≡ true) × (p ≡ i.project) × (n ≡ i.index)
    × Adds b b' (handing found i kind ∷ []) (Called i (due found i kind) (Err fault.Failed) ∷ []) × (b'.now ≡ found)
-- its commit was refused
Halts b i kind (outcome.Refused n) b' = (found : State) × (then : State) × (e : Edits) × Finds b.now found × Finds found then × (b.has i.command.builder ≡ true)
    × Adds b b' (handing found i kind ∷ at then (Commit e (taken.Refused n)) ∷ []) (Called i (due found i kind) (Ok e) ∷ []) × (b'.now ≡ then)
-- memory wanted, before it was handed something or after its builder was called
Halts b i kind outcome.NoMemory b' = (es : List Entry) × (ds : List Did) × Adds b b' es ds × Finds b.now b'.now
    × (((es ≡ []) × (ds ≡ [])) ⊎ ((es ≡ handing b'.now i kind ∷ []) × ((answer : Result Edits BuildFault) × (ds ≡ Called i (due b'.now i kind) answer ∷ []))))
-- and never so
Halts b i kind outcome.Settled b' = ⊥
Halts b i kind (outcome.Unsettled names) b' = ⊥
Halts b i kind outcome.Cleaned b' = ⊥

-- after these turns of a round it is this command's
pub record IsNext (kind : BuildKind) (is : List Item) (xs : List Turn) (i : Item) : Type 0 where
  pub front : List Item
  pub rest : List Item
  pub are : is ≡ front ++ i ∷ rest
  pub round : IsRound kind front xs

-- a round that halted at a command's turn
pub record RoundHalts (ms : Meanings) (b : Book) (kind : BuildKind) (is : List Item) (o : BuildOutcome) (b' : Book) : Type 0 where
  pub front : List Turn
  pub at : Item
  pub next : IsNext kind is front at
  pub book : Book
  pub ran : Ran ms b book front
  pub halts : Halts book at kind o b'

-- a round that came through, and whether it touched a file
pub record RoundCame (ms : Meanings) (b : Book) (kind : BuildKind) (is : List Item) (touched : Bool) (b' : Book) : Type 0 where
  pub turns : List Turn
  pub ran : Ran ms b b' turns
  pub round : IsRound kind is turns
  pub stirred : IsStirred touched turns

-- a knot that halted in one of its ten rounds, or touched files in all of them
pub record KnotHalts (ms : Meanings) (b : Book) (kind : BuildKind) (is : List Item) (names : Names) (o : BuildOutcome) (b' : Book) : Type 0 where
  pub rounds : List (List Turn)
  pub book : Book
  pub stirs : Stirs kind is rounds
  pub ran : Ran ms b book (flat_map (λ r. r) rounds)
  pub ends : ((length rounds < 10) × RoundHalts ms book (kind_after kind rounds) is o b')
      ⊎ ((length rounds ≡ 10) × (b' ≡ book) × ((o ≡ outcome.Unsettled names) ⊎ (o ≡ outcome.NoMemory)))

-- a project that halted is one in its only round
abbrev pub GroupHalts : Meanings → Book → BuildKind → List Project → BuildOutcome → Book → Type 0
GroupHalts ms b kind [] o b' = ⊥
GroupHalts ms b kind (p ∷ []) o b' = RoundHalts ms b kind (items_of (p ∷ [])) o b'
GroupHalts ms b kind (p ∷ q ∷ ps) o b' = KnotHalts ms b kind (items_of (p ∷ q ∷ ps)) (map (λ x. x.0) (p ∷ q ∷ ps)) o b'

-- a group came through
pub record GroupCame (ms : Meanings) (b : Book) (kind : BuildKind) (g : List Project) (b' : Book) : Type 0 where
  pub turns : List Turn
  pub ran : Ran ms b b' turns
  pub built : GroupBuilt kind g turns

-- the groups of the plan all came through
pub record AllCame (ms : Meanings) (b : Book) (kind : BuildKind) (order : List Project) (knots : List Names) (b' : Book) : Type 0 where
  pub groups : List (List Project)
  pub planned : IsPlanned b.now.descs order knots groups
  pub turns : List Turn
  pub ran : Ran ms b b' turns
  pub built : AllBuilt kind groups turns

-- the groups before one came through, and there the build halted
pub record AllHalt (ms : Meanings) (b : Book) (kind : BuildKind) (order : List Project) (knots : List Names) (o : BuildOutcome) (b' : Book) : Type 0 where
  pub front : List (List Project)
  pub group : List Project
  pub rest : List (List Project)
  pub planned : IsPlanned b.now.descs order knots (front ++ group ∷ rest)
  pub turns : List Turn
  pub book : Book
  pub ran : Ran ms b book turns
  pub built : AllBuilt kind front turns
  pub halts : GroupHalts ms book kind group o b'
