-- How a build command begins and ends.
use Rattle.std.specs.Prelude.{◌≡◌, ◌⊎◌, ℕ, true, List, [], ◌∷◌, ◌++◌, map, Option, Some, None, IfSome, Err}
use Rattle.std.specs.List.{flat_map}
use Rattle.builder_api.specs.declared.builder.BuildFault.TheVariants as fault
use Rattle.builder_api.specs.declared.handed.Handed.{Handed}
use Rattle.builder_api.specs.declared.kind.BuildKind.{BuildKind}
use Rattle.builder_api.specs.declared.outcome.BuildOutcome.{BuildOutcome}
use Rattle.builder_api.specs.declared.outcome.BuildOutcome.TheVariants as outcome
use Rattle.builder_api.specs.declared.plan.Plan.{Plan}
use Rattle.build_laws.specs.States.{Item, State, Finds}
use Rattle.build_laws.specs.Builds.{Project}
use Rattle.build_laws.specs.Planned.{IsPlanned}
use Rattle.build_run.specs.declared.answers.Given.TheVariants as given
use Rattle.build_run.specs.declared.answers.Started.{Started}
use Rattle.build_run.specs.declared.answers.Started.TheVariants as started
use Rattle.build_run.specs.Books.{Book, Entry, Deed, Begin, Batch, Checkout, Handing, Commit, CleanUp, CheckIn, EndBatch, End, at, Did, Called, Cleared, WereDone}

-- a command has begun, with a plan of valid projects; one project's has that project alone
pub record Begins (kind : BuildKind) (project : Option (List ℕ)) (b : Book) (plan : Plan) (b' : Book) : Type 0 where
  pub first : State
  pub second : State
  pub since : b'.since ≡ at first (Begin None) ∷ at second Batch ∷ at b'.now (Checkout kind project (started.Plan plan)) ∷ []
  pub mine : b'.mine ≡ b.mine ++ b'.since
  pub began : b'.began ≡ b'.told
  pub told : b'.told ≡ b.told
  pub serving : b'.serving ≡ true
  pub has : b'.has ≡ b.has
  pub groups : List (List Project)
  pub planned : IsPlanned b'.now.descs plan.order plan.knots groups
  pub one : IfSome project (λ name. map (λ p. p.0) plan.order ≡ name ∷ [])

-- the entries of a command that was refused with a number: its beginning alone, or all but the build after its checkout
abbrev pub IsStopped : BuildKind → Option (List ℕ) → ℕ → List Entry → Type 0
IsStopped kind project n es = ((x : State) × (es ≡ at x (Begin (Some n)) ∷ []))
    ⊎ ((x : State) × (y : State) × (z : State) × (u : State) × (v : State)
    × (es ≡ at x (Begin None) ∷ at y Batch ∷ at z (Checkout kind project (started.Refused n)) ∷ at u EndBatch ∷ at v End ∷ []))

-- a command was refused
pub record Stops (kind : BuildKind) (project : Option (List ℕ)) (b : Book) (n : ℕ) (b' : Book) : Type 0 where
  pub entries : List Entry
  pub mine : b'.mine ≡ b.mine ++ entries
  pub told : b'.told ≡ b.told
  pub home : b'.home ≡ b.home
  pub stopped : IsStopped kind project n entries

-- memory wanted before the checkout, or after a refused one: the entries are the first of a command that is refused
pub record Fails (kind : BuildKind) (project : Option (List ℕ)) (b b' : Book) : Type 0 where
  pub entries : List Entry
  pub mine : b'.mine ≡ b.mine ++ entries
  pub told : b'.told ≡ b.told
  pub rest : List Entry
  pub number : ℕ
  pub stopped : IsStopped kind project number (entries ++ rest)

abbrev pub Opens : BuildKind → Option (List ℕ) → Book → Started → Book → Type 0
Opens kind project b (started.Plan plan) b' = Begins kind project b plan b'
Opens kind project b (started.Refused n) b' = Stops kind project b n b'

-- the outcome was checked in, and these entries followed
pub record ChecksIn (b : Book) (o : BuildOutcome) (rest : List Entry) (b' : Book) : Type 0 where
  pub found : State
  pub finds : Finds b.now found
  pub mine : b'.mine ≡ b.mine ++ at found (CheckIn o) ∷ rest
  pub told : b'.told ≡ b.told
  pub home : b'.home ≡ true

-- a command has ended
pub record Closes (b : Book) (o : BuildOutcome) (b' : Book) : Type 0 where
  pub first : State
  pub second : State
  pub checked : ChecksIn b o (at first EndBatch ∷ at second End ∷ []) b'

-- memory wanted after the outcome was checked in
abbrev pub IsCut : Book → BuildOutcome → Book → Type 0
IsCut b o b' = ChecksIn b o [] b' ⊎ ((s : State) × ChecksIn b o (at s EndBatch ∷ []) b')

-- a command that was handed something, or that was cleaned
pub data Asked : Type 0 where
  Built : List ℕ → ℕ → Handed → Asked
  Cleaned : List ℕ → ℕ → Asked

-- what the entry asks of a builder
abbrev pub asked_by : Deed → List Asked
asked_by (Begin x) = []
asked_by Batch = []
asked_by (Checkout kind project x) = []
asked_by (Handing p n kind (given.Due h)) = Built p n h ∷ []
asked_by (Handing p n kind (given.Refused k)) = []
asked_by (Commit e x) = []
asked_by (CleanUp p n None) = Cleaned p n ∷ []
asked_by (CleanUp p n (Some k)) = []
asked_by (CheckIn o) = []
asked_by EndBatch = []
asked_by End = []

abbrev pub asked_in : List Entry → List Asked
asked_in es = flat_map (λ x. asked_by x.deed) es

-- what a builder was called for
abbrev pub call_of : Did → Asked
call_of (Called i h answer) = Built i.project i.index h
call_of (Cleared i) = Cleaned i.project i.index

-- builders were called for exactly what the entries ask, in order
abbrev pub AreCalls : List Entry → List Did → Type 0
AreCalls es ds = asked_in es ≡ map call_of ds

-- since the command began builders were called for exactly that
abbrev pub AreCalled : Book → Type 0
AreCalled b = (ds : List Did) × WereDone ds b.began b.told × AreCalls b.since ds

-- that a builder failed is told only of the last call
abbrev pub IsTold : List Did → BuildOutcome → Type 0
IsTold ds (outcome.BuilderFailed p n) = (front : List Did) × (i : Item) × (h : Handed) × (ds ≡ front ++ Called i h (Err fault.Failed) ∷ []) × (p ≡ i.project) × (n ≡ i.index)
IsTold ds outcome.Settled = Unit {0}
IsTold ds (outcome.Unsettled names) = Unit {0}
IsTold ds (outcome.Refused n) = Unit {0}
IsTold ds outcome.Cleaned = Unit {0}
IsTold ds outcome.NoMemory = Unit {0}

-- builders were called for exactly that, and the outcome tells of the last one where it says that a builder failed
abbrev pub IsToldOf : Book → BuildOutcome → Type 0
IsToldOf b o = (ds : List Did) × WereDone ds b.began b.told × AreCalls b.since ds × IsTold ds o

-- what was done outside since the command began lets it come to the outcome
abbrev pub Ends : (List Entry → List Did → BuildOutcome → Type 0) → Book → BuildOutcome → Type 0
Ends ends b o = (ds : List Did) × WereDone ds b.began b.told × ends b.since ds o

-- a command may end for want of memory at any time, and else where builders were called for what was asked
pub record MayEnd (ends : List Entry → List Did → BuildOutcome → Type 0) : Type 0 where
  pub memory : (es : List Entry) (ds : List Did) → ends es ds outcome.NoMemory
  pub called : (es : List Entry) (ds : List Did) (o : BuildOutcome) → AreCalls es ds → IsTold ds o → ends es ds o
