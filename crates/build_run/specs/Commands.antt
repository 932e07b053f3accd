-- What a build command did, and what it answers.
use Rattle.std.specs.Prelude.{◌≡◌, ◌⊎◌, ℕ, List, [], Option, IsSome}
use Rattle.builder_api.specs.declared.kind.BuildKind.{BuildKind}
use Rattle.builder_api.specs.declared.kind.BuildKind.TheVariants.{Full, Auto, Incremental, Clean}
use Rattle.builder_api.specs.declared.outcome.BuildOutcome.{BuildOutcome}
use Rattle.builder_api.specs.declared.outcome.BuildOutcome.TheVariants as outcome
use Rattle.builder_api.specs.declared.plan.Plan.{Plan}
use Rattle.builder_api.specs.Files.{files_of}
use Rattle.builder_api.specs.Tasks.{Task}
use Rattle.builder_api.specs.Meanings.{Meanings}
use Rattle.build_laws.specs.States.{State, Finds}
use Rattle.build_laws.specs.Records.{Sound}
use Rattle.build_laws.specs.Plans.{scratch}
use Rattle.build_laws.specs.Builds.{items_of, tasks_of, AllFresh, AllLawful, present}
use Rattle.build_run.specs.declared.answers.BuildAnswer.{BuildAnswer}
use Rattle.build_run.specs.declared.answers.BuildAnswer.TheVariants.{Ended, Stopped}
use Rattle.build_run.specs.Books.{Book}
use Rattle.build_run.specs.Ends.{AllCame, AllHalt}
use Rattle.build_run.specs.Sweeps.{SweptTo}
use Rattle.build_run.specs.Starts.{Begins, Stops, Fails, Closes, IsCut}

-- how a build came through the groups of a plan
abbrev pub BuiltTo : Meanings → Book → BuildKind → Plan → BuildOutcome → Book → Type 0
BuiltTo ms b kind plan outcome.Settled b' = AllCame ms b kind plan.order plan.knots b'
BuiltTo ms b kind plan (outcome.Unsettled names) b' = AllHalt ms b kind plan.order plan.knots (outcome.Unsettled names) b'
BuiltTo ms b kind plan (outcome.BuilderFailed p n) b' = AllHalt ms b kind plan.order plan.knots (outcome.BuilderFailed p n) b'
BuiltTo ms b kind plan (outcome.Refused n) b' = AllHalt ms b kind plan.order plan.knots (outcome.Refused n) b'
BuiltTo ms b kind plan outcome.NoMemory b' = AllHalt ms b kind plan.order plan.knots outcome.NoMemory b'
BuiltTo ms b kind plan outcome.Cleaned b' = ⊥

-- a clean build cleans the commands, any other one builds them
abbrev pub WentTo : Meanings → Book → BuildKind → Plan → BuildOutcome → Book → Type 0
WentTo ms b Full plan o b' = BuiltTo ms b Full plan o b'
WentTo ms b Auto plan o b' = BuiltTo ms b Auto plan o b'
WentTo ms b Incremental plan o b' = BuiltTo ms b Incremental plan o b'
WentTo ms b Clean plan o b' = SweptTo b plan.order o b'

-- the commands of a plan, in its order
abbrev pub tasks_in : Plan → List Task
tasks_in plan = tasks_of (items_of plan.order)

-- a build command that came to an outcome
pub record CameTo (ms : Meanings) (kind : BuildKind) (project : Option (List ℕ)) (b : Book) (o : BuildOutcome) (last : Book) : Type 0 where
  pub plan : Plan
  pub first : Book
  -- the entries that begin the command, and those of its commands up to what the outcome tells
  pub begins : Begins kind project b plan first
  pub went : (came : BuildOutcome) × WentTo ms first kind plan came last × ((o ≡ came) ⊎ (o ≡ outcome.NoMemory))
  -- from sound records it leaves sound ones, whatever the outcome
  pub sound : Sound ms first.has first.now.records → Sound ms last.has last.now.records
  -- where it settled, each command whose builder is there and tells its meaning is fresh in what the check-in finds
  pub fresh : o ≡ outcome.Settled → Sound ms first.has first.now.records → (found : State) → Finds last.now found → AllFresh ms first.has (tasks_in plan) found.tree
  -- and without knots the files there are those of a build from scratch, where all builders that are there tell meanings
  pub from_scratch : o ≡ outcome.Settled → Sound ms first.has first.now.records → AllLawful ms first.has → IsSome project ⊎ (plan.knots ≡ [])
      → (found : State) → Finds last.now found → files_of found.tree ≡ scratch ms (present first.has (tasks_in plan)) (files_of found.tree)

-- what a build command answers
abbrev pub IsAnswered : Meanings → BuildKind → Option (List ℕ) → Book → BuildAnswer → Book → Type 0
IsAnswered ms kind project b (Ended o) b' = (last : Book) × CameTo ms kind project b o last × Closes last o b'
IsAnswered ms kind project b (Stopped n) b' = Stops kind project b n b'

-- memory wanted before the plan was answered, after a refusal, or after the outcome was checked in
abbrev pub IsUnanswered : Meanings → BuildKind → Option (List ℕ) → Book → Book → Type 0
IsUnanswered ms kind project b b' = Fails kind project b b' ⊎ ((o : BuildOutcome) × (last : Book) × CameTo ms kind project b o last × IsCut last o b')
