-- All builds of a pass in a history, each at its place.
use Rattle.std.specs.Prelude.{◌≡◌, ℕ, List, ◌++◌, filter, Option, MatchOption}
use Rattle.std.specs.List.{AllByRecursion, flat_map}
use Rattle.builder_api.specs.declared.kind.BuildKind.{BuildKind}
use Rattle.builder_api.specs.Meanings.{Meanings}
use Rattle.build_run.specs.declared.answers.BuildAnswer.{BuildAnswer}
use Rattle.core_event.specs.declared.entry.Entry.{Entry}
use Rattle.ws_core.specs.States.{Moment}
use Rattle.build_history.specs.Events.{is_of_build}
use Rattle.run_order.specs.Lists.{own, Begins}
use Rattle.build_beside.specs.Beside.{IsBuildBeside, IsCutBeside}

-- a build command of a pass: what had been seen when it began, what was seen since, and what it answered, if it wasn't stopped
pub record OneBuild : Type 0 where
  pub kind : BuildKind
  pub project : Option (List ℕ)
  pub before : List Entry
  pub since : List Entry
  pub answer : Option BuildAnswer

-- pass n made the build in the history: a whole one, or the first entries of one where memory wanted
pub record WasMade (ms : Meanings) (s : Moment) (n : ℕ) (h : List Entry) (b : OneBuild) : Type 0 where
  pub stands : Begins (b.before ++ b.since) h
  pub did : MatchOption b.answer (IsCutBeside ms n b.kind b.project s b.before (b.before ++ b.since)) (IsBuildBeside ms n b.kind b.project s b.before (b.before ++ b.since))

-- the entries by which pass n asked the services for something of a build
abbrev pub asked : ℕ → List Entry → List Entry
asked n h = filter (λ (x : Entry). is_of_build x.event) (own n h)

-- all that pass n asked the services for builds it asked in these, one after another, each of which is as builds are beside others
pub record AreBuilds (ms : Meanings) (s : Moment) (n : ℕ) (h : List Entry) : Type 0 where
  pub builds : List OneBuild
  pub each : AllByRecursion (WasMade ms s n h) builds
  pub all : asked n h ≡ flat_map (λ (b : OneBuild). asked n b.since) builds
