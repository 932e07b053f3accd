-- What holds where a build settled.
use Rattle.std.specs.Prelude.{◌≡◌, ◌⊎◌, ℕ, Bool, true, false, List, [], ◌∷◌, Option, Some, None, IsSome}
use Rattle.std.specs.List.{list_any}
use Rattle.std.specs.Option.{IsSomeAnd, option_or}
use Rattle.std.specs.Str.{bytes_eq}
use Rattle.ws_elem.specs.Trees.{Tree}
use Rattle.builder_api.specs.declared.outcome.BuildOutcome.TheVariants.{Settled}
use Rattle.builder_api.specs.declared.plan.Plan.{Plan}
use Rattle.builder_api.specs.Files.{files_of}
use Rattle.builder_api.specs.Meanings.{Meanings}
use Rattle.build_laws.specs.Plans.{scratch}
use Rattle.build_laws.specs.Records.{Sound}
use Rattle.build_laws.specs.Builds.{AllFresh, AllLawful, present}
use Rattle.build_run.specs.Commands.{tasks_in}
use Rattle.core_event.specs.declared.entry.Entry.{Entry}
use Rattle.core_event.specs.declared.event.Event.{Event}
use Rattle.core_event.specs.declared.event.Event.TheVariants as events
use Rattle.core_event.specs.declared.reply.Answer.{Answer}
use Rattle.core_event.specs.declared.reply.Answer.TheVariants as answers
use Rattle.core_event.specs.declared.service.Outcomes.TheVariants as outcomes
use Rattle.core_event.specs.declared.service.Purpose.TheVariants as purposes
use Rattle.core_event.specs.declared.service.ServiceEvent.TheVariants as services
use Rattle.ws_core.specs.States.{Moment}
use Rattle.ws_core.specs.Histories.{after}
use Rattle.build_core.specs.States.{records_of}

-- a build as it was begun: its project, where it is of one alone, and its plan
pub record Build : Type 0 where
  pub scope : Option (List ℕ)
  pub plan : Plan

-- the build that an event with its answer begins, if it does
abbrev pub begun_by : Event → Answer → Option Build
begun_by (events.Service (services.Checkout (purposes.Build kind scope))) (answers.Plan plan) = Some (record { scope = scope; plan = plan })
begun_by event answer = None

-- the build that was begun last, after an entry and after a history
abbrev pub begun_with : Option Build → Entry → Option Build
begun_with last x = option_or (begun_by x.event x.reply.answer) last

abbrev pub last_begun : Option Build → List Entry → Option Build
last_begun last [] = last
last_begun last (x ∷ h) = last_begun (begun_with last x) h

-- whether an event with its answer ends a build that settled
abbrev pub is_settling : Event → Answer → Bool
is_settling (events.Service (services.CheckIn (outcomes.Build Settled))) answers.Done = true
is_settling event answer = false

-- whether there is a builder of a name
abbrev pub is_builder : Moment → List ℕ → Bool
is_builder s name = list_any (bytes_eq name) s.desk.builders

-- what a build that settled leaves in the tree
pub record IsSettled (ms : Meanings) (has : List ℕ → Bool) (tree : Tree) (build : Build) : Type 0 where
  -- each command of the plan whose builder is there, and tells its meaning, is fresh
  pub fresh : AllFresh ms has (tasks_in build.plan) tree
  -- and the files are those of a build from scratch, where all builders that are there tell meanings, and it was of one
  -- project or had no knots
  pub from_scratch : AllLawful ms has → IsSome build.scope ⊎ (build.plan.knots ≡ []) → files_of tree ≡ scratch ms (present has (tasks_in build.plan)) (files_of tree)

-- each build of a history that settled left that, where this one was begun last before the history
abbrev pub AllSettled : Meanings → Option Build → Moment → List Entry → Type 0
AllSettled ms last s [] = Unit {0}
AllSettled ms last s (x ∷ h) = (is_settling x.event x.reply.answer ≡ true → IsSomeAnd last (IsSettled ms (is_builder s) s.resources.tree)) × AllSettled ms (begun_with last x) (after s x) h

-- what was built last is sound
abbrev pub AreSound : Meanings → Moment → Type 0
AreSound ms s = Sound ms (is_builder s) (records_of s.remembered.built)

-- a history from one state to another: each build in it that settled left that, whichever was begun last before, and what
-- was built last is sound at its end
pub record KeepsBuilt (ms : Meanings) (s t : Moment) (h : List Entry) : Type 0 where
  pub settled : (last : Option Build) → AllSettled ms last s h
  pub sound : AreSound ms t
