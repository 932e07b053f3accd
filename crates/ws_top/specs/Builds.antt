-- What the builds of a run did.
use Rattle.std.specs.Prelude.{ℕ, List, None}
use Rattle.builder_api.specs.Meanings.{Meanings}
use Rattle.builder_api.specs.Told.{Told}
use Rattle.core_event.specs.declared.entry.Entry.{Entry}
use Rattle.ws_core.specs.States.{Moment}
use Rattle.build_history.specs.Calls.{calls, WereCalled}
use Rattle.build_history.specs.Dues.{AreDue}
use Rattle.build_history.specs.Handings.{AreRight, AreTold, HaveRisen, failures}
use Rattle.build_history.specs.Settled.{AllSettled, AreSound}
use Rattle.build_host.specs.Hosts.{StayBuilders}

-- In a history from the opened state on each command is handed exactly what is due, the delta since it was built last. The
-- builders were called for exactly what is handed and cleaned, in order, and no other. Each commit is right for what was
-- handed last: it makes what the builder's meaning says. An outcome that tells of a builder that failed tells of the command
-- that was handed something last, and the first builder of a name failed at least as often as outcomes tell. Where a build
-- settled each of its commands that has a builder with a meaning is fresh; and for one project or without knots, where all
-- builders that are there have meanings, the files are those of a build from scratch: this where what had been built when
-- the state was opened is so in the trees that were kept of it, as it is where this product built it with these builders.
pub record MakesBuilds (ms : Meanings) (opened : Moment) (h : List Entry) (old new : List Told) : Type 0 where
  pub due : AreDue opened h
  pub called : WereCalled (calls opened h) old new
  pub right : AreRight ms None opened h
  pub told : AreTold None opened h
  pub risen : (name : List ℕ) → HaveRisen name (failures name None opened h) old new
  pub settled : AreSound ms opened → AllSettled ms None opened h
  -- the builders keep their names, and mean what they meant
  pub stays : StayBuilders ms old new
