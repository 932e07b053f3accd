-- What is left of phases that are run and told.
use Rattle.std.specs.Prelude.{◌≡◌, ◌<◌, ℕ, true, List, ◌++◌, length, get_or, take}
use Rattle.core_event.specs.declared.entry.Entry.{Entry}
use Rattle.script_lang.specs.declared.script.Command.{Command}
use Rattle.script_lang.specs.declared.script.Phase as script
use Rattle.ws_core.specs.Histories.{has_entered, replay, told_of}
use Rattle.ws_core.specs.Sessions.{Session}
use Rattle.save_parts.specs.Heard.{Heard, HeardMore}
use Rattle.run_order.specs.Plans.{Phase}
use Rattle.run_order.specs.Parts.{Making}
use Rattle.run_order.specs.Orders.{IsPhase, IsCutPhase, Phases}
use Rattle.phase_run.specs.Calm.{IsCalm}
use Rattle.script_plan.specs.Plans.{phase_plan}
use Rattle.phase_run.specs.Inside.Doing.{IsReady, Makes, Stops}

-- each listener was told what the history told on the way from one to the other
abbrev pub Tells : List Entry → List Entry → List Heard → List Heard → Type 0
Tells h h' old new = (l : List Entry) × (h' ≡ h ++ l) × HeardMore (told_of l) old new

-- each was told what it told on some of that way
abbrev pub TellsFront : List Entry → List Entry → List Heard → List Heard → Type 0
TellsFront h h' old new = (l : List Entry) × (rest : List Entry) × (h' ≡ (h ++ l) ++ rest) × HeardMore (told_of l) old new

-- a phase was run and told
pub record RunsPhase (Make : Making Command) (phase : script.Phase) (a b : Session) (old new : List Heard) : Type 0 where
  pub made : Makes (IsPhase Make 1 (phase_plan phase) (replay a.opened a.history)) a b
  pub told : Tells a.history b.history old new

-- it was cut, and nothing was told
pub record CutsPhase (Make : Making Command) (phase : script.Phase) (a b : Session) (old new : List Heard) : Type 0 where
  pub stopped : Stops (IsCutPhase Make 1 (phase_plan phase) (replay a.opened a.history)) a b
  pub quiet : new ≡ old

-- phases were run, one after another, and told, and none of their builds ended for want of memory
pub record RunsPhases (Make : Making Command) (phases : List (Phase Command)) (a b : Session) (old new : List Heard) : Type 0 where
  pub opened : b.opened ≡ a.opened
  pub run : Phases Make 1 a.opened phases a.history b.history
  pub calm : IsCalm a.history → IsCalm b.history
  pub ready : IsReady b.state
  pub told : Tells a.history b.history old new

-- some phases were run and told, and the next one was cut
pub record CutsPhases (Make : Making Command) (phases : List (Phase Command)) (a b : Session) (old new : List Heard) : Type 0 where
  pub opened : b.opened ≡ a.opened
  pub at : ℕ
  pub few : at < length phases
  pub next : Phase Command
  pub front : List Entry
  pub middle : List Entry
  pub are : b.history ≡ front ++ middle
  pub run : Phases Make 1 a.opened (take at phases) a.history front
  pub cut : IsCutPhase Make 1 (get_or phases at next) (replay a.opened front) middle
  pub there : has_entered 1 b.state ≡ true
  pub told : TellsFront a.history b.history old new
