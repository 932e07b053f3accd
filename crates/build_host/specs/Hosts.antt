-- What the one worker's events of builds keep.
use Rattle.std.specs.Prelude.{◌≡◌, ◌≤◌, ℕ, true, List, ◌++◌, map, Option, Some}
use Rattle.std.specs.List.{AllByRecursion}
use Rattle.pass_table.specs.Passes.{job_of}
use Rattle.core_event.specs.declared.entry.Entry.{Entry}
use Rattle.core_event.specs.declared.event.Event.{Event}
use Rattle.core_event.specs.declared.event.Event.TheVariants.{Service}
use Rattle.core_event.specs.declared.service.Purpose.TheVariants as purposes
use Rattle.core_event.specs.declared.service.ServiceEvent.TheVariants.{Checkout}
use Rattle.builder_api.specs.declared.kind.BuildKind.{BuildKind}
use Rattle.builder_api.specs.Told.{Told, HaveMeanings}
use Rattle.builder_api.specs.Meanings.{Meanings}
use Rattle.ws_core.specs.States.{Moment}
use Rattle.ws_core.specs.Histories.{has_entered, replay}
use Rattle.ws_core.specs.Sessions.{Session}
use Rattle.ws_core.specs.Steps.{step}
use Rattle.build_run.specs.declared.answers.Started.{Started}
use Rattle.build_core.specs.Histories.{started_of, Steps}
use Rattle.build_history.specs.Events.{IsOwn}
use Rattle.build_history.specs.Calls.{calls, WereCalled}
use Rattle.build_history.specs.Handings.{AnswersHandings, Handing}
use Rattle.build_history.specs.Settled.{AreSound, KeepsBuilt}
use Rattle.run_order.specs.Alone.{IsSingle}
use Rattle.run_order.specs.Counts.{left}

-- the passes stay, all rules are the worker's, it runs the job that it ran, and no more jobs are left than before
pub record Keeps (s t : Moment) : Type 0 where
  pub zeroth : has_entered 0 s ≡ true → has_entered 0 t ≡ true
  pub worker : has_entered 1 s ≡ true → has_entered 1 t ≡ true
  pub single : IsSingle s.manager → IsSingle t.manager
  pub job : job_of t.manager.passes 1 ≡ job_of s.manager.passes 1
  pub left : left t ≤ left s

-- the builders are those whose names the workspace has, in their order
abbrev pub AreNamed : Session → List Told → Type 0
AreNamed x told = x.state.desk.builders ≡ map (λ b. b.named) told

-- the worker has entered, and it alone has rules
pub record IsAlone (s : Moment) : Type 0 where
  pub worker : has_entered 1 s ≡ true
  pub single : IsSingle s.manager

-- the worker may build: the builders are those of the workspace, and mean what is told of them
pub record IsReady (ms : Meanings) (x : Session) (told : List Told) : Type 0 where
  pub alone : IsAlone x.state
  pub named : AreNamed x told
  pub means : HaveMeanings ms told

-- the worker went on by entries of builds
pub record Goes (x y : Session) : Type 0 where
  pub opened : y.opened ≡ x.opened
  pub entries : List Entry
  pub history : y.history ≡ x.history ++ entries
  pub own : AllByRecursion (IsOwn 1) entries
  pub keeps : Keeps x.state y.state
  pub names : y.state.desk.builders ≡ x.state.desk.builders

-- the builders have their names and mean what they meant
pub record StayBuilders (ms : Meanings) (old new : List Told) : Type 0 where
  pub names : map (λ b. b.named) new ≡ map (λ b. b.named) old
  pub means : HaveMeanings ms old → HaveMeanings ms new

-- the state that the history of a session leads to
abbrev pub reached : Session → Moment
reached x = replay x.opened x.history

-- the worker and its builders went on from one session to another
pub record Serves (ms : Meanings) (x y : Session) (old new : List Told) : Type 0 where
  pub opened : y.opened ≡ x.opened
  pub entries : List Entry
  pub history : y.history ≡ x.history ++ entries
  -- the builders are the same ones, and were called for what the entries hand and clean
  pub stays : StayBuilders ms old new
  pub called : WereCalled (calls (reached x) entries) old new
  -- what they commit is right for what was handed last, and what they tell of failures is so, whatever was handed before
  pub answers : (last : Option Handing) → AnswersHandings ms last (reached x) entries old new
  -- from sound records on each build that settled left what it must, and records are sound again
  pub keeps : AreSound ms (reached x) → KeepsBuilt ms (reached x) (reached y) entries

-- the event that asks for the services
abbrev pub checkout : BuildKind → Option (List ℕ) → Event
checkout kind scope = Service (Checkout (purposes.Build kind scope))

-- the services are asked for, with this answer
pub record Asked (kind : BuildKind) (scope : Option (List ℕ)) (n p : Session) (answer : Started) : Type 0 where
  pub steps : Steps 1 (checkout kind scope) n p
  pub answered : started_of (step n.state 1 (checkout kind scope)).1.answer ≡ Some answer

-- the builders are those whose names a workspace was opened with, and mean what is told of them
pub record IsServed (ms : Meanings) (opened : Moment) (told : List Told) : Type 0 where
  pub named : opened.desk.builders ≡ map (λ b. b.named) told
  pub means : HaveMeanings ms told
