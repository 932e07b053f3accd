-- What a build of one pass is among others' entries, by its own entries alone.
use Rattle.std.specs.Prelude.{◌≡◌, ℕ, List, ◌++◌, Option}
use Rattle.std.specs.List.{AllByRecursion}
use Rattle.builder_api.specs.declared.kind.BuildKind.{BuildKind}
use Rattle.builder_api.specs.Meanings.{Meanings}
use Rattle.build_run.specs.declared.answers.BuildAnswer.{BuildAnswer}
use Rattle.build_run.specs.Books.{Book}
use Rattle.build_run.specs.Commands.{IsAnswered}
use Rattle.core_event.specs.declared.entry.Entry.{Entry}
use Rattle.ws_core.specs.States.{Moment}
use Rattle.build_core.specs.Histories.{entries_of}
use Rattle.build_history.specs.Events.{IsOwn}
use Rattle.run_order.specs.Lists.{own}

-- These are all that the pass made in some history, from a state on, in which others' entries may stand between; as builds read
-- them there they are the entries of a whole build command, which was answered so.
pub record IsBuildAmong (ms : Meanings) (k : ℕ) (kind : BuildKind) (project : Option (List ℕ)) (h : List Entry) : Type 0 where
  pub state : Moment
  pub history : List Entry
  pub its : own k history ≡ h
  pub before : Book
  pub answer : BuildAnswer
  pub after : Book
  pub answered : IsAnswered ms kind project before answer after
  pub mine : after.mine ≡ before.mine ++ entries_of k state history
  pub building : AllByRecursion (IsOwn k) h
