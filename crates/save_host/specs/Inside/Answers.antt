-- What a pass and its participants have done in a save once it is answered.
use Rattle.std.specs.Prelude.{◌≡◌, ℕ, List, None}
use Rattle.ws_outside.specs.declared.contents.Contents.{Contents}
use Rattle.save_kind.specs.declared.kind.SaveKind.{SaveKind}
use Rattle.save_round.specs.Told.{Told}
use Rattle.save_run.specs.declared.command.Saved.{Saved}
use Rattle.ws_core.specs.Sessions.{Session}
use Rattle.save_history.specs.Causes.{MayBeAnswered}
use Rattle.save_history.specs.Kept.{Keeper, IsKept, points_at}
use Rattle.save_history.specs.Rounds.{HadSaves, rounds_of}
use Rattle.save_history.specs.Stages.{HasSaved}

-- what holds of a save that was answered
pub record Answers {D : Type 0} (moment : D → ℕ) (left_since : D → ℕ → Contents → Type 0) (may_leave : D → Contents → Type 0) (faults : D → ℕ)
    (k : ℕ) (kind : SaveKind) (saved : Saved) (x y : Session) (keeper : Keeper D) (old new : List Told) : Type 0 where
  pub made : HasSaved k kind saved x y
  pub reason : MayBeAnswered saved (points_at y keeper) keeper.began.areas.top
  pub kept : IsKept moment left_since may_leave faults y keeper
  pub home : (rounds_of x.history).under ≡ None → (rounds_of y.history).under ≡ None
  pub had : (first : List Told) → HadSaves (rounds_of x.history).ended first old → HadSaves (rounds_of y.history).ended first new

-- where memory wanted nothing was done
pub record IsUnanswered {D : Type 0} (moment : D → ℕ) (left_since : D → ℕ → Contents → Type 0) (may_leave : D → Contents → Type 0) (faults : D → ℕ)
    (x y : Session) (keeper : Keeper D) (old new : List Told) : Type 0 where
  pub same : y ≡ x
  pub kept : IsKept moment left_since may_leave faults y keeper
  pub quiet : new ≡ old
