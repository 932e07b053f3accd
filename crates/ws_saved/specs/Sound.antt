-- An open workspace with its store and its participants, and what holds of them.
use Rattle.std.specs.Prelude.{◌≡◌, ℕ, List, None}
use Rattle.ws_outside.specs.declared.contents.Contents.{Contents}
use Rattle.save_round.specs.Told.{Told}
use Rattle.ws_core.specs.Sessions.{Session}
use Rattle.save_history.specs.Kept.{Keeper, IsKept}
use Rattle.save_history.specs.Rounds.{HadSaves, rounds_of}

pub record Space (D P : Type 0) : Type 0 where
  -- the workspace
  pub core : Session
  pub keeper : Keeper D
  pub participants : List P
  -- the participants as they were when it was opened
  pub began : List P

-- The store is kept for the history; no save is under way; and the participants, which told that first, had the calls of the
-- saves that ended, and no others.
pub record IsSound {D : Type 0} (moment : D → ℕ) (left_since : D → ℕ → Contents → Type 0) (may_leave : D → Contents → Type 0) (faults : D → ℕ)
    (x : Session) (k : Keeper D) (first now : List Told) : Type 0 where
  pub kept : IsKept moment left_since may_leave faults x k
  pub home : (rounds_of x.history).under ≡ None
  pub had : HadSaves (rounds_of x.history).ended first now
