-- The points of a history: the states as which what the areas hold may be read back.
use Rattle.std.specs.Prelude.{◌≡◌, ◌⊎◌, ◌+◌, ℕ, Bool, true, false, List, [], ◌∷◌, ◌++◌, Option, Some, None}
use Rattle.save_kind.specs.declared.answer.SaveAnswer.TheVariants as answer
use Rattle.core_event.specs.declared.entry.Entry.{Entry}
use Rattle.ws_durable.specs.Saved.{Saved}
use Rattle.ws_core.specs.States.{Moment}
use Rattle.ws_core.specs.Histories.{after}
use Rattle.ws_core.specs.Durables.{durable_of}
use Rattle.save_history.specs.Steps.{SaveStep, Begins, Keeps, Ends, step_of}

pub record Points : Type 0 where
  -- all of them, oldest first
  pub all : List Saved
  -- that of the save that was acknowledged last; of none, the state that the areas held at the beginning
  pub acknowledged : Saved
  -- those of the saves that were begun after it, oldest first
  pub begun : List Saved
  -- that of the save that was begun last; of none, the state that the areas held at the beginning
  pub newest : Saved
  -- whether that save is still to end
  pub due : Bool
  -- how many saves were begun
  pub count : ℕ

-- what the areas held, before any save
abbrev pub first_points : Saved → Points
first_points d = record { all = d ∷ []; acknowledged = d; begun = []; newest = d; due = false; count = 0 }

-- a save was begun
abbrev pub with_begun : Saved → Points → Points
with_begun d p = record { all = p.all ++ d ∷ []; acknowledged = p.acknowledged; begun = p.begun ++ d ∷ []; newest = d; due = true; count = p.count + 1 }

-- it ended, and is not acknowledged
abbrev pub with_ended : Points → Points
with_ended p = record { all = p.all; acknowledged = p.acknowledged; begun = p.begun; newest = p.newest; due = false; count = p.count }

-- the last of these; where there are none, the state before them
abbrev pub last_of : Saved → List Saved → Saved
last_of d [] = d
last_of d (e ∷ es) = last_of e es

-- the save that was begun last is acknowledged
abbrev pub with_acknowledged : Points → Points
with_acknowledged p = record { all = p.all; acknowledged = last_of p.acknowledged p.begun; begun = []; newest = p.newest; due = false; count = p.count }

-- after a step, behind which the state that is to be kept is this: a save's point is begun where its states are kept, and
-- acknowledged where it ends as saved
abbrev pub with_step : Saved → Option SaveStep → Points → Points
with_step d None p = p
with_step d (Some (Begins kind)) p = p
with_step d (Some (Keeps states)) p = with_begun d p
with_step d (Some (Ends answer.Saved)) p = with_acknowledged p
with_step d (Some (Ends answer.SaveFailed)) p = with_ended p
with_step d (Some (Ends (answer.ParticipantFailed name))) p = with_ended p
with_step d (Some (Ends answer.SaveTooLarge)) p = with_ended p
with_step d (Some (Ends answer.SaveNumbers)) p = with_ended p
with_step d (Some (Ends answer.NoMemory)) p = with_ended p

-- after a history from a state on
abbrev pub points_from : Points → Moment → List Entry → Points
points_from p s [] = p
points_from p s (x ∷ h) = points_from (with_step (durable_of (after s x)) (step_of x.event x.reply.answer) p) (after s x) h

-- those of a history from a state, where the areas held this when it was opened
abbrev pub points_of : Saved → Moment → List Entry → Points
points_of d s h = points_from (first_points d) s h

-- ---- what holds of points

-- one of these
abbrev pub Among : Saved → List Saved → Type 0
Among d [] = ⊥
Among d (e ∷ es) = (d ≡ e) ⊎ Among d es

-- each is one of those
abbrev pub AllAmong : List Saved → List Saved → Type 0
AllAmong [] es = Unit {0}
AllAmong (d ∷ ds) es = Among d es × AllAmong ds es

-- the last of these
abbrev pub IsLast : List Saved → Saved → Type 0
IsLast ds d = (before : List Saved) × (ds ≡ before ++ d ∷ [])

-- the save that was begun last, after the last one that was acknowledged, is still to end, and is to write this
pub record IsAsked (p : Points) (d : Saved) : Type 0 where
  pub due : p.due ≡ true
  pub newest : p.newest ≡ d
  pub last : IsLast p.begun d
