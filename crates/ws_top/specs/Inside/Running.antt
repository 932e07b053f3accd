-- What a run leaves of the store with which it began.
use Rattle.std.specs.Prelude.{◌≡◌, ℕ, Bool, if◌then◌else◌, List, Option, Some, None}
use Rattle.ws_outside.specs.declared.contents.Contents.{Contents}
use Rattle.ws_durable.specs.declared.durable.Durable.{Durable}
use Rattle.save_store.specs.declared.saves.Saves.{Saves}
use Rattle.core_event.specs.declared.entry.Entry.{Entry}
use Rattle.ws_core.specs.Sessions.{Session}
use Rattle.ws_core.specs.States.{Moment}
use Rattle.save_history.specs.Kept.{IsKept, Keeper, disk_of}

-- the status of a run that came to its end and was written whole: whether a call on the disk failed in a save
abbrev pub end_status : Bool → ℕ
end_status failed = if failed then 5 else 0

-- The store was kept through this history from the state on, and its disk came back as this one.
pub record KeepsStore {D : Type 0} (moment : D → ℕ) (left_since : D → ℕ → Contents → Type 0) (may_leave : D → Contents → Type 0) (faults : D → ℕ)
    (store : Saves D) (left : D) (opened : Moment) (h : List Entry) : Type 0 where
  pub space : Session
  pub keeper : Keeper D
  pub safe : IsKept moment left_since may_leave faults space keeper
  pub began : keeper.began ≡ store
  pub start : space.opened ≡ opened
  pub history : space.history ≡ h
  pub disk : left ≡ disk_of keeper

-- What becomes of the store: it is kept through the run from the state that was opened. Where none was, its disk comes back
-- as it is.
abbrev pub LeavesStore : {D : Type 0} → (D → ℕ) → (D → ℕ → Contents → Type 0) → (D → Contents → Type 0) → (D → ℕ) → Saves D → D → Option Durable → Moment → List Entry → Type 0
LeavesStore moment left_since may_leave faults store left None opened h = left ≡ store.areas.disk
LeavesStore moment left_since may_leave faults store left (Some d) opened h = KeepsStore moment left_since may_leave faults store left opened h
