-- The store of a run against the points of its history.
use Rattle.std.specs.Prelude.{◌≡◌, ◌≤◌, ◌<◌, ◌⊎◌, ◌+◌, ◌-◌, ◌^◌, ℕ, Bool, true, false, List, [], Result, MatchResult}
use Rattle.ws_outside.specs.declared.contents.Contents.{Contents}
use Rattle.ws_outside.specs.Disk.{LeavesOnly}
use Rattle.ws_outside.specs.Faults.{Rose}
use Rattle.ws_durable.specs.Saved.{Saved, saved}
use Rattle.save_store.specs.declared.saves.Saves.{Saves}
use Rattle.save_store.specs.States.{HoldsOne}
use Rattle.save_store.specs.Stored.{IsStored}
use Rattle.ws_core.specs.Sessions.{Session}
use Rattle.save_run.specs.declared.host.WriteFault.{WriteFault}
use Rattle.save_run.specs.Books.{outcome_of}
use Rattle.save_history.specs.Steps.{failure, failures, steps_of}
use Rattle.save_history.specs.Points.{Points, points_of, AllAmong, IsAsked}
use Rattle.save_history.specs.Causes.{MayEndSo}

-- the store of a run
pub record Keeper (D : Type 0) : Type 0 where
  -- the store as it was opened
  pub began : Saves D
  -- as it is
  pub store : Saves D
  -- whether a call on the disk failed since then
  pub failed : Bool

-- the disk as it was when the store was opened, and as it is
abbrev pub first_disk : {D : Type 0} → Keeper D → D
first_disk k = k.began.areas.disk

abbrev pub disk_of : {D : Type 0} → Keeper D → D
disk_of k = k.store.areas.disk

-- the points of an open workspace: the first is the state to which the store was opened
abbrev pub points_at : {D : Type 0} → Session → Keeper D → Points
points_at x k = points_of (saved k.began.last) x.opened x.history

-- a call failed exactly where the count of faults rose
abbrev pub TellsFaults : Bool → ℕ → ℕ → Type 0
TellsFaults true old new = Rose old new
TellsFaults false old new = new ≡ old

-- a count rose by so much or more, or came to its last value
abbrev pub HasRisenBy : ℕ → ℕ → ℕ → Type 0
HasRisenBy n old new = (old + n ≤ new) ⊎ ((2 ^ 64 - 1 ≤ new) × (old ≤ new))

-- the greatest save number that was read or written rose by no more than one for each save that was begun
abbrev pub IsNumbered : {D : Type 0} → Points → Keeper D → Type 0
IsNumbered p k = k.store.areas.top ≤ k.began.areas.top + p.count

-- and one of these is left for a save that is still to end
abbrev pub HasNumberLeft : {D : Type 0} → Points → Keeper D → Type 0
HasNumberLeft p k = p.due ≡ true → k.store.areas.top < k.began.areas.top + p.count

-- Each crash image holds the point that was acknowledged last, which the store has as its last state, or one that was begun
-- after it.
pub record IsBacked {D : Type 0} (may_leave : D → Contents → Type 0) (points : Points) (saves : Saves D) : Type 0 where
  pub begun : List Saved
  pub stored : IsStored may_leave begun saves
  pub last : saved saves.last ≡ points.acknowledged
  pub among : AllAmong begun points.begun

-- At every moment since the store was opened each crash image of the areas holds a point; a call on the disk failed exactly
-- where its count of faults rose; and save numbers were written for saves alone, at most one for each.
pub record LeavesPoints {D : Type 0} (moment : D → ℕ) (left_since : D → ℕ → Contents → Type 0) (may_leave : D → Contents → Type 0) (faults : D → ℕ)
    (points : Points) (k : Keeper D) : Type 0 where
  pub moments : LeavesOnly moment left_since may_leave (first_disk k) (disk_of k) (HoldsOne points.all)
  pub calls : TellsFaults k.failed (faults (first_disk k)) (faults (disk_of k))
  pub numbered : IsNumbered points k

-- the same, and now it holds the point that was acknowledged last, or one that was begun after it
pub record IsSafe {D : Type 0} (moment : D → ℕ) (left_since : D → ℕ → Contents → Type 0) (may_leave : D → Contents → Type 0) (faults : D → ℕ)
    (points : Points) (k : Keeper D) : Type 0 where
  pub leaves : LeavesPoints moment left_since may_leave faults points k
  pub backed : IsBacked may_leave points k.store

-- the same, and now it holds the point that was begun last, which is written but not yet acknowledged
pub record IsAhead {D : Type 0} (moment : D → ℕ) (left_since : D → ℕ → Contents → Type 0) (may_leave : D → Contents → Type 0) (faults : D → ℕ)
    (points : Points) (k : Keeper D) : Type 0 where
  pub leaves : LeavesPoints moment left_since may_leave faults points k
  pub stored : IsStored may_leave [] k.store
  pub written : IsAsked points (saved k.store.last)

-- The store is safe for the points of an open workspace, and a save that is still to end has a number left; the disk's count
-- of faults rose for each of its saves that ended because a call on the disk failed; and where no save made a step the store
-- is as it was opened.
pub record IsKept {D : Type 0} (moment : D → ℕ) (left_since : D → ℕ → Contents → Type 0) (may_leave : D → Contents → Type 0) (faults : D → ℕ)
    (x : Session) (k : Keeper D) : Type 0 where
  pub safe : IsSafe moment left_since may_leave faults (points_at x k) k
  pub number_left : HasNumberLeft (points_at x k) k
  pub counted : HasRisenBy (failures (steps_of x.history)) (faults (first_disk k)) (faults (disk_of k))
  pub untouched : steps_of x.history ≡ [] → k.store ≡ k.began

-- The same where the save that was begun last was written with this result, which has its cause, and is not yet told as its
-- end.
pub record IsTried {D : Type 0} (moment : D → ℕ) (left_since : D → ℕ → Contents → Type 0) (may_leave : D → Contents → Type 0) (faults : D → ℕ)
    (result : Result (Unit {0}) WriteFault) (x : Session) (k : Keeper D) : Type 0 where
  pub stands : MatchResult result (λ _. IsAhead moment left_since may_leave faults (points_at x k) k) (λ _. IsSafe moment left_since may_leave faults (points_at x k) k)
  pub counted : HasRisenBy (failures (steps_of x.history) + failure (outcome_of result)) (faults (first_disk k)) (faults (disk_of k))
  pub cause : MayEndSo (outcome_of result) (points_at x k) k.began.areas.top
