-- What becomes of the two areas.
use Rattle.std.specs.Prelude.{◌≡◌, ◌≢◌, ◌⊎◌, ◌≤◌, ℕ, List, [], ◌∷◌, Option, Some, None, IfSome}
use Rattle.ws_outside.specs.declared.contents.Contents.{Contents}
use Rattle.ws_outside.specs.Disk.{Each, LeavesOnly}
use Rattle.ws_outside.specs.Faults.{Rose}
use Rattle.disk_area.specs.declared.damage.Damage.{Damage}
use Rattle.ws_durable.specs.declared.durable.Durable.{Durable}
use Rattle.ws_durable.specs.Saved.{Saved, saved}
use Rattle.save_store.specs.Damages.{IsDamaged}
use Rattle.save_store.specs.States.{Holds, HoldsOne}
use Rattle.core_event.specs.declared.entry.Entry.{Entry}
use Rattle.save_history.specs.Kept.{HasRisenBy}
use Rattle.save_history.specs.Points.{Points, points_of}
use Rattle.save_history.specs.Steps.{failures, steps_of}
use Rattle.ws_core.specs.States.{Moment}

-- ---- which state is opened

-- both areas hold the state that was opened
abbrev pub IsHeld : Option Durable → Option Contents → Type 0
IsHeld kept seen = IfSome kept (λ d. IfSome seen (λ both. Holds both (saved d)))

-- ---- what is wrong with the areas

-- the areas have this damage, their first one
abbrev pub IsDamage : Option Contents → Damage → Type 0
IsDamage seen damage = IfSome seen (λ both. IsDamaged both damage)

-- the areas have no damage
abbrev pub AreUndamaged : Contents → Type 0
AreUndamaged both = (damage : Damage) → IsDamaged both damage → ⊥

-- damaged areas end a run or a check with the status 7, with one whose cause came earlier, or with 8
abbrev pub EndsDamaged : ℕ → Type 0
EndsDamaged status = (status ≡ 7) ⊎ (status ≡ 3) ⊎ (status ≡ 9) ⊎ (status ≡ 6) ⊎ (status ≡ 5) ⊎ (status ≡ 8)

-- the areas have no damage, or it ends the run
abbrev pub FindsDamage : Contents → ℕ → Type 0
FindsDamage both status = (damage : Damage) → IsDamaged both damage → EndsDamaged status

-- A failed call on the disk is told by the status 5, or by one that comes before it where a save failed: by 8 or by 4.
pub record TellsDiskFault (before after status : ℕ) : Type 0 where
  pub rose_at_5 : status ≡ 5 → Rose before after
  pub either_at_4_and_8 : (status ≡ 4) ⊎ (status ≡ 8) → (after ≡ before) ⊎ Rose before after
  pub calm_else : status ≢ 5 → status ≢ 4 → status ≢ 8 → after ≡ before

-- ---- what a crash leaves

-- The areas hold what they held, and at each moment since the start a crash leaves what one at the start could have left.
pub record StaysAsItWas {D : Type 0} (moment : D → ℕ) (left_since : D → ℕ → Contents → Type 0) (may_leave : D → Contents → Type 0) (seen : D → Option Contents) (old new : D) : Type 0 where
  pub contents : seen new ≡ seen old
  pub any_moment : LeavesOnly moment left_since may_leave old new (may_leave old)

-- There is a moment, that at which opening had brought both areas to the device, since which each crash leaves areas that
-- hold a point of the history; and now it leaves the one that was acknowledged last, or one that was begun after it.
pub record LeavesPoints {D : Type 0} (moment : D → ℕ) (left_since : D → ℕ → Contents → Type 0) (may_leave : D → Contents → Type 0) (old new : D) (points : Points) : Type 0 where
  pub since : ℕ
  pub later : moment old ≤ since
  pub passed : since ≤ moment new
  pub each : Each (left_since new since) (HoldsOne points.all)
  pub now : Each (may_leave new) (HoldsOne (points.acknowledged ∷ points.begun))

-- What a run leaves of the areas that it opened to this state, from which on its points count. At any moment of it a crash
-- leaves one of these, or what one at the start could have left. Where nothing was saved they hold what they held. The count
-- of faults rose for each save that ended because a call on the disk failed.
pub record KeepsAreas {D : Type 0} (moment : D → ℕ) (left_since : D → ℕ → Contents → Type 0) (may_leave : D → Contents → Type 0) (seen : D → Option Contents) (faults : D → ℕ)
    (old new : D) (d : Saved) (opened : Moment) (h : List Entry) : Type 0 where
  pub points : LeavesPoints moment left_since may_leave old new (points_of d opened h)
  pub any_moment : LeavesOnly moment left_since may_leave old new (λ c. may_leave old c ⊎ HoldsOne (points_of d opened h).all c)
  pub unsaved : steps_of h ≡ [] → seen new ≡ seen old
  pub counted : HasRisenBy (failures (steps_of h)) (faults old) (faults new)

-- What becomes of the areas: those of a run that opened a state, and of one that opened none, which leaves them as they are.
abbrev pub LeavesAreasOf : {D : Type 0} → (D → ℕ) → (D → ℕ → Contents → Type 0) → (D → Contents → Type 0) → (D → Option Contents) → (D → ℕ) → D → D → Option Durable → Moment → List Entry → Type 0
LeavesAreasOf moment left_since may_leave seen faults old new None opened h = StaysAsItWas moment left_since may_leave seen old new
LeavesAreasOf moment left_since may_leave seen faults old new (Some d) opened h = KeepsAreas moment left_since may_leave seen faults old new (saved d) opened h
