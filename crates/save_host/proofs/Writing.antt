-- A write to the store of a run.
use Rattle.std.proofs.Common.{◌≡◌, ◌≤◌, ◌<◌, ℕ, ◌+◌, ◌-◌, ◌^◌, true, List, [], ◌∷◌, ◌++◌, Result, Ok, Err, sym, ap, subst, arith}
use Rattle.ws_outside.specs.declared.contents.Contents.{Contents}
use Rattle.ws_outside.specs.Disk.{LeavesOnly}
use Rattle.ws_outside.specs.Faults.{Rose}
use Rattle.ws_durable.specs.declared.durable.Durable.{Durable}
use Rattle.ws_durable.specs.Saved.{Saved, saved}
use Rattle.save_store.specs.declared.faults.SaveFault.{SaveFault}
use Rattle.save_store.specs.declared.faults.SaveFault.TheVariants as store
use Rattle.save_store.specs.declared.saves.Saves.{Saves}
use Rattle.save_store.specs.States.{HoldsOne}
use Rattle.save_store.specs.Stored.{IsStored}
use Rattle.save_run.specs.declared.host.WriteFault.TheVariants as write
use Rattle.ws_core.specs.Sessions.{Session}
use Rattle.save_history.specs.Steps.{failures, steps_of}
use Rattle.save_history.specs.Points.{Points, IsAsked, points_of}
use Rattle.save_history.specs.Causes.{HasNoRoom}
use Rattle.save_history.specs.Kept.{Keeper, HasRisenBy, IsAhead, IsKept, IsNumbered, IsSafe, IsTried, TellsFaults, disk_of, first_disk, points_at}
use Rattle.save_history.proofs.Points.{points_whole}
use Rattle.save_history.proofs.Backed.{risen_more, risen_same, told_rose, told_same, wrote_ahead, wrote_safe}
use Rattle.save_store.specs.Stored.{HasNumber, IsTooLarge}
use Rattle.save_host.specs.Inside.Writes.{IsWritten, failed_after, write_of}
use Rattle.save_host.proofs.Caused.{beyond, no_room}

-- a number that was left bounds the one that is written
left_over : (new old bound : ℕ) → new ≤ old + 1 → old < bound → new ≤ bound
left_over new old bound risen left = omega (arith, risen, left)

module _ {D : Type 0} (moment : D → ℕ) (left_since : D → ℕ → Contents → Type 0) (may_leave : D → Contents → Type 0) (faults : D → ℕ) (x : Session) (old new : Keeper D) (now : Durable) (began : new.began ≡ old.began)
    (asked : IsAsked (points_at x old) (saved now)) (kept : IsKept moment left_since may_leave faults x old) where
  abbrev count : ℕ
  count = failures (steps_of x.history)

  -- the points are the same
  same_points : points_at x old ≡ points_at x new
  same_points = ap (λ (b : Saves D). points_of (saved b.last) x.opened x.history) (sym began)

  calm : faults (disk_of new) ≡ faults (disk_of old) → new.failed ≡ old.failed → TellsFaults new.failed (faults (first_disk old)) (faults (disk_of new))
  calm same is = subst (λ failed. TellsFaults failed (faults (first_disk old)) (faults (disk_of new))) (sym is)
      (told_same old.failed (faults (first_disk old)) (faults (disk_of old)) (faults (disk_of new)) kept.safe.leaves.calls same)

  rose : Rose (faults (disk_of old)) (faults (disk_of new)) → new.failed ≡ true → TellsFaults new.failed (faults (first_disk old)) (faults (disk_of new))
  rose rises is = subst (λ failed. TellsFaults failed (faults (first_disk old)) (faults (disk_of new))) (sym is)
      (told_rose old.failed (faults (first_disk old)) (faults (disk_of old)) (faults (disk_of new)) kept.safe.leaves.calls rises)

  counted : (n : ℕ) → HasRisenBy n (faults (first_disk old)) (faults (disk_of new)) → HasRisenBy n (faults (first_disk new)) (faults (disk_of new))
  counted n = subst (λ (b : Saves D). HasRisenBy n (faults b.areas.disk) (faults (disk_of new))) (sym began)

  counted_same : faults (disk_of new) ≡ faults (disk_of old) → HasRisenBy (count + 0) (faults (first_disk new)) (faults (disk_of new))
  counted_same same = counted (count + 0) (subst (λ n. HasRisenBy n (faults (first_disk old)) (faults (disk_of new))) (omega arith)
      (risen_same count (faults (first_disk old)) (faults (disk_of old)) (faults (disk_of new)) kept.counted same))

  abbrev most : ℕ
  most = old.began.areas.top + (points_at x old).count

  numbered : new.store.areas.top ≤ old.store.areas.top + 1 → IsNumbered (points_at x old) new
  numbered risen = subst (λ (b : Saves D). new.store.areas.top ≤ b.areas.top + (points_at x old).count) (sym began)
      (left_over new.store.areas.top old.store.areas.top most risen (kept.number_left asked.due))

  -- what wasn't written has no room, or no number
  too_large : IsTooLarge now → HasNoRoom (points_at x new).newest
  too_large large = subst (λ (p : Points). HasNoRoom p.newest) same_points (subst HasNoRoom (sym asked.newest) (no_room now large))

  numbers_used : (HasNumber old.store.areas.top → ⊥) → 2 ^ 63 - 1 < new.began.areas.top + (points_at x new).count
  numbers_used none = subst (λ (b : Saves D). 2 ^ 63 - 1 < b.areas.top + (points_at x new).count) (sym began)
      (subst (λ (p : Points). 2 ^ 63 - 1 < old.began.areas.top + p.count) same_points (beyond old.store.areas.top most none (kept.number_left asked.due)))

  abbrev Runs : Type 0
  Runs = (begun : List Saved) → IsStored may_leave begun old.store → LeavesOnly moment left_since may_leave (disk_of old) (disk_of new) (HoldsOne (saved old.store.last ∷ begun ++ saved now ∷ []))

  ahead : Runs → new.store.areas.top ≤ old.store.areas.top + 1 → TellsFaults new.failed (faults (first_disk old)) (faults (disk_of new)) → IsStored may_leave [] new.store → new.store.last ≡ now → IsAhead moment left_since may_leave faults (points_at x new) new
  ahead run risen calls stored last = subst (λ p. IsAhead moment left_since may_leave faults p new) same_points
      (wrote_ahead moment left_since may_leave faults (points_at x old) (points_whole (saved old.began.last) x.opened x.history) old new (saved now) asked kept.safe began run (numbered risen) calls stored (ap saved last))

  safe : Runs → new.store.areas.top ≤ old.store.areas.top + 1 → TellsFaults new.failed (faults (first_disk old)) (faults (disk_of new)) → ((begun : List Saved) → IsStored may_leave begun old.store → IsStored may_leave (begun ++ saved now ∷ []) new.store)
      → new.store.last ≡ old.store.last → IsSafe moment left_since may_leave faults (points_at x new) new
  safe run risen calls unsaved same = subst (λ p. IsSafe moment left_since may_leave faults p new) same_points
      (wrote_safe moment left_since may_leave faults (points_at x old) (points_whole (saved old.began.last) x.opened x.history) old new (saved now) asked kept.safe began run (numbered risen) calls unsaved same)

  -- the store of a run after a write, whatever it answered
  pub tried : (r : Result (Unit {0}) SaveFault) → new.failed ≡ failed_after old.failed r → IsWritten moment left_since may_leave faults now r old.store new.store → IsTried moment left_since may_leave faults (write_of r) x new
  tried (Ok done) is w = record { stands = ahead w.run w.risen (calm w.cause is) w.stored w.last; counted = counted_same w.cause; cause = tt }
  tried (Err store.Disk) is w = record {
    stands = safe w.run w.risen (rose w.cause is) w.unsaved w.stays.0;
    counted = counted (count + 1) (risen_more count (faults (first_disk old)) (faults (disk_of old)) (faults (disk_of new)) kept.counted w.cause);
    cause = tt;
  }
  tried (Err store.TooLarge) is w = record { stands = safe w.run w.risen (calm w.cause is) w.unsaved w.stays.0; counted = counted_same w.cause; cause = too_large w.why }
  tried (Err store.NumbersUsed) is w = record { stands = safe w.run w.risen (calm w.cause is) w.unsaved w.stays.0; counted = counted_same w.cause; cause = numbers_used w.why }
  tried (Err store.Memory) is w = record { stands = safe w.run w.risen (calm w.cause is) w.unsaved w.stays.0; counted = counted_same w.cause; cause = tt }

-- where nothing was written
pub untried : {D : Type 0} (moment : D → ℕ) (left_since : D → ℕ → Contents → Type 0) (may_leave : D → Contents → Type 0) (faults : D → ℕ) (x : Session) (keeper : Keeper D)
    → IsKept moment left_since may_leave faults x keeper → IsTried moment left_since may_leave faults (Err write.Memory) x keeper
untried moment left_since may_leave faults x keeper kept = record {
  stands = kept.safe;
  counted = subst (λ n. HasRisenBy n (faults (first_disk keeper)) (faults (disk_of keeper))) (omega arith) kept.counted;
  cause = tt;
}
