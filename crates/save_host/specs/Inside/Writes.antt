-- A write to the store of a run.
use Rattle.std.specs.Prelude.{◌≡◌, ◌≤◌, ◌+◌, ◌++◌, ℕ, Bool, true, List, [], ◌∷◌, Result, Ok, Err, OnOk, OnErr, IfErr, MatchResult}
use Rattle.ws_outside.specs.declared.contents.Contents.{Contents}
use Rattle.ws_outside.specs.Disk.{LeavesOnly}
use Rattle.ws_durable.specs.declared.durable.Durable.{Durable}
use Rattle.ws_durable.specs.Saved.{Saved, saved}
use Rattle.save_store.specs.declared.faults.SaveFault.{SaveFault}
use Rattle.save_store.specs.declared.faults.SaveFault.TheVariants as store
use Rattle.save_store.specs.declared.saves.Saves.{Saves}
use Rattle.save_store.specs.States.{HoldsOne}
use Rattle.save_store.specs.Stored.{FaultOf, HasNumber, IsStored, IsTooLarge}
use Rattle.save_run.specs.declared.host.WriteFault.{WriteFault}
use Rattle.save_run.specs.declared.host.WriteFault.TheVariants as write

-- the same result, as saves have it
abbrev pub write_of : Result (Unit {0}) SaveFault → Result (Unit {0}) WriteFault
write_of (Ok done) = Ok done
write_of (Err store.Disk) = Err write.Disk
write_of (Err store.TooLarge) = Err write.TooLarge
write_of (Err store.NumbersUsed) = Err write.NumbersUsed
write_of (Err store.Memory) = Err write.Memory

-- whether a call on the disk failed before this, or in it
abbrev pub failed_after : Bool → Result (Unit {0}) SaveFault → Bool
failed_after before (Ok done) = before
failed_after before (Err store.Disk) = true
failed_after before (Err store.TooLarge) = before
failed_after before (Err store.NumbersUsed) = before
failed_after before (Err store.Memory) = before

-- why a state wasn't written where this was the greatest save number
abbrev pub WhyUnwritten : Durable → ℕ → SaveFault → Type 0
WhyUnwritten d top store.Disk = Unit {0}
WhyUnwritten d top store.TooLarge = IsTooLarge d
WhyUnwritten d top store.NumbersUsed = HasNumber top → ⊥
WhyUnwritten d top store.Memory = Unit {0}

-- what a save of the state leaves of a store, whatever it answers
pub record IsWritten {D : Type 0} (moment : D → ℕ) (left_since : D → ℕ → Contents → Type 0) (may_leave : D → Contents → Type 0) (faults : D → ℕ)
    (now : Durable) (result : Result (Unit {0}) SaveFault) (old new : Saves D) : Type 0 where
  pub run : (begun : List Saved) → IsStored may_leave begun old → LeavesOnly moment left_since may_leave old.areas.disk new.areas.disk (HoldsOne (saved old.last ∷ begun ++ saved now ∷ []))
  pub stored : OnOk result (IsStored may_leave [] new)
  pub unsaved : OnErr result ((begun : List Saved) → IsStored may_leave begun old → IsStored may_leave (begun ++ saved now ∷ []) new)
  pub last : OnOk result (new.last ≡ now)
  pub stays : OnErr result ((new.last ≡ old.last) × (new.areas.home ≡ old.areas.home))
  pub risen : new.areas.top ≤ old.areas.top + 1
  pub why : IfErr result (WhyUnwritten now old.areas.top)
  pub cause : MatchResult result (λ _. faults new.areas.disk ≡ faults old.areas.disk) (FaultOf (faults old.areas.disk) (faults new.areas.disk))
