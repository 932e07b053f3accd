-- Why a write failed.
use Rattle.std.proofs.Common.{◌≡◌, ◌<◌, ◌≤◌, ◌⊎◌, inl, inr, ℕ, ◌+◌, ◌-◌, ◌^◌, List, length, Result, Ok, Err, refl, sym, subst, arith}
use Rattle.std.specs.Prelude.{Option, IfErr, MatchResult}
use Rattle.std.specs.FinMap.{empty}
use Rattle.ws_outside.specs.declared.contents.Contents.{Contents}
use Rattle.ws_durable.specs.declared.durable.Durable.{Durable}
use Rattle.ws_durable.specs.Saved.{saved}
use Rattle.save_text.specs.Inside.Told.{told_state}
use Rattle.save_build.specs.Told.{told_tree}
use Rattle.save_read.proofs.Narrow.{state_narrow}
use Rattle.save_read.proofs.Once.{one_bytes}
use Rattle.save_read.proofs.Sayables.{state_fits}
use Rattle.save_format.proofs.Nothing.{nothing_sayable}
use Rattle.save_store.specs.declared.faults.SaveFault.{SaveFault}
use Rattle.save_store.specs.declared.faults.SaveFault.TheVariants as store
use Rattle.save_store.specs.declared.saves.Saves.{Saves}
use Rattle.save_store.specs.Stored.{FailsFull, Fits, HasNumber, IsSaved, IsTooLarge}
use Rattle.save_history.specs.Causes.{HasNoRoom}
use Rattle.save_host.specs.Inside.Writes.{WhyUnwritten}

-- no image of a state that is too large fits an area
pub no_room : (d : Durable) → IsTooLarge d → HasNoRoom (saved d)
no_room d (inl wide) image is =
    absurd (wide (state_narrow (told_tree empty) (told_tree empty) (told_state empty empty d) (state_fits empty empty d (nothing_sayable empty refl) (nothing_sayable empty refl) is.0.sayable)))
no_room d (inr (longest, told, long)) image is = subst (λ (bytes : List ℕ). 2 ^ 30 < 58 + length bytes) (sym (one_bytes empty empty (saved d) longest image told.1 is.1)) long

less_or_not : (m n : ℕ) → (m < n) ⊎ (n ≤ m)
less_or_not m n = grind arith

-- a number that is left and can't be written is beyond the last one
pub beyond : (top bound : ℕ) → (HasNumber top → ⊥) → top < bound → 2 ^ 63 - 1 < bound
beyond top bound none left = elim (less_or_not (top + 1) (2 ^ 63)) [
  | inl less ↦ absurd (none less)
  | inr past ↦ omega (arith, past, left)
]

-- ---- the store's clauses

full_fault : (d : Durable) (top : ℕ) (f : SaveFault) → FailsFull d top f → WhyUnwritten d top f
full_fault d top store.Disk is = tt
full_fault d top store.TooLarge is = is
full_fault d top store.NumbersUsed is = is.1
full_fault d top store.Memory is = tt

-- of a full save
pub full_why : (r : Result (Unit {0}) SaveFault) (d : Durable) (top : ℕ) → MatchResult r (λ _. Fits d × HasNumber top) (FailsFull d top) → IfErr r (WhyUnwritten d top)
full_why (Ok done) d top limits = tt
full_why (Err f) d top limits = full_fault d top f limits

record_why : (r : Result (Unit {0}) SaveFault) (d : Durable) (top : ℕ) → IfErr r (λ f. f ≡ store.Disk) → IfErr r (WhyUnwritten d top)
record_why (Ok done) d top disk = tt
record_why (Err f) d top disk = subst (WhyUnwritten d top) (sym disk) tt

-- of a snapshot
pub snapshot_why : {D : Type 0} (seen : D → Option Contents) (r : Result (Unit {0}) SaveFault) (now : Durable) (old new : Saves D) → IsSaved seen now old new r → IfErr r (WhyUnwritten now old.areas.top)
snapshot_why seen r now old new (inl full) = full_why r now old.areas.top full.limits
snapshot_why seen r now old new (inr (inl added)) = record_why r now old.areas.top added.fault
snapshot_why seen r now old new (inr (inr wants)) = subst (λ q. IfErr q (WhyUnwritten now old.areas.top)) (sym wants) tt
