-- What is left where areas are opened or looked at.
use Rattle.std.specs.Prelude.{◌≡◌, ◌≢◌, ◌⊎◌, ℕ, List, [], Option, Some, None, Result, IfSome, IfOk, IfErr}
use Rattle.ws_outside.specs.declared.contents.Contents.{Contents}
use Rattle.disk_area.specs.declared.damage.Damage.{Damage}
use Rattle.ws_durable.specs.declared.durable.Durable.{Durable}
use Rattle.ws_durable.specs.Saved.{saved}
use Rattle.save_store.specs.declared.faults.OpenFault.{OpenFault}
use Rattle.save_store.specs.declared.faults.OpenFault.TheVariants.{Disk, Damaged, Memory}
use Rattle.save_store.specs.declared.look.Found.{Found}
use Rattle.save_store.specs.Damages.{IsDamaged, TellsDamage, FaultOf}
use Rattle.save_store.specs.States.{Holds}
use Rattle.core_event.specs.declared.entry.Entry.{Entry}
use Rattle.area_text.specs.Damages.{damage_line}
use Rattle.ws_core.specs.States.{Moment}
use Rattle.ws_top.specs.Areas.{FindsDamage, StaysAsItWas, LeavesAreasOf, TellsDiskFault}
use Rattle.ws_top.specs.Outcomes.{WasIdle, TellsState, TellsUnopened, TellsOrWants, Writes}
use Rattle.ws_top.specs.Texts.{status_line, check_text}

-- Why the areas couldn't be read: it is their damage where that is told, and the count of faults of the disk rose where it
-- was the disk.
pub record HasFault (seen : Option Contents) (before after : ℕ) (fault : OpenFault) : Type 0 where
  pub damage : IfSome seen (λ both. TellsDamage (IsDamaged both) fault)
  pub cause : FaultOf before after fault

-- the state that both areas hold was given, or why it couldn't be had
pub record Opens {D : Type 0} (moment : D → ℕ) (left_since : D → ℕ → Contents → Type 0) (may_leave : D → Contents → Type 0) (seen : D → Option Contents) (faults : D → ℕ)
    (old new : D) (result : Result Durable OpenFault) : Type 0 where
  pub held : IfOk result (λ d. IfSome (seen old) (λ both. Holds both (saved d)))
  pub calm : IfOk result (λ d. faults new ≡ faults old)
  pub fault : IfErr result (HasFault (seen old) (faults old) (faults new))
  pub spoilt : IfSome (seen old) (λ both. (damage : Damage) → IsDamaged both damage → IfOk result (λ d. ⊥))
  pub stays : StaysAsItWas moment left_since may_leave seen old new

-- a fault of the areas was told; where memory wants for the line of a damage, that is told
abbrev pub Refuses : OpenFault → Option (List ℕ) → Option (List ℕ) → ℕ → ℕ → ℕ → Type 0
Refuses Disk old new before after status = (status ≡ 5) × Writes old new before after (status_line 5)
Refuses (Damaged damage) old new before after status = ((status ≡ 7) × Writes old new before after (damage_line damage)) ⊎ ((status ≡ 8) × Writes old new before after (status_line 8))
Refuses Memory old new before after status = (status ≡ 8) × Writes old new before after (status_line 8)

-- what was found was told, or memory wanted
abbrev pub TellsHeld : Found → Option (List ℕ) → Option (List ℕ) → ℕ → ℕ → ℕ → Type 0
TellsHeld found = TellsOrWants (check_text found)

-- a run was made from this state; or memory wanted before it, and nothing was done
abbrev pub RunsFrom : Option Durable → Option Durable → Option (List ℕ) → Option (List ℕ) → ℕ → ℕ → ℕ → List Entry → Type 0
RunsFrom opened kept old new before after status h = (kept ≡ opened) ⊎ ((kept ≡ None) × (status ≡ 8) × (h ≡ []) × Writes old new before after (status_line 8))

-- What became of the areas, and what is told of it.
pub record LeavesAreas {D : Type 0} (moment : D → ℕ) (left_since : D → ℕ → Contents → Type 0) (may_leave : D → Contents → Type 0) (seen : D → Option Contents) (faults : D → ℕ)
    (held left : D) (old new : Option (List ℕ)) (before after : ℕ) (kept : Option Durable) (opened : Moment) (status : ℕ) (h : List Entry) : Type 0 where
  pub fault : TellsDiskFault (faults held) (faults left) status
  pub unopened : TellsUnopened kept (seen held) old new before after status h
  pub damaged : IfSome (seen held) (λ both. FindsDamage both status)
  pub leaves : LeavesAreasOf moment left_since may_leave seen faults held left kept opened h
  pub unfailed : kept ≡ None → status ≢ 5 → faults left ≡ faults held
  pub idle : WasIdle status → left ≡ held

-- the same of a run, with the state that it opened
pub record OpensAreas {D : Type 0} (moment : D → ℕ) (left_since : D → ℕ → Contents → Type 0) (may_leave : D → Contents → Type 0) (seen : D → Option Contents) (faults : D → ℕ)
    (held left : D) (old new : Option (List ℕ)) (before after : ℕ) (kept : Option Durable) (opened : Moment) (status : ℕ) (h : List Entry) : Type 0 where
  pub areas : LeavesAreas moment left_since may_leave seen faults held left old new before after kept opened status h
  pub state : TellsState kept (seen held) status h
