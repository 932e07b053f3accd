-- What a crash leaves of a store's areas, as states, and what a save leaves in them.
use Rattle.std.specs.Prelude.{◌≡◌, ◌⊎◌, ◌≤◌, ◌<◌, ◌+◌, ◌^◌, ℕ, List, [], ◌∷◌, length, false, if◌then◌else◌, Option, Some, None, is_some, option_map, Result, Err, OnOk, IfErr, IsSomeAnd, MatchResult}
use Rattle.std.specs.FinMap.{empty}
use Rattle.ws_outside.specs.declared.contents.Contents.{Contents}
use Rattle.ws_outside.specs.Disk.{held, beside, holding, written}
use Rattle.ws_outside.specs.Faults.{Rose}
use Rattle.ws_durable.specs.declared.durable.Durable.{Durable}
use Rattle.ws_durable.specs.Saved.{Saved, saved}
use Rattle.save_text.specs.Telling.{IsNarrowState}
use Rattle.save_text.specs.Inside.Told.{told_state}
use Rattle.save_format.specs.Valid.{IsImage, IsRecord}
use Rattle.disk_area.specs.Area.{behind_gate, record_behind}
use Rattle.area_pair.specs.Reads.{other}
use Rattle.area_store.specs.Kept.{Point, IsKept, gate_of, room_of}
use Rattle.save_store.specs.declared.faults.SaveFault.{SaveFault}
use Rattle.save_store.specs.declared.faults.SaveFault.TheVariants.{Disk, TooLarge, NumbersUsed, Memory}
use Rattle.save_store.specs.declared.saves.Saves.{Saves}
use Rattle.save_store.specs.States.{Mean}

-- a point stands for one of these states
abbrev pub MeanOne : Point → List Saved → Type 0
MeanOne point [] = ⊥
MeanOne point (d ∷ ds) = Mean point d ⊎ MeanOne point ds

-- so does each of these
abbrev pub AllMean : List Point → List Saved → Type 0
AllMean [] ds = Unit {0}
AllMean (point ∷ points) ds = MeanOne point ds × AllMean points ds

-- Each crash image holds the state that was acknowledged last, or one of these, whose saves were begun after it.
pub record IsStored {D : Type 0} (may_leave : D → Contents → Type 0) (begun : List Saved) (saves : Saves D) : Type 0 where
  pub point : Point
  pub points : List Point
  pub kept : IsKept may_leave point points saves.areas
  pub last : Mean point (saved saves.last)
  pub later : AllMean points begun
  -- a gate behind acknowledged texts is known only where there are some
  pub gate : saves.areas.failed ≡ false → is_some saves.areas.gate ≡ is_some point

-- ---- the state that is saved

-- every text and every list of its image has a length that an image can tell
abbrev pub IsNarrow : Durable → Type 0
IsNarrow d = IsNarrowState (told_state empty empty d)

-- an image of it fits an area with its header and its gate
abbrev pub Fits : Durable → Type 0
Fits d = (image : List ℕ) × IsImage (saved d) image × (58 + length image ≤ 2 ^ 30)

-- an image of it does not, or it has none
abbrev pub IsTooLarge : Durable → Type 0
IsTooLarge d = (IsNarrow d → ⊥) ⊎ ((image : List ℕ) × IsImage (saved d) image × (2 ^ 30 < 58 + length image))

-- a save number behind this one can be written
abbrev pub HasNumber : ℕ → Type 0
HasNumber top = top + 1 < 2 ^ 63

-- why a full save of a state failed, behind this save number
abbrev pub FailsFull : Durable → ℕ → SaveFault → Type 0
FailsFull d top Disk = Fits d × HasNumber top
FailsFull d top TooLarge = IsTooLarge d
FailsFull d top NumbersUsed = Fits d × (HasNumber top → ⊥)
FailsFull d top Memory = Unit {0}

-- `Disk` exactly where the count rose
abbrev pub FaultOf : ℕ → ℕ → SaveFault → Type 0
FaultOf old new Disk = Rose old new
FaultOf old new TooLarge = new ≡ old
FaultOf old new NumbersUsed = new ≡ old
FaultOf old new Memory = new ≡ old

-- ---- what a save leaves

-- After a full save the image stands in the area that wasn't acknowledged, with the next save number and no record.
pub record IsFull {D : Type 0} (seen : D → Option Contents) (image : List ℕ) (old new : Saves D) : Type 0 where
  pub home : new.areas.home ≡ other old.areas.home
  pub top : new.areas.top ≡ old.areas.top + 1
  pub gate : new.areas.gate ≡ Some (57 + length image)
  pub bytes : seen new.areas.disk ≡ option_map (λ both. holding (other old.areas.home) (1 ∷ behind_gate (old.areas.top + 1) image) both) (seen old.areas.disk)

-- Behind the acknowledged texts stands a record more, with the closed gate of the next one.
pub record IsAdded {D : Type 0} (seen : D → Option Contents) (body : List ℕ) (old new : Saves D) : Type 0 where
  pub home : new.areas.home ≡ old.areas.home
  pub top : new.areas.top ≡ old.areas.top
  pub gate : new.areas.gate ≡ Some (gate_of old.areas + 41 + length body)
  pub bytes : seen new.areas.disk ≡ option_map (λ both. holding old.areas.home (written (gate_of old.areas) (1 ∷ record_behind body) (held old.areas.home both)) both) (seen old.areas.disk)

-- ---- how a snapshot is written

-- the most bytes that a record's body may have: there is none where no area is acknowledged, the last save failed, or even
-- an empty record would pass the limit
abbrev pub room_for : {D : Type 0} → Saves D → Option ℕ
room_for saves = if saves.failed then None else room_of saves.areas

-- a record of the state may be written
pub record HasRecord {D : Type 0} (saves : Saves D) (now : Durable) (body : List ℕ) : Type 0 where
  pub is : IsRecord (saved saves.last) (saved now) body
  pub room : IsSomeAnd (room_for saves) (λ room. length body ≤ room)

-- no record may be written, the state has no record, or its record is too long
abbrev pub AsksFull : {D : Type 0} → Saves D → Durable → Type 0
AsksFull saves now = (room_for saves ≡ None) ⊎ (IsNarrow now → ⊥)
    ⊎ ((body : List ℕ) × IsRecord (saved saves.last) (saved now) body × IsSomeAnd (room_for saves) (λ room. room < length body))

-- written as a full save
pub record AsFull {D T : Type 0} (seen : D → Option Contents) (now : Durable) (old new : Saves D) (result : Result T SaveFault) : Type 0 where
  pub asked : AsksFull old now
  pub full : OnOk result ((image : List ℕ) × IsImage (saved now) image × IsFull seen image old new)
  pub other_area : option_map (beside (other old.areas.home)) (seen new.areas.disk) ≡ option_map (beside (other old.areas.home)) (seen old.areas.disk)
  pub limits : MatchResult result (λ _. Fits now × HasNumber old.areas.top) (FailsFull now old.areas.top)

-- written as a record
pub record AsRecord {D T : Type 0} (seen : D → Option Contents) (now : Durable) (old new : Saves D) (result : Result T SaveFault) : Type 0 where
  pub body : List ℕ
  pub has : HasRecord old now body
  pub added : OnOk result (IsAdded seen body old new)
  pub other_area : option_map (beside old.areas.home) (seen new.areas.disk) ≡ option_map (beside old.areas.home) (seen old.areas.disk)
  pub fault : IfErr result (λ f. f ≡ Disk)

-- A snapshot is written as a full save where that is asked, and else as a record; or memory wanted for it.
abbrev pub IsSaved : {D T : Type 0} → (D → Option Contents) → Durable → Saves D → Saves D → Result T SaveFault → Type 0
IsSaved seen now old new result = AsFull seen now old new result ⊎ AsRecord seen now old new result ⊎ (result ≡ Err Memory)
