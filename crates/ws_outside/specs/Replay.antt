-- A disk in memory that keeps its first contents and all its calls: what its areas read as, and what a crash may leave.
use Rattle.std.specs.Prelude.{◌≡◌, ◌≤◌, ◌⊎◌, ℕ, List, [], ◌∷◌, ◌++◌, length, take, Bool, true, false, if◌then◌else◌, nat_le, Result, Ok, Err}
use Rattle.std.specs.Bool.{MatchBool}
use Rattle.ws_outside.specs.declared.call.Call.{Call}
use Rattle.ws_outside.specs.declared.call.Request.{Request}
use Rattle.ws_outside.specs.declared.call.Request.TheVariants.{Len, Read, Write, Cut, Sync}
use Rattle.ws_outside.specs.declared.contents.Contents.{Contents}
use Rattle.ws_outside.specs.declared.contents.Which.{Which}
use Rattle.ws_outside.specs.declared.contents.Which.TheVariants.{Left, Right}
use Rattle.ws_outside.specs.Disk.{held, holding, written, Torn}
use Rattle.ws_outside.specs.Disk as disk
use Rattle.ws_outside.specs.Faults.{next}

-- a disk in memory
pub record Device : Type 0 where
  -- what it held before its first call
  pub first : Contents
  -- its calls, the first one first
  pub calls : List Call
  -- the calls that are to fail, by their numbers from 0 on
  pub failing : List ℕ
  -- how many calls it can remember before more memory is asked for
  pub room : ℕ
  -- how many calls failed
  pub faults : ℕ

abbrev pub is_same : Which → Which → Bool
is_same Left Left = true
is_same Left Right = false
is_same Right Left = false
is_same Right Right = true

-- what an area reads as after a call on it that was done
abbrev pub done : Request → List ℕ → List ℕ
done Len bytes = bytes
done (Read _ _) bytes = bytes
done (Write at piece) bytes = if nat_le at (length bytes) then written at piece bytes else bytes
done (Cut len) bytes = take len bytes
done Sync bytes = bytes

-- what an area reads as after one call more
abbrev pub reads_after : Which → Call → List ℕ → List ℕ
reads_after area call bytes = if is_same area call.area then (if call.done then done call.request bytes else bytes) else bytes

-- what an area reads as after these calls
abbrev pub reads_as : Which → List Call → List ℕ → List ℕ
reads_as area [] bytes = bytes
reads_as area (call ∷ calls) bytes = reads_as area calls (reads_after area call bytes)

-- what both areas read as
abbrev pub reads : Contents → List Call → Contents
reads first calls = record { left = reads_as Left calls first.left; right = reads_as Right calls first.right }

-- what a crash after a call leaves of what one before it might have left: by a sync that was done what a read gives
abbrev pub Leaves : Request → Bool → List ℕ → List ℕ → List ℕ → Type 0
Leaves Len ok reads old new = new ≡ old
Leaves (Read _ _) ok reads old new = new ≡ old
Leaves (Write at piece) ok reads old new = Torn at (length piece) old new
Leaves (Cut len) ok reads old new = disk.Cut len old new
Leaves Sync true reads old new = new ≡ reads
Leaves Sync false reads old new = new ≡ old

-- the same of an area on which the call was or wasn't made
abbrev pub LeavesIn : Which → Call → List ℕ → List ℕ → List ℕ → Type 0
LeavesIn area call reads old new = MatchBool (is_same area call.area) (Leaves call.request call.done reads old new) (new ≡ old)

-- what a crash after these calls leaves of an area that read so before them
abbrev pub LeftBy : Which → List Call → List ℕ → List ℕ → List ℕ → Type 0
LeftBy area [] reads old new = new ≡ old
LeftBy area (call ∷ calls) reads old new =
    (next : List ℕ) × LeavesIn area call reads old next × LeftBy area calls (reads_after area call reads) next new

-- what a crash after these calls may leave
pub record MayLeave (first : Contents) (calls : List Call) (c : Contents) : Type 0 where
  pub left : LeftBy Left calls first.left first.left c.left
  pub right : LeftBy Right calls first.right first.right c.right

-- what a crash after so many of the calls, or more, may have left
abbrev pub LeftSince : Contents → List Call → ℕ → Contents → Type 0
LeftSince first calls t c = (k : ℕ) × (t ≤ k) × (k ≤ length calls) × MayLeave first (take k calls) c

-- a disk after one call more, with the room that it has then
abbrev pub called : Which → Request → Bool → ℕ → Device → Device
called area request ok room old = record old {
  calls = old.calls ++ record { area = area; request = request; done = ok } ∷ [];
  room = room;
  faults = if ok then old.faults else next old.faults;
}

-- a write without its bytes; another call as it is
abbrev pub bare : Request → Request
bare Len = Len
bare (Read at len) = Read at len
bare (Write at piece) = Write at []
bare (Cut len) = Cut len
bare Sync = Sync

-- A disk after a call with this answer remembers it. A write for whose bytes there was no memory it remembers without
-- them, and a call for which there was no room, and none to be had, not at all.
abbrev pub Made : {T E : Type 0} → Which → Request → Result T E → Device → Device → Type 0
Made area request (Ok _) old new = new ≡ called area request true new.room old
Made area request (Err _) old new = (new ≡ called area request false new.room old)
    ⊎ (new ≡ called area (bare request) false new.room old)
    ⊎ ((old.room ≤ length old.calls) × (new ≡ record old { faults = next old.faults }))

-- memory may want for a call: for remembering it where there is no room, and for what a write or a cut makes of an area
abbrev pub MayWant : Request → Device → Type 0
MayWant Len old = old.room ≤ length old.calls
MayWant (Read _ _) old = old.room ≤ length old.calls
MayWant (Write _ _) old = Unit {0}
MayWant (Cut _) old = Unit {0}
MayWant Sync old = old.room ≤ length old.calls
