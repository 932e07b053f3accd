-- What a crash leaves where it is chosen, call by call, what it leaves of a write or a cut.
use Rattle.std.specs.Prelude.{ℕ, ◌+◌, List, [], ◌∷◌, length, take, replicate, get_or, Bool, true, false, if◌then◌else◌, nat_le}
use Rattle.ws_outside.specs.declared.call.Call.{Call}
use Rattle.ws_outside.specs.declared.call.Request.{Request}
use Rattle.ws_outside.specs.declared.call.Request.TheVariants.{Len, Read, Write, Cut, Sync}
use Rattle.ws_outside.specs.declared.contents.Contents.{Contents}
use Rattle.ws_outside.specs.declared.contents.Which.{Which}
use Rattle.ws_outside.specs.declared.contents.Which.TheVariants.{Left, Right}
use Rattle.ws_outside.specs.declared.remnant.Remnant.{Remnant}
use Rattle.ws_outside.specs.declared.remnant.Remnant.TheVariants.{Nothing, Whole, Front, Filled, Bytes}
use Rattle.ws_outside.specs.Disk.{written}
use Rattle.ws_outside.specs.Replay.{is_same, reads_after}

-- whether a cut of which this is left has happened
abbrev pub happened : Remnant → Bool
happened Nothing = false
happened Whole = true
happened (Front _) = true
happened (Filled _) = true
happened (Bytes _) = true

-- what is left of a piece that was written
abbrev pub kept : Remnant → List ℕ → List ℕ
kept Nothing piece = []
kept Whole piece = piece
kept (Front len) piece = take len piece
kept (Filled byte) piece = replicate (length piece) byte
kept (Bytes others) piece = take (length piece) others.now

-- what it leaves of a call on an area that read so, where it left this of the calls before: by a sync that was done what
-- a read gives
abbrev pub left_after : Request → Bool → Remnant → List ℕ → List ℕ → List ℕ
left_after Len ok remnant reads left = left
left_after (Read _ _) ok remnant reads left = left
left_after (Write at piece) ok remnant reads left = if nat_le at (length left) then written at (kept remnant piece) left else left
left_after (Cut len) ok remnant reads left = if happened remnant then take len left else left
left_after Sync true remnant reads left = reads
left_after Sync false remnant reads left = left

-- the same of an area on which the call was or wasn't made
abbrev pub left_in : Which → Call → Remnant → List ℕ → List ℕ → List ℕ
left_in area call remnant reads left = if is_same area call.area then left_after call.request call.done remnant reads left else left

-- what a crash leaves of an area after these calls: the first of them has the given number, and at the number of each
-- stands what is left of that call, or nothing
abbrev pub left_by : Which → ℕ → List Call → List Remnant → List ℕ → List ℕ → List ℕ
left_by area number [] remnants reads left = left
left_by area number (call ∷ calls) remnants reads left =
    left_by area (number + 1) calls remnants (reads_after area call reads) (left_in area call (get_or remnants number Nothing) reads left)

-- what it leaves of both areas
abbrev pub left_of : Contents → List Call → List Remnant → Contents
left_of first calls remnants = record {
  left = left_by Left 0 calls remnants first.left first.left;
  right = left_by Right 0 calls remnants first.right first.right;
}
