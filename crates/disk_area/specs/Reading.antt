-- What the bytes of an area stand for, and the first damage of those that stand for nothing.
use Rattle.std.specs.Prelude.{◌≡◌, ℕ, zero, suc, ◌+◌, ◌-◌, ◌^◌, List, [], ◌∷◌, length, take, drop, codes, Bool, false, if◌then◌else◌, nat_lt, nat_le, nat_eq, bytes_eq, Option, Some, None, Result, Ok, Err, MatchResult}
use Rattle.byteorder.specs.Endian.{big_number}
use Rattle.sha2.specs.Sha256.{sha256}
use Rattle.ws_outside.specs.declared.contents.Which.{Which}
use Rattle.ws_outside.specs.Faults.{Rose}
use Rattle.disk_area.specs.Area.{written_version, area_text, IsArea}
use Rattle.disk_area.specs.declared.bodies.Area.{Area}
use Rattle.disk_area.specs.declared.damage.AreaFault.{AreaFault}
use Rattle.disk_area.specs.declared.damage.AreaFault.TheVariants.{Disk, Damaged, Memory}
use Rattle.disk_area.specs.declared.damage.DamageCause.{DamageCause}
use Rattle.disk_area.specs.declared.damage.DamageCause.TheVariants.{TooLarge, BadMagic, BadVersion, BadNumber, Truncated, BadDigest}
use Rattle.disk_area.specs.declared.pieces.Frame.{Frame}
use Rattle.disk_area.specs.declared.pieces.Head.{Head}
use Rattle.disk_area.specs.declared.pieces.Piece.{Piece}

-- a place in an area, and what is wrong there
abbrev pub Place : Type 0
Place = ℕ × DamageCause

-- a test, what it tells where it fails, and what comes where it holds
abbrev pub check : {T : Type 0} → Bool → Place → Result T Place → Result T Place
check holds place rest = if holds then rest else Err place

-- a gate is open where it is 01
abbrev pub is_open : List ℕ → Bool
is_open gate = bytes_eq gate (1 ∷ [])

-- the version that is read
abbrev pub read_version : ℕ
read_version = 1

-- a save number that can be written
abbrev pub is_number : ℕ → Bool
is_number number = if nat_le 1 number then nat_lt number (2 ^ 63) else false

-- an open area of this length with these fields, by the first row of damage that applies
abbrev pub head_from : ℕ → List ℕ → ℕ → ℕ → ℕ → Result (Option Head) Place
head_from size magic version number image =
    check (nat_le size (2 ^ 30)) (0, TooLarge)
    (check (bytes_eq magic (codes "WSAREA")) (1, BadMagic)
    (check (nat_eq version read_version) (7, BadVersion version)
    (check (is_number number) (9, BadNumber)
    (Ok (Some record { number = number; version = version; length = image })))))

-- what the length of an area and its first 57 bytes say: nothing where these are fewer, or the gate is closed
abbrev pub head_in : ℕ → List ℕ → Result (Option Head) Place
head_in size front =
    if nat_le 57 (length front) then (if is_open (take 1 front) then head_from size (take 6 (drop 1 front)) (big_number 2 (take 2 (drop 7 front))) (big_number 8 (take 8 (drop 9 front))) (big_number 8 (take 8 (drop 17 front))) else Ok None) else Ok None

-- the head of an area
abbrev pub head_of : List ℕ → Result (Option Head) Place
head_of bytes = head_in (length bytes) (take 57 bytes)

-- the length and the digest at a place of an area of this size, where the body that they announce and the gate after it
-- end within the area
abbrev pub frame_in : ℕ → ℕ → List ℕ → Option Frame
frame_in size at front =
    if nat_le 40 (length front) then (if nat_lt (big_number 8 (take 8 front)) (size - at - 40) then Some record { size = big_number 8 (take 8 front); digest = take 32 (drop 8 front) } else None) else None

-- a body, by its digest
abbrev pub piece_in : ℕ → Frame → List ℕ → Result Piece Place
piece_in at frame body =
    check (bytes_eq frame.digest (sha256 body)) (at + 40, BadDigest frame.digest (sha256 body))
    (Ok record { body = body; at = at + 40; gate = at + 40 + frame.size })

abbrev pub piece_from : ℕ → Option Frame → List ℕ → Result Piece Place
piece_from at None behind = Err (at, Truncated)
piece_from at (Some frame) behind = piece_in at frame (take frame.size behind)

-- the piece whose length stands at this place
abbrev pub piece_at : ℕ → List ℕ → Result Piece Place
piece_at at bytes = piece_from at (frame_in (length bytes) at (take 40 (drop at bytes))) (drop (at + 40) bytes)

-- the image
abbrev pub image_of : List ℕ → Result Piece Place
image_of bytes = piece_at 17 bytes

abbrev pub some_piece : Result Piece Place → Result (Option Piece) Place
some_piece (Ok piece) = Ok (Some piece)
some_piece (Err place) = Err place

-- the record whose gate stands at this place, where that is open
abbrev pub record_of : ℕ → List ℕ → Result (Option Piece) Place
record_of gate bytes = if is_open (take 1 (drop gate bytes)) then some_piece (piece_at (gate + 1) bytes) else Ok None

-- the bodies of records, and behind them the place of the closed gate, or the first damage
abbrev pub Records : Type 0
Records = List (List ℕ) × Result ℕ Place

abbrev pub after_record : ℕ → (ℕ → Records) → Result (Option Piece) Place → Records
after_record gate next (Ok None) = ([], Ok gate)
after_record gate next (Ok (Some piece)) = (piece.body ∷ (next piece.gate).0, (next piece.gate).1)
after_record gate next (Err place) = ([], Err place)

-- the records from the gate at this place on, at most so many
abbrev pub records_from : ℕ → List ℕ → ℕ → Records
records_from zero bytes gate = ([], Ok gate)
records_from (suc most) bytes gate = after_record gate (records_from most bytes) (record_of gate bytes)

abbrev pub with_records : ℕ → Piece → Records → Result (Option Area) Place
with_records number image records = Ok (Some record { number = number; image = image.body; records = records.0; end = records.1 })

abbrev pub with_image : ℕ → List ℕ → Result Piece Place → Result (Option Area) Place
with_image number bytes (Ok image) = with_records number image (records_from (length bytes) bytes image.gate)
with_image number bytes (Err place) = Err place

abbrev pub with_head : List ℕ → Result (Option Head) Place → Result (Option Area) Place
with_head bytes (Ok None) = Ok None
with_head bytes (Ok (Some head)) = with_image head.number bytes (image_of bytes)
with_head bytes (Err place) = Err place

-- a whole area: nothing where it is closed; else its save number, its image, the bodies of its records, and the place of
-- the closed gate behind them or the first damage there; or the damage of its head or its image
abbrev pub area_of : List ℕ → Result (Option Area) Place
area_of bytes = with_head bytes (head_of bytes)

-- a gate that is closed, or not there
abbrev pub IsClosedAt : ℕ → List ℕ → Type 0
IsClosedAt gate bytes = is_open (take 1 (drop gate bytes)) ≡ false

-- A call tells what the area's bytes stand for, or exactly their damage. Where the disk failed or memory was wanting it
-- tells nothing of them.
abbrev pub Tells : {T : Type 0} → Which → Result T Place → Result T AreaFault → Type 0
Tells area expected (Ok value) = expected ≡ Ok value
Tells area expected (Err Disk) = Unit {0}
Tells area expected (Err (Damaged damage)) = (expected ≡ Err (damage.at, damage.cause)) × (damage.area ≡ area)
Tells area expected (Err Memory) = Unit {0}

-- the answer is of the area's bytes: neither the disk failed nor was memory wanting
abbrev pub IsOfBytes : {T : Type 0} → Result T AreaFault → Type 0
IsOfBytes (Ok _) = Unit {0}
IsOfBytes (Err Disk) = ⊥
IsOfBytes (Err (Damaged _)) = Unit {0}
IsOfBytes (Err Memory) = ⊥

-- of an area of such pieces a call that reads it tells them
abbrev pub TellsPieces : Which → List ℕ → Result (Option Area) AreaFault → Type 0
TellsPieces area bytes result = (number : ℕ) (image : List ℕ) (records : List (List ℕ)) → IsArea number image records bytes
    → Tells area (Ok (Some record { number = number; image = image; records = records; end = Ok (length (area_text number image records)) })) result

abbrev pub FaultOf : ℕ → ℕ → AreaFault → Type 0
FaultOf old new Disk = Rose old new
FaultOf old new (Damaged _) = new ≡ old
FaultOf old new Memory = new ≡ old

-- the call answered `Disk` exactly where the count rose in it
abbrev pub HasFault : {T : Type 0} → ℕ → ℕ → Result T AreaFault → Type 0
HasFault old new result = MatchResult result (λ _. new ≡ old) (FaultOf old new)

-- an area is read as this save, with no record
pub record ReadsAsSave (number : ℕ) (image bytes : List ℕ) : Type 0 where
  pub head : head_of bytes ≡ Ok (Some record { number = number; version = written_version; length = length image })
  pub piece : image_of bytes ≡ Ok record { body = image; at = 57; gate = 57 + length image }
  pub last : IsClosedAt (57 + length image) bytes
  pub whole : IsArea number image [] bytes

-- at this gate an area is read as this record, the last one
pub record ReadsAsRecord (gate : ℕ) (body bytes : List ℕ) : Type 0 where
  pub piece : record_of gate bytes ≡ Ok (Some record { body = body; at = gate + 41; gate = gate + 41 + length body })
  pub last : IsClosedAt (gate + 41 + length body) bytes
