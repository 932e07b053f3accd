-- What two areas are read as: the texts of the chosen one, or the first damage.
use Rattle.std.specs.Prelude.{◌≡◌, ℕ, ◌≤◌, ◌<◌, List, max, if◌then◌else◌, nat_lt, Option, Some, None, Result, Ok, Err}
use Rattle.ws_outside.specs.declared.contents.Contents.{Contents}
use Rattle.ws_outside.specs.declared.contents.Which.{Which}
use Rattle.ws_outside.specs.declared.contents.Which.TheVariants.{Left, Right}
use Rattle.ws_outside.specs.Disk.{held}
use Rattle.disk_area.specs.declared.bodies.Area.{Area}
use Rattle.disk_area.specs.declared.damage.AreaFault.{AreaFault}
use Rattle.disk_area.specs.declared.damage.AreaFault.TheVariants.{Disk, Damaged, Memory}
use Rattle.disk_area.specs.declared.damage.Damage.{Damage}
use Rattle.disk_area.specs.declared.pieces.Head.{Head}
use Rattle.disk_area.specs.Reading.{Place, head_of, area_of}
use Rattle.area_pair.specs.declared.texts.Texts.{Texts}

-- the heads of both areas, each where that area is open
abbrev pub Heads : Type 0
Heads = Option Head × Option Head

-- a place, in this area
abbrev pub in_area : Which → Place → Damage
in_area area place = record { area = area; at = place.0; cause = place.1 }

-- two heads, or the damage of the left one, or else that of the right one
abbrev pub heads_from : Result (Option Head) Place → Result (Option Head) Place → Result Heads Damage
heads_from (Err place) right = Err (in_area Left place)
heads_from (Ok left) (Err place) = Err (in_area Right place)
heads_from (Ok left) (Ok right) = Ok (left, right)

-- both heads; the damage of the left one comes before that of the right one
abbrev pub heads_of : Contents → Result Heads Damage
heads_of both = heads_from (head_of both.left) (head_of both.right)

-- the open area decides, of two the one with the greater number, on a tie the left one
abbrev pub chosen : Heads → Option Which
chosen (None, None) = None
chosen (None, Some right) = Some Right
chosen (Some left, None) = Some Left
chosen (Some left, Some right) = Some (if nat_lt left.number right.number then Right else Left)

-- the save number of an area, 0 where it is closed
abbrev pub number_of : Option Head → ℕ
number_of None = 0
number_of (Some head) = head.number

-- the greatest number of an open area, 0 where none is open
abbrev pub greatest : Heads → ℕ
greatest heads = max (number_of heads.0) (number_of heads.1)

-- the texts of an area whose records end at a gate; or the damage at which they end
abbrev pub with_end : Which → Area → Result ℕ Place → Result (Option Texts) Damage
with_end area whole (Ok gate) = Ok (Some record { image = whole.image; records = whole.records })
with_end area whole (Err place) = Err (in_area area place)

-- the texts of one area: nothing where it is closed
abbrev pub texts_in : Which → Result (Option Area) Place → Result (Option Texts) Damage
texts_in area (Ok None) = Ok None
texts_in area (Ok (Some whole)) = with_end area whole whole.end
texts_in area (Err place) = Err (in_area area place)

-- the texts of the chosen area
abbrev pub texts_of : Contents → Option Which → Result (Option Texts) Damage
texts_of both None = Ok None
texts_of both (Some area) = texts_in area (area_of (held area both))

-- the texts, by both heads
abbrev pub reads_by : Contents → Result Heads Damage → Result (Option Texts) Damage
reads_by both (Ok heads) = texts_of both (chosen heads)
reads_by both (Err damage) = Err damage

-- What both areas are read as: the texts of the chosen one, nothing where none is open, or the first damage: of the left
-- head, of the right head, and then of the chosen area.
abbrev pub reads : Contents → Result (Option Texts) Damage
reads both = reads_by both (heads_of both)

-- A call tells what the areas' bytes are read as, or exactly their damage. Where the disk failed or memory was wanting it
-- tells nothing of them.
abbrev pub TellsBoth : {T : Type 0} → Result T Damage → Result T AreaFault → Type 0
TellsBoth expected (Ok value) = expected ≡ Ok value
TellsBoth expected (Err Disk) = Unit {0}
TellsBoth expected (Err (Damaged damage)) = expected ≡ Err damage
TellsBoth expected (Err Memory) = Unit {0}

-- an area with this number is read as these texts, up to the closed gate at this place
abbrev pub IsWhole : ℕ → Texts → ℕ → List ℕ → Type 0
IsWhole number texts gate bytes = area_of bytes ≡ Ok (Some record { number = number; image = texts.image; records = texts.records; end = Ok gate })

-- the other area
abbrev pub other : Which → Which
other Left = Right
other Right = Left

-- beside an area of a number at this side one with the number n isn't chosen
abbrev pub Loses : Which → ℕ → ℕ → Type 0
Loses Left number n = n ≤ number
Loses Right number n = n < number
