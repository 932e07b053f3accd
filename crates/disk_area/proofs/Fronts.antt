-- What is read of an area, as far as its front reaches.
use Rattle.std.proofs.Common.{◌≡◌, ◌⊎◌, inl, inr, ⊎_elim, ℕ, zero, suc, ◌+◌, ◌-◌, ◌≤◌, ◌<◌, ◌^◌, List, [], ◌∷◌, ◌++◌, length, take, drop, Option, Some, None, Result, Ok, Err, Bool, true, false, refl, sym, ◌∙◌, ap, subst, arith, length-take, take-take}
use Rattle.std.proofs.lemmas.Bool.Decides.{nat_tests}
use Rattle.std.proofs.lemmas.List.{drop-take, append-nil, drop_all}
use Rattle.std.specs.Prelude.{if◌then◌else◌, nat_lt, nat_le, nat_eq, bytes_eq, codes, max}
use Rattle.byteorder.specs.Endian.{big_number}
use Rattle.disk_area.specs.Reading.{Place, check, is_open, is_number, read_version, head_from, head_in, head_of, frame_in, piece_in, piece_from, piece_at, image_of, some_piece, record_of, Records, after_record, records_from, with_records, with_image, with_head, area_of, IsClosedAt, ReadsAsRecord}
use Rattle.disk_area.specs.Writes.{KeepsFront}
use Rattle.disk_area.specs.declared.bodies.Area.{Area}
use Rattle.disk_area.specs.declared.damage.DamageCause.TheVariants.{TooLarge, BadMagic, BadVersion, BadNumber}
use Rattle.disk_area.specs.declared.pieces.Frame.{Frame}
use Rattle.disk_area.specs.declared.pieces.Head.{Head}
use Rattle.disk_area.specs.declared.pieces.Piece.{Piece}

if_some : {A : Type 0} (b : Bool) (x : Option A) (y : A) → (if b then x else None) ≡ Some y → (b ≡ true) × (x ≡ Some y)
if_some true x y e = (refl, e)
if_some false x y e = absurd (cc e)

if_open : {A : Type 0} (b : Bool) (x : Result (Option A) Place) (y : A) → (if b then x else Ok None) ≡ Ok (Some y) → (b ≡ true) × (x ≡ Ok (Some y))
if_open true x y e = (refl, e)
if_open false x y e = absurd (cc e)

checked : {A : Type 0} (b : Bool) (place : Place) (rest : Result A Place) (y : A) → check b place rest ≡ Ok y → (b ≡ true) × (rest ≡ Ok y)
checked true place rest y e = (refl, e)
checked false place rest y e = absurd (cc e)

some_is : {A : Type 0} (x y : A) → Some x ≡ Some y → x ≡ y
some_is x y e = cc e

ok_is : {A E : Type 0} (x y : A) → (let r : Result A E = Ok x in r) ≡ Ok y → x ≡ y
ok_is x y e = cc e

le_of : (m n : ℕ) → nat_le m n ≡ true → m ≤ n
le_of m n e = grind (arith, nat_tests)

lt_of : (m n : ℕ) → nat_lt m n ≡ true → m < n
lt_of m n e = grind (arith, nat_tests)

le_true : (m n : ℕ) → m ≤ n → nat_le m n ≡ true
le_true m n le = grind (arith, nat_tests)

lt_true : (m n : ℕ) → m < n → nat_lt m n ≡ true
lt_true m n lt = grind (arith, nat_tests)

-- bytes before a place that stay
slice_kept : (g at k : ℕ) (old new : List ℕ) → take g new ≡ take g old → at + k ≤ g → take k (drop at new) ≡ take k (drop at old)
slice_kept g at k old new same le =
    sym (drop-take at k new) ∙ ap (drop at) (sym (take-take (at + k) g new le) ∙ ap (take (at + k)) same ∙ take-take (at + k) g old le) ∙ drop-take at k old

-- a piece, by its frame
record Lies (at : ℕ) (bytes : List ℕ) (piece : Piece) : Type 0 where
  pub frame : Frame
  pub framed : frame_in (length bytes) at (take 40 (drop at bytes)) ≡ Some frame
  pub judged : piece_in at frame (take frame.size (drop (at + 40) bytes)) ≡ Ok piece
  pub gate : piece.gate ≡ at + 40 + frame.size
  pub fits : at + 40 + frame.size < length bytes

from_some : (at : ℕ) (f : Option Frame) (behind : List ℕ) (piece : Piece) → piece_from at f behind ≡ Ok piece → (frame : Frame) × (f ≡ Some frame) × (piece_in at frame (take frame.size behind) ≡ Ok piece)
from_some at None behind piece e = absurd (cc e)
from_some at (Some frame) behind piece e = (frame, refl, e)

-- a frame that fits, by the numbers in it
abbrev framed : ℕ → ℕ → ℕ → ℕ → List ℕ → Option Frame
framed long size at n digest = if nat_le 40 long then (if nat_lt n (size - at - 40) then Some record { size = n; digest = digest } else None) else None

framed_fits : (long size at n : ℕ) (digest : List ℕ) (frame : Frame) → framed long size at n digest ≡ Some frame → at + 40 + frame.size < size
framed_fits long size at n digest frame e =
    let f : Frame = record { size = n; digest = digest } in
    let a = if_some (nat_le 40 long) (if nat_lt n (size - at - 40) then Some f else None) frame e in
    let b = if_some (nat_lt n (size - at - 40)) (Some f) frame a.1 in
    let is : n ≡ frame.size = ap (λ (f : Frame). f.size) (some_is f frame b.1) in
    let lt : n < size - at - 40 = lt_of n (size - at - 40) b.0 in
    omega (arith, is, lt)

framed_grows : (long size more at n : ℕ) (digest : List ℕ) (frame : Frame) → size ≤ more → framed long size at n digest ≡ Some frame → framed long more at n digest ≡ Some frame
framed_grows long size more at n digest frame le e =
    let f : Frame = record { size = n; digest = digest } in
    let a = if_some (nat_le 40 long) (if nat_lt n (size - at - 40) then Some f else None) frame e in
    let b = if_some (nat_lt n (size - at - 40)) (Some f) frame a.1 in
    let lt : n < size - at - 40 = lt_of n (size - at - 40) b.0 in
    let wide : nat_lt n (more - at - 40) ≡ true = lt_true n (more - at - 40) (omega (arith, lt, le)) in
    ap (λ t. if t then (if nat_lt n (more - at - 40) then Some f else None) else None) a.0 ∙ ap (λ t. if t then Some f else None) wide ∙ b.1

fits_of : (size at : ℕ) (front : List ℕ) (frame : Frame) → frame_in size at front ≡ Some frame → at + 40 + frame.size < size
fits_of size at front frame e = framed_fits (length front) size at (big_number 8 (take 8 front)) (take 32 (drop 8 front)) frame e

gate_of : (at : ℕ) (frame : Frame) (body : List ℕ) (piece : Piece) → piece_in at frame body ≡ Ok piece → piece.gate ≡ at + 40 + frame.size
gate_of at frame body piece e = let c = checked _ _ _ piece e in sym (ap (λ (p : Piece). p.gate) (ok_is _ _ c.1))

lies : (at : ℕ) (bytes : List ℕ) (piece : Piece) → piece_at at bytes ≡ Ok piece → Lies at bytes piece
lies at bytes piece e =
    let f = from_some at (frame_in (length bytes) at (take 40 (drop at bytes))) (drop (at + 40) bytes) piece e in
    record {
      frame = f.0;
      framed = f.1;
      judged = f.2;
      gate = gate_of at f.0 (take (f.0).size (drop (at + 40) bytes)) piece f.2;
      fits = fits_of (length bytes) at (take 40 (drop at bytes)) f.0 f.1;
    }

-- a longer area has the same frame
frame_grows : (size more at : ℕ) (front : List ℕ) (frame : Frame) → size ≤ more → frame_in size at front ≡ Some frame → frame_in more at front ≡ Some frame
frame_grows size more at front frame le e = framed_grows (length front) size more at (big_number 8 (take 8 front)) (take 32 (drop 8 front)) frame le e

piece_kept : (g at : ℕ) (old new : List ℕ) (piece : Piece) → take g new ≡ take g old → length old ≤ length new → piece.gate ≤ g → piece_at at old ≡ Ok piece → piece_at at new ≡ Ok piece
piece_kept g at old new piece same longer le e =
    let l = lies at old piece e in
    let front = slice_kept g at 40 old new same (omega (arith, l.gate, le)) in
    let framed : frame_in (length new) at (take 40 (drop at new)) ≡ Some l.frame = ap (frame_in (length new) at) front ∙ frame_grows (length old) (length new) at (take 40 (drop at old)) l.frame longer l.framed in
    let body = slice_kept g (at + 40) (l.frame).size old new same (omega (arith, l.gate, le)) in
    ap (λ f. piece_from at f (drop (at + 40) new)) framed ∙ ap (piece_in at l.frame) body ∙ l.judged

-- a record behind its open gate
some_of : (r : Result Piece Place) (piece : Piece) → some_piece r ≡ Ok (Some piece) → r ≡ Ok piece
some_of (Ok p) piece e = ap (λ p. Ok p) (some_is _ _ (ok_is _ _ e))
some_of (Err place) piece e = absurd (cc e)

open_record : (at : ℕ) (bytes : List ℕ) (piece : Piece) → record_of at bytes ≡ Ok (Some piece) → (is_open (take 1 (drop at bytes)) ≡ true) × (piece_at (at + 1) bytes ≡ Ok piece)
open_record at bytes piece e = let o = if_open (is_open (take 1 (drop at bytes))) (some_piece (piece_at (at + 1) bytes)) piece e in (o.0, some_of (piece_at (at + 1) bytes) piece o.1)

record_behind : (at : ℕ) (bytes : List ℕ) (piece : Piece) → record_of at bytes ≡ Ok (Some piece) → (at + 41 ≤ piece.gate) × (piece.gate < length bytes)
record_behind at bytes piece e = let l = lies (at + 1) bytes piece (open_record at bytes piece e).1 in (omega (arith, l.gate), omega (arith, l.gate, l.fits))

record_kept : (g at : ℕ) (old new : List ℕ) (piece : Piece) → take g new ≡ take g old → length old ≤ length new → piece.gate ≤ g → record_of at old ≡ Ok (Some piece) → record_of at new ≡ Ok (Some piece)
record_kept g at old new piece same longer le e =
    let o = open_record at old piece e in
    let b = record_behind at old piece e in
    let gate = slice_kept g at 1 old new same (omega (arith, b.0, le)) in
    ap (λ t. if t then some_piece (piece_at (at + 1) new) else Ok None) (ap is_open gate ∙ o.0)
    ∙ ap some_piece (piece_kept g (at + 1) old new piece same longer le o.1)

closed_of : (b : Bool) (r : Result Piece Place) → (if b then some_piece r else Ok None) ≡ Ok None → b ≡ false
closed_of true (Ok p) e = absurd (cc e)
closed_of true (Err place) e = absurd (cc e)
closed_of false r e = refl

none_at : (at : ℕ) (bytes : List ℕ) → IsClosedAt at bytes → record_of at bytes ≡ Ok None
none_at at bytes closed = ap (λ t. if t then some_piece (piece_at (at + 1) bytes) else Ok None) closed

-- one step of reading records
record Ends (most at : ℕ) (bytes : List ℕ) (bodies : List (List ℕ)) (g : ℕ) : Type 0 where
  pub none : record_of at bytes ≡ Ok None
  pub empty : bodies ≡ []
  pub gate : at ≡ g

record Goes (most at : ℕ) (bytes : List ℕ) (bodies : List (List ℕ)) (g : ℕ) : Type 0 where
  pub piece : Piece
  pub rest : List (List ℕ)
  pub here : record_of at bytes ≡ Ok (Some piece)
  pub first : bodies ≡ piece.body ∷ rest
  pub behind : records_from most bytes piece.gate ≡ (rest, Ok g)

no_more : (at : ℕ) (bodies : List (List ℕ)) (g : ℕ) → (let r : Records = ([], Ok at) in r) ≡ (bodies, Ok g) → (bodies ≡ []) × (at ≡ g)
no_more at bodies g e = (sym (ap (λ (r : Records). r.0) e), ok_is _ _ (ap (λ (r : Records). r.1) e))

step_of : (most at : ℕ) (bytes : List ℕ) (bodies : List (List ℕ)) (g : ℕ) (r : Result (Option Piece) Place) → record_of at bytes ≡ r → after_record at (records_from most bytes) r ≡ (bodies, Ok g)
    → Ends most at bytes bodies g ⊎ Goes most at bytes bodies g
step_of most at bytes bodies g (Ok None) is e = let n = no_more at bodies g e in inl (record { none = is; empty = n.0; gate = n.1 })
step_of most at bytes bodies g (Ok (Some piece)) is e = inr (record {
  piece = piece;
  rest = (records_from most bytes piece.gate).0;
  here = is;
  first = sym (ap (λ (r : Records). r.0) e);
  behind = let end = ap (λ (r : Records). r.1) e in ap (λ k. let r : Records = ((records_from most bytes piece.gate).0, k) in r) end;
})
step_of most at bytes bodies g (Err place) is e = let no = ap (λ (r : Records). r.1) e in absurd (cc no)

step : (most at : ℕ) (bytes : List ℕ) (bodies : List (List ℕ)) (g : ℕ) → records_from (suc most) bytes at ≡ (bodies, Ok g) → Ends most at bytes bodies g ⊎ Goes most at bytes bodies g
step most at bytes bodies g e = step_of most at bytes bodies g (record_of at bytes) refl e

gates_rise : (most at : ℕ) (bytes : List ℕ) (bodies : List (List ℕ)) (g : ℕ) → records_from most bytes at ≡ (bodies, Ok g) → at ≤ g
gates_rise zero at bytes bodies g e = omega (arith, (no_more at bodies g e).1)
gates_rise (suc most) at bytes bodies g e = elim (step most at bytes bodies g e) [
  | inl ends ↦ omega (arith, ends.gate)
  | inr goes ↦ omega (arith, gates_rise most (goes.piece).gate bytes goes.rest g goes.behind, (record_behind at bytes goes.piece goes.here).0)
]

-- behind the end there is nothing, so that more steps read no more
past : (at : ℕ) (bytes : List ℕ) → length bytes ≤ at → record_of at bytes ≡ Ok None
past at bytes le = none_at at bytes (ap (λ l. is_open (take 1 l)) (drop_all at bytes le))

after_both : (most more at : ℕ) (bytes : List ℕ) (r : Result (Option Piece) Place) → record_of at bytes ≡ r → ((k : ℕ) → at + 41 ≤ k → records_from most bytes k ≡ records_from more bytes k)
    → after_record at (records_from most bytes) r ≡ after_record at (records_from more bytes) r
after_both most more at bytes (Ok None) is next = refl
after_both most more at bytes (Ok (Some piece)) is next = ap (λ (r : Records). let s : Records = (piece.body ∷ r.0, r.1) in s) (next piece.gate (record_behind at bytes piece is).0)
after_both most more at bytes (Err place) is next = refl

fuel : (most more at : ℕ) (bytes : List ℕ) → length bytes ≤ at + most → length bytes ≤ at + more → records_from most bytes at ≡ records_from more bytes at
fuel zero zero at bytes le wide = refl
fuel zero (suc more) at bytes le wide = sym (ap (after_record at (records_from more bytes)) (past at bytes (omega (arith, le))))
fuel (suc most) zero at bytes le wide = ap (after_record at (records_from most bytes)) (past at bytes (omega (arith, wide)))
fuel (suc most) (suc more) at bytes le wide = after_both most more at bytes (record_of at bytes) refl (λ k behind. fuel most more k bytes (omega (arith, behind, le)) (omega (arith, behind, wide)))

-- all records from a gate on
abbrev all_from : List ℕ → ℕ → Records
all_from bytes at = records_from (length bytes) bytes at

all_none : (at : ℕ) (bytes : List ℕ) → record_of at bytes ≡ Ok None → all_from bytes at ≡ ([], Ok at)
all_none at bytes is = fuel (length bytes) (suc (length bytes)) at bytes (omega arith) (omega arith) ∙ ap (after_record at (all_from bytes)) is

all_some : (at : ℕ) (bytes : List ℕ) (piece : Piece) → record_of at bytes ≡ Ok (Some piece) → all_from bytes at ≡ (piece.body ∷ (all_from bytes piece.gate).0, (all_from bytes piece.gate).1)
all_some at bytes piece is = fuel (length bytes) (suc (length bytes)) at bytes (omega arith) (omega arith) ∙ ap (after_record at (all_from bytes)) is

-- records that end at a gate, and what stands there now
abbrev joined : List (List ℕ) → Records → Records
joined bodies records = (bodies ++ records.0, records.1)

records_on : (most g at : ℕ) (old new : List ℕ) (bodies : List (List ℕ)) → take g new ≡ take g old → length old ≤ length new → records_from most old at ≡ (bodies, Ok g) → all_from new at ≡ joined bodies (all_from new g)
records_on zero g at old new bodies same longer e =
    let n = no_more at bodies g e in
    ap (all_from new) n.1 ∙ ap (λ l. joined l (all_from new g)) (sym n.0)
records_on (suc most) g at old new bodies same longer e = elim (step most at old bodies g e) [
  | inl ends ↦ ap (all_from new) ends.gate ∙ ap (λ l. joined l (all_from new g)) (sym ends.empty)
  | inr goes ↦
      let next = goes.piece in
      let le = gates_rise most next.gate old goes.rest g goes.behind in
      all_some at new next (record_kept g at old new next same longer le goes.here)
      ∙ ap (λ (r : Records). let s : Records = (next.body ∷ r.0, r.1) in s) (records_on most g next.gate old new goes.rest same longer goes.behind)
      ∙ ap (λ l. joined l (all_from new g)) (sym goes.first)
]

records_end : (most at : ℕ) (bytes : List ℕ) (bodies : List (List ℕ)) (g : ℕ) → at < length bytes → length bytes ≤ at + most → records_from most bytes at ≡ (bodies, Ok g) → (g < length bytes) × IsClosedAt g bytes
records_end zero at bytes bodies g lt le e = absurd (omega (arith, lt, le))
records_end (suc most) at bytes bodies g lt le e = elim (step most at bytes bodies g e) [
  | inl ends ↦ (omega (arith, lt, ends.gate), subst (λ (k : ℕ). IsClosedAt k bytes) ends.gate (closed_of (is_open (take 1 (drop at bytes))) (piece_at (at + 1) bytes) ends.none))
  | inr goes ↦ let b = record_behind at bytes goes.piece goes.here in records_end most (goes.piece).gate bytes goes.rest g b.1 (omega (arith, le, b.0)) goes.behind
]

-- an open area, part by part
record Whole (bytes : List ℕ) (area : Area) : Type 0 where
  pub head : Head
  pub piece : Piece
  pub headed : head_of bytes ≡ Ok (Some head)
  pub number : head.number ≡ area.number
  pub pieced : image_of bytes ≡ Ok piece
  pub image : piece.body ≡ area.image
  pub records : all_from bytes piece.gate ≡ (area.records, area.end)

image_in : (number : ℕ) (bytes : List ℕ) (area : Area) (r : Result Piece Place) → with_image number bytes r ≡ Ok (Some area)
    → (piece : Piece) × (r ≡ Ok piece) × (number ≡ area.number) × (piece.body ≡ area.image) × (all_from bytes piece.gate ≡ (area.records, area.end))
image_in number bytes area (Err place) e = absurd (cc e)
image_in number bytes area (Ok piece) e = let is = some_is _ _ (ok_is _ _ e) in (
  piece,
  refl,
  ap (λ (a : Area). a.number) is,
  ap (λ (a : Area). a.image) is,
  ap (λ (a : Area). let r : Records = (a.records, a.end) in r) is,
)

whole_in : (bytes : List ℕ) (area : Area) (r : Result (Option Head) Place) → head_of bytes ≡ r → with_head bytes r ≡ Ok (Some area) → Whole bytes area
whole_in bytes area (Err place) is e = absurd (cc e)
whole_in bytes area (Ok None) is e = absurd (cc e)
whole_in bytes area (Ok (Some head)) is e =
    let i = image_in head.number bytes area (image_of bytes) e in
    record { head = head; piece = i.0; headed = is; number = i.2; pieced = i.1; image = i.3; records = i.4 }

whole_of : (bytes : List ℕ) (area : Area) → area_of bytes ≡ Ok (Some area) → Whole bytes area
whole_of bytes area e = whole_in bytes area (head_of bytes) refl e

area_is : (bytes : List ℕ) (head : Head) (piece : Piece) (records : Records) → head_of bytes ≡ Ok (Some head) → image_of bytes ≡ Ok piece → all_from bytes piece.gate ≡ records
    → area_of bytes ≡ Ok (Some record { number = head.number; image = piece.body; records = records.0; end = records.1 })
area_is bytes head piece records headed pieced read =
    ap (with_head bytes) headed ∙ ap (with_image head.number bytes) pieced ∙ ap (with_records head.number piece) read

-- the head of an open area has a number that can be written
number_in : (n : ℕ) → is_number n ≡ true → (1 ≤ n) × (n < 2 ^ 63)
number_in n e = grind (arith, nat_tests)

-- a head, by its fields
abbrev headed : Bool → Bool → ℕ → List ℕ → ℕ → ℕ → ℕ → Result (Option Head) Place
headed long gate size magic version number image = if long then (if gate then head_from size magic version number image else Ok None) else Ok None

headed_small : (long gate : Bool) (size : ℕ) (magic : List ℕ) (version number image : ℕ) (head : Head) → headed long gate size magic version number image ≡ Ok (Some head)
    → (size ≤ 2 ^ 30) × (1 ≤ head.number) × (head.number < 2 ^ 63)
headed_small long gate size magic version number image head e =
    let h : Head = record { number = number; version = version; length = image } in
    let numbered = check (is_number number) (9, BadNumber) (Ok (Some h)) in
    let versioned = check (nat_eq version read_version) (7, BadVersion version) numbered in
    let named = check (bytes_eq magic (codes "WSAREA")) (1, BadMagic) versioned in
    let x = if_open long (if gate then head_from size magic version number image else Ok None) head e in
    let y = if_open gate (head_from size magic version number image) head x.1 in
    let a = checked (nat_le size (2 ^ 30)) (0, TooLarge) named (Some head) y.1 in
    let b = checked (bytes_eq magic (codes "WSAREA")) (1, BadMagic) versioned (Some head) a.1 in
    let c = checked (nat_eq version read_version) (7, BadVersion version) numbered (Some head) b.1 in
    let d = checked (is_number number) (9, BadNumber) (Ok (Some h)) (Some head) c.1 in
    let is : number ≡ head.number = ap (λ (h : Head). h.number) (some_is h head (ok_is (Some h) (Some head) d.1)) in
    let n = number_in number d.0 in
    (le_of size (2 ^ 30) a.0, omega (arith, is, n.0), omega (arith, is, n.1))

headed_grows : (long gate : Bool) (size more : ℕ) (magic : List ℕ) (version number image : ℕ) (head : Head) → more ≤ 2 ^ 30 → headed long gate size magic version number image ≡ Ok (Some head)
    → headed long gate more magic version number image ≡ Ok (Some head)
headed_grows long gate size more magic version number image head le e =
    let h : Head = record { number = number; version = version; length = image } in
    let named = check (bytes_eq magic (codes "WSAREA")) (1, BadMagic) (check (nat_eq version read_version) (7, BadVersion version) (check (is_number number) (9, BadNumber) (Ok (Some h)))) in
    let x = if_open long (if gate then head_from size magic version number image else Ok None) head e in
    let y = if_open gate (head_from size magic version number image) head x.1 in
    let a = checked (nat_le size (2 ^ 30)) (0, TooLarge) named (Some head) y.1 in
    ap (λ t. if t then (if gate then head_from more magic version number image else Ok None) else Ok None) x.0
    ∙ ap (λ t. if t then head_from more magic version number image else Ok None) y.0
    ∙ ap (λ t. check t (0, TooLarge) named) (le_true more (2 ^ 30) le)
    ∙ a.1

pub head_fits : (bytes : List ℕ) (head : Head) → head_of bytes ≡ Ok (Some head) → (length bytes ≤ 2 ^ 30) × (1 ≤ head.number) × (head.number < 2 ^ 63)
head_fits bytes head e =
    let f = take 57 bytes in
    headed_small (nat_le 57 (length f)) (is_open (take 1 f)) (length bytes) (take 6 (drop 1 f)) (big_number 2 (take 2 (drop 7 f))) (big_number 8 (take 8 (drop 9 f))) (big_number 8 (take 8 (drop 17 f))) head e

head_grows : (size more : ℕ) (f : List ℕ) (head : Head) → more ≤ 2 ^ 30 → head_in size f ≡ Ok (Some head) → head_in more f ≡ Ok (Some head)
head_grows size more f head le e =
    headed_grows (nat_le 57 (length f)) (is_open (take 1 f)) size more (take 6 (drop 1 f)) (big_number 2 (take 2 (drop 7 f))) (big_number 8 (take 8 (drop 9 f))) (big_number 8 (take 8 (drop 17 f))) head le e

-- an area whose gate is open is closed only where it is too short for a head
check_none : {A : Type 0} (b : Bool) (place : Place) (rest : Result (Option A) Place) → check b place rest ≡ Ok None → rest ≡ Ok None
check_none true place rest e = e
check_none false place rest e = absurd (cc e)

open_some : (size : ℕ) (magic : List ℕ) (version number image : ℕ) → head_from size magic version number image ≡ Ok None → ⊥
open_some size magic version number image e =
    let h : Head = record { number = number; version = version; length = image } in
    let numbered = check (is_number number) (9, BadNumber) (Ok (Some h)) in
    let versioned = check (nat_eq version read_version) (7, BadVersion version) numbered in
    let named = check (bytes_eq magic (codes "WSAREA")) (1, BadMagic) versioned in
    let a = check_none (nat_le size (2 ^ 30)) (0, TooLarge) named e in
    let b = check_none (bytes_eq magic (codes "WSAREA")) (1, BadMagic) versioned a in
    let c = check_none (nat_eq version read_version) (7, BadVersion version) numbered b in
    let d = check_none (is_number number) (9, BadNumber) (Ok (Some h)) c in
    absurd (cc d)

if_short : (n : ℕ) (open_ closed : Result (Option Head) Place) → (open_ ≡ Ok None → ⊥) → (if nat_le 57 n then open_ else closed) ≡ Ok None → n < 57
if_short n open_ closed never e = by_test n open_ closed (nat_le 57 n) refl never e
  where
    lt_of : (n : ℕ) → nat_le 57 n ≡ false → n < 57
    lt_of n e = grind (arith, nat_tests)

    by_test : (n : ℕ) (open_ closed : Result (Option Head) Place) (b : Bool) → nat_le 57 n ≡ b → (open_ ≡ Ok None → ⊥) → (if b then open_ else closed) ≡ Ok None → n < 57
    by_test n open_ closed true is never e = absurd (never e)
    by_test n open_ closed false is never e = lt_of n is

pub gate_short : (rest : List ℕ) → head_of (1 ∷ rest) ≡ Ok None → length (1 ∷ rest) < 57
gate_short rest e =
    let b : List ℕ = 1 ∷ rest in
    let f = take 57 b in
    let lt = if_short (length f) (head_from (length b) (take 6 (drop 1 f)) (big_number 2 (take 2 (drop 7 f))) (big_number 8 (take 8 (drop 9 f))) (big_number 8 (take 8 (drop 17 f)))) (Ok None)
    (open_some (length b) (take 6 (drop 1 f)) (big_number 2 (take 2 (drop 7 f))) (big_number 8 (take 8 (drop 9 f))) (big_number 8 (take 8 (drop 17 f)))) e in
    omega (arith, lt, length-take 57 b)

-- an area whose front stays, and what is read behind it
module _ (g : ℕ) (old new : List ℕ) (kept : KeepsFront g old new) (area : Area) (read : area_of old ≡ Ok (Some area)) (ends : area.end ≡ Ok g) where
  parts : Whole old area
  parts = whole_of old area read

  rises : (parts.piece).gate ≤ g
  rises = gates_rise (length old) (parts.piece).gate old area.records g (parts.records ∙ ap (λ e. let r : Records = (area.records, e) in r) ends)

  front_read : area_of new ≡ Ok (Some record { number = area.number; image = area.image; records = area.records ++ (all_from new g).0; end = (all_from new g).1 })
  front_read =
      let l = lies 17 old parts.piece parts.pieced in
      let fits = head_fits old parts.head parts.headed in
      let low : 57 ≤ g = omega (arith, l.gate, rises) in
      let front : take 57 new ≡ take 57 old = sym (take-take 57 g new low) ∙ ap (take 57) kept.front ∙ take-take 57 g old low in
      let head : head_of new ≡ Ok (Some parts.head) = ap (head_in (length new)) front ∙ head_grows (length old) (length new) (take 57 old) parts.head (omega (arith, kept.no_longer, fits.0)) parts.headed in
      let piece : image_of new ≡ Ok parts.piece = piece_kept g 17 old new parts.piece kept.front kept.no_shorter rises parts.pieced in
      let records = records_on (length old) g (parts.piece).gate old new area.records kept.front kept.no_shorter (parts.records ∙ ap (λ e. let r : Records = (area.records, e) in r) ends) in
      area_is new parts.head parts.piece _ head piece records
      ∙ ap (λ (n : ℕ). Ok (Some (let a : Area = record { number = n; image = (parts.piece).body; records = area.records ++ (all_from new g).0; end = (all_from new g).1 } in a))) parts.number
      ∙ ap (λ l. Ok (Some (let a : Area = record { number = area.number; image = l; records = area.records ++ (all_from new g).0; end = (all_from new g).1 } in a))) parts.image

  -- a closed gate: nothing more is read
  pub read_kept : IsClosedAt g new → area_of new ≡ Ok (Some record { number = area.number; image = area.image; records = area.records; end = Ok g })
  read_kept closed = front_read
      ∙ ap (λ (r : Records). Ok (Some (let a : Area = record { number = area.number; image = area.image; records = area.records ++ r.0; end = r.1 } in a))) (all_none g new (none_at g new closed))
      ∙ ap (λ l. Ok (Some (let a : Area = record { number = area.number; image = area.image; records = l; end = Ok g } in a))) (append-nil area.records)

  -- one record more
  pub read_grown : (body : List ℕ) → ReadsAsRecord g body new
      → area_of new ≡ Ok (Some record { number = area.number; image = area.image; records = area.records ++ body ∷ []; end = Ok (g + 41 + length body) })
  read_grown body more = front_read
      ∙ ap (λ (r : Records). Ok (Some (let a : Area = record { number = area.number; image = area.image; records = area.records ++ r.0; end = r.1 } in a)))
      (all_some g new _ more.piece
      ∙ ap (λ (r : Records). let s : Records = (body ∷ r.0, r.1) in s) (all_none (g + 41 + length body) new (none_at (g + 41 + length body) new more.last)))

-- the gate at which an area ends is closed, and stands in it
pub read_ends : (bytes : List ℕ) (area : Area) (g : ℕ) → area_of bytes ≡ Ok (Some area) → area.end ≡ Ok g → (g < length bytes) × IsClosedAt g bytes
read_ends bytes area g read ends =
    let parts = whole_of bytes area read in
    let l = lies 17 bytes parts.piece parts.pieced in
    records_end (length bytes) (parts.piece).gate bytes area.records g (omega (arith, l.gate, l.fits)) (omega arith) (parts.records ∙ ap (λ e. let r : Records = (area.records, e) in r) ends)

-- the head of an open area
pub read_head : (bytes : List ℕ) (area : Area) → area_of bytes ≡ Ok (Some area) → (head : Head) × (head_of bytes ≡ Ok (Some head)) × (head.number ≡ area.number)
read_head bytes area read = let parts = whole_of bytes area read in (parts.head, parts.headed, parts.number)
