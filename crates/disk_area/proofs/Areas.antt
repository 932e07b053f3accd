-- What is printed of an area is read back.
use Rattle.std.proofs.Common.{◌≡◌, ◌≢◌, ℕ, zero, suc, ◌+◌, ◌≤◌, ◌<◌, ◌^◌, List, [], ◌∷◌, ◌++◌, length, take, drop, Option, Some, None, Result, Ok, false, refl, sym, ◌∙◌, ap, subst, arith, append_assoc, length-append}
use Rattle.std.proofs.lemmas.List.{drop_at}
use Rattle.std.specs.Prelude.{if◌then◌else◌, codes, IfSome}
use Rattle.byteorder.specs.Endian.{big_bytes}
use Rattle.sha2.specs.Sha256.{sha256}
use Rattle.ws_outside.specs.declared.contents.Contents.{Contents}
use Rattle.ws_outside.specs.declared.contents.Which.{Which}
use Rattle.ws_outside.specs.Disk.{held}
use Rattle.disk_area.specs.Area.{header, record_header, records_text, area_text, IsArea}
use Rattle.disk_area.specs.Reading.{is_open, piece_at, some_piece, record_of, head_of, image_of, Records, after_record, records_from, with_records, with_image, with_head, area_of, Tells, TellsPieces}
use Rattle.disk_area.specs.declared.bodies.Area.{Area}
use Rattle.disk_area.specs.declared.damage.AreaFault.{AreaFault}
use Rattle.disk_area.specs.declared.pieces.Piece.{Piece}
use Rattle.disk_area.proofs.Chain.{length-area}
use Rattle.disk_area.proofs.ReadingBack.{fields, head_back, piece_back, record_spelled, closed_at}
use Rattle.disk_area.proofs.Staging.{length-header, length-record_header}

-- behind records a gate stands
gated : (bodies : List (List ℕ)) (gate : ℕ) (rest : List ℕ) → (z : ℕ) × (zs : List ℕ) × (records_text bodies ++ gate ∷ rest ≡ z ∷ zs)
gated [] gate rest = (gate, rest, refl)
gated (b ∷ bodies) gate rest = (1, record_header b ++ b ++ records_text bodies ++ gate ∷ rest, refl)

-- a record, and what stands behind it
record_here : (front b tail bytes : List ℕ) (at z : ℕ) (zs : List ℕ) → length front ≡ at → tail ≡ z ∷ zs → length b < 2 ^ 64 → bytes ≡ front ++ (1 ∷ (record_header b ++ b ++ tail))
    → record_of at bytes ≡ Ok (Some record { body = b; at = at + 41; gate = at + 41 + length b })
record_here front b tail bytes at z zs size next small is =
    let text = record_header b ++ b ++ tail in
    let open_ : take 1 (drop at bytes) ≡ 1 ∷ [] = ap (λ l. take 1 l) (ap (drop at) is ∙ drop_at front (1 ∷ text) at size) in
    let spelled : bytes ≡ (front ++ 1 ∷ []) ++ (big_bytes 8 (length b) ++ (sha256 b ++ (b ++ z ∷ zs))) =
    is ∙ sym (append_assoc front (1 ∷ []) text) ∙ ap (λ l. (front ++ 1 ∷ []) ++ l) (record_spelled b tail ∙ ap (λ l. big_bytes 8 (length b) ++ (sha256 b ++ (b ++ l))) next) in
    let piece : piece_at (at + 1) bytes ≡ Ok record { body = b; at = at + 1 + 40; gate = at + 1 + 40 + length b } =
    piece_back (at + 1) bytes (front ++ 1 ∷ []) b z zs (omega (arith, size, length-append front (1 ∷ []))) small spelled in
    let e : at + 1 + 40 ≡ at + 41 = omega arith in
    ap (λ o. if o then some_piece (piece_at (at + 1) bytes) else Ok None) (ap is_open open_)
    ∙ ap some_piece piece ∙ ap (λ (k : ℕ). Ok (Some (let p : Piece = record { body = b; at = k; gate = k + length b } in p))) e

pub records_back : (most at : ℕ) (front bytes : List ℕ) (bodies : List (List ℕ)) (gate : ℕ) (rest : List ℕ) → length bodies ≤ most → length front ≡ at → length bytes < 2 ^ 64 → gate ≢ 1
    → bytes ≡ front ++ (records_text bodies ++ gate ∷ rest) → records_from most bytes at ≡ (bodies, Ok (at + length (records_text bodies)))
records_back zero at front bytes [] gate rest le size small shut is = let e : at ≡ at + 0 = omega arith in ap (λ (k : ℕ). let r : Records = ([], Ok k) in r) e
records_back (suc most) at front bytes [] gate rest le size small shut is =
    let closed : is_open (take 1 (drop at bytes)) ≡ false = closed_at at bytes front gate rest size is shut in
    let none : record_of at bytes ≡ Ok None = ap (λ o. if o then some_piece (piece_at (at + 1) bytes) else Ok None) closed in
    let e : at ≡ at + 0 = omega arith in
    ap (after_record at (records_from most bytes)) none ∙ ap (λ (k : ℕ). let r : Records = ([], Ok k) in r) e
records_back zero at front bytes (b ∷ bodies) gate rest le size small shut is = absurd (omega (arith, le))
records_back (suc most) at front bytes (b ∷ bodies) gate rest le size small shut is =
    let tail = records_text bodies ++ gate ∷ rest in
    let z = gated bodies gate rest in
    let spelled : bytes ≡ front ++ (1 ∷ (record_header b ++ b ++ tail)) = is ∙ ap (λ l. front ++ 1 ∷ l) (append_assoc (record_header b ++ b) (records_text bodies) (gate ∷ rest)) in
    let long : length b < 2 ^ 64 = omega (arith, small, ap length spelled, length-append front (1 ∷ (record_header b ++ b ++ tail)), length-append (record_header b ++ b) tail, length-append (record_header b) b) in
    let here = record_here front b tail bytes at z.0 z.1 size z.2 long spelled in
    let behind : bytes ≡ (front ++ 1 ∷ (record_header b ++ b)) ++ tail = spelled ∙ sym (append_assoc front (1 ∷ (record_header b ++ b)) tail) in
    let more : length (front ++ 1 ∷ (record_header b ++ b)) ≡ at + 41 + length b = omega (arith, size, length-append front (1 ∷ (record_header b ++ b)), length-append (record_header b) b, length-record_header b) in
    let next : records_from most bytes (at + 41 + length b) ≡ (bodies, Ok (at + 41 + length b + length (records_text bodies))) =
    records_back most (at + 41 + length b) (front ++ 1 ∷ (record_header b ++ b)) bytes bodies gate rest (omega (arith, le)) more small shut behind in
    let e : at + 41 + length b + length (records_text bodies) ≡ at + length (records_text (b ∷ bodies)) =
    omega (arith, length-append (record_header b ++ b) (records_text bodies), length-append (record_header b) b, length-record_header b) in
    ap (after_record at (records_from most bytes)) here
    ∙ ap (λ (r : Records). let s : Records = (b ∷ r.0, r.1) in s) next
    ∙ ap (λ (k : ℕ). let r : Records = (b ∷ bodies, Ok k) in r) e

records_longer : (bodies : List (List ℕ)) → length bodies ≤ length (records_text bodies)
records_longer [] = omega arith
records_longer (b ∷ bodies) = omega (arith, records_longer bodies, length-append (record_header b ++ b) (records_text bodies))

module _ (number : ℕ) (image : List ℕ) (records : List (List ℕ)) (bytes : List ℕ) (a : IsArea number image records bytes) where
  spelled : bytes ≡ 1 ∷ (codes "WSAREA" ++ (0 ∷ 1 ∷ (big_bytes 8 number ++ (big_bytes 8 (length image) ++ (sha256 image ++ (image ++ (records_text records ++ a.gate ∷ a.rest)))))))
  spelled = a.spelled ∙ ap (λ l. 1 ∷ l) (append_assoc (header number image ++ image) (records_text records) (a.gate ∷ a.rest) ∙ fields number image (records_text records ++ a.gate ∷ a.rest))

  whole : length bytes ≡ 58 + length image + length (records_text records) + length a.rest
  whole = omega (arith, ap length a.spelled, length-append (area_text number image records) (a.gate ∷ a.rest), length-area number image records)

  pub area_back : area_of bytes ≡ Ok (Some record { number = number; image = image; records = records; end = Ok (length (area_text number image records)) })
  area_back =
      let z = gated records a.gate a.rest in
      let head = ap head_of spelled ∙ head_back number image (records_text records ++ a.gate ∷ a.rest) (omega (arith, whole, a.small, length-append (records_text records) (a.gate ∷ a.rest))) a.low a.high in
      let piece : image_of bytes ≡ Ok record { body = image; at = 57; gate = 57 + length image } =
      piece_back 17 bytes (1 ∷ (codes "WSAREA" ++ (0 ∷ 1 ∷ big_bytes 8 number))) image z.0 z.1 refl (omega (arith, whole, a.small))
      (spelled ∙ ap (λ l. 1 ∷ (codes "WSAREA" ++ (0 ∷ 1 ∷ (big_bytes 8 number ++ (big_bytes 8 (length image) ++ (sha256 image ++ (image ++ l))))))) z.2) in
      let bodies : records_from (length bytes) bytes (57 + length image) ≡ (records, Ok (57 + length image + length (records_text records))) =
      records_back (length bytes) (57 + length image) (1 ∷ (header number image ++ image)) bytes records a.gate a.rest
      (omega (arith, whole, records_longer records)) (omega (arith, length-header number image, length-append (header number image) image)) (omega (arith, a.small)) a.shut
      (a.spelled ∙ append_assoc (1 ∷ (header number image ++ image)) (records_text records) (a.gate ∷ a.rest)) in
      ap (with_head bytes) head
      ∙ ap (with_image number bytes) piece
      ∙ ap (with_records number (let p : Piece = record { body = image; at = 57; gate = 57 + length image } in p)) bodies
      ∙ ap (λ (k : ℕ). Ok (Some (let s : Area = record { number = number; image = image; records = records; end = Ok k } in s))) (sym (length-area number image records))

-- a call that tells what an area is read as tells its pieces
pub told_pieces : (area : Which) (o : Option Contents) (r : Result (Option Area) AreaFault) → IfSome o (λ both. Tells area (area_of (held area both)) r) → IfSome o (λ both. TellsPieces area (held area both) r)
told_pieces area None r told = tt
told_pieces area (Some both) r told = λ number image records a. subst (λ e. Tells area e r) (area_back number image records (held area both) a) told
