-- What was written is read back.
use Rattle.std.proofs.Common.{◌≡◌, ◌≢◌, inl, inr, ℕ, ◌+◌, ◌-◌, ◌≤◌, ◌<◌, ◌^◌, List, [], ◌∷◌, ◌++◌, length, take, drop, Option, Some, None, Ok, Bool, true, false, refl, sym, ◌∙◌, ap, subst, arith, append_assoc, length-append, length-take, take-append-drop, take-take}
use Rattle.std.proofs.lemmas.Bool.{cases_eq}
use Rattle.std.proofs.lemmas.Bool.Decides.{nat_tests}
use Rattle.std.proofs.lemmas.Slice.Eq.{bytes_eq-Decides}
use Rattle.std.proofs.lemmas.List.{take_at, drop_at, drop-take}
use Rattle.std.specs.Prelude.{IfSome, option_map, if◌then◌else◌, nat_lt, nat_le, bytes_eq, codes}
use Rattle.byteorder.specs.Endian.{big_bytes, big_number}
use Rattle.byteorder.specs.Numbers.{big_number-reads_back}
use Rattle.sha2.specs.Sha256.{sha256}
use Rattle.sha2.proofs.Facts256.{length-sha256}
use Rattle.ws_wire.specs.Fields.{number_field}
use Rattle.disk_area.specs.Area.{header, record_header, behind_gate, record_behind}
use Rattle.disk_area.specs.Moments.{Saving, Growing}
use Rattle.disk_area.specs.Reading.{is_open, IsClosedAt, head_from, head_of, frame_in, piece_in, piece_from, piece_at, some_piece, ReadsAsSave, ReadsAsRecord}
use Rattle.disk_area.specs.Writes.{KeepsFront, IsShut, Appended, Recording, Rewriting}
use Rattle.disk_area.specs.declared.pieces.Frame.{Frame}
use Rattle.disk_area.specs.declared.pieces.Piece.{Piece}
use Rattle.disk_area.proofs.Chain.{save_is_area, keeps_pieces}
use Rattle.disk_area.proofs.Staging.{length-header, length-record_header, length-behind}
use Rattle.ws_outside.specs.declared.contents.Contents.{Contents}
use Rattle.ws_outside.specs.declared.contents.Which.{Which}
use Rattle.ws_outside.specs.declared.contents.Which.TheVariants.{Left, Right}
use Rattle.ws_outside.specs.Disk.{held, holding, InArea, Came, Each}

same_bytes : (xs ys : List ℕ) → xs ≡ ys → bytes_eq xs ys ≡ true
same_bytes xs ys e = grind (arith, bytes_eq-Decides xs ys)

frame_is : (size at n : ℕ) (front digest : List ℕ) → length front ≡ 40 → big_number 8 (take 8 front) ≡ n → take 32 (drop 8 front) ≡ digest → n < size - at - 40
    → frame_in size at front ≡ Some record { size = n; digest = digest }
frame_is size at n front digest long number kept fits =
    let lt : big_number 8 (take 8 front) < size - at - 40 = omega (arith, number, fits) in
    let done : frame_in size at front ≡ Some record { size = big_number 8 (take 8 front); digest = take 32 (drop 8 front) } = frame_done size at (big_number 8 (take 8 front)) front long lt in
    done ∙ (λ i. Some record { size = number i; digest = kept i })
  where
    frame_done : (size at n : ℕ) (front : List ℕ) → length front ≡ 40 → n < size - at - 40
        → (if nat_le 40 (length front) then (if nat_lt n (size - at - 40) then Some (let f : Frame = record { size = n; digest = take 32 (drop 8 front) } in f) else None) else None) ≡ Some record { size = n; digest = take 32 (drop 8 front) }
    frame_done size at n front long lt = grind (arith, nat_tests)

piece_is : (at : ℕ) (b : List ℕ) → (let frame : Frame = record { size = length b; digest = sha256 b } in piece_in at frame b) ≡ Ok record { body = b; at = at + 40; gate = at + 40 + length b }
piece_is at b = grind (arith, same_bytes (sha256 b) (sha256 b) refl)

-- a length, a digest, a body and a gate behind it are read back
pub piece_back : (at : ℕ) (bytes front b : List ℕ) (z : ℕ) (zs : List ℕ) → length front ≡ at → length b < 2 ^ 64
    → bytes ≡ front ++ (big_bytes 8 (length b) ++ (sha256 b ++ (b ++ z ∷ zs))) → piece_at at bytes ≡ Ok record { body = b; at = at + 40; gate = at + 40 + length b }
piece_back at bytes front b z zs size small is =
    let text = big_bytes 8 (length b) ++ (sha256 b ++ (b ++ z ∷ zs)) in
    let here : drop at bytes ≡ text = ap (drop at) is ∙ drop_at front text at size in
    let kept = big_bytes 8 (length b) ++ sha256 b in
    let long : length kept ≡ 40 = omega (arith, length-sha256 b) in
    let frame : take 40 (drop at bytes) ≡ kept = ap (take 40) here ∙ take_at kept (b ++ z ∷ zs) 40 long in
    let whole : length bytes ≡ at + 40 + length b + 1 + length zs = omega (arith, ap length is, size, length-append front text, length-sha256 b, length-append (sha256 b) (b ++ z ∷ zs), length-append b (z ∷ zs)) in
    let behind : drop (at + 40) bytes ≡ b ++ z ∷ zs = ap (drop (at + 40)) (is ∙ sym (append_assoc front kept (b ++ z ∷ zs))) ∙ drop_at (front ++ kept) (b ++ z ∷ zs) (at + 40) (omega (arith, size, long, length-append front kept)) in
    let number : big_number 8 (take 8 kept) ≡ length b = big_number-reads_back 8 (length b) [] small in
    let told : frame_in (length bytes) at (take 40 (drop at bytes)) ≡ Some record { size = length b; digest = sha256 b } =
    ap (frame_in (length bytes) at) frame ∙ frame_is (length bytes) at (length b) kept (sha256 b) long number (take_all_32 b) (omega (arith, whole)) in
    ap (λ f. piece_from at f (drop (at + 40) bytes)) told
    ∙ ap (λ l. piece_in at (let f : Frame = record { size = length b; digest = sha256 b } in f) (take (length b) l)) behind
    ∙ ap (λ l. piece_in at (let f : Frame = record { size = length b; digest = sha256 b } in f) l) (take_at b (z ∷ zs) (length b) refl)
    ∙ piece_is at b
  where
    take_all_32 : (b : List ℕ) → take 32 (sha256 b) ≡ sha256 b
    take_all_32 b = ap (take 32) (sym (nothing (sha256 b))) ∙ take_at (sha256 b) [] 32 (length-sha256 b)
      where
        nothing : (xs : List ℕ) → xs ++ [] ≡ xs
        nothing [] = refl
        nothing (x ∷ xs) = ap (λ l. x ∷ l) (nothing xs)

-- an area by its fields
pub fields : (number : ℕ) (image tail : List ℕ) → header number image ++ image ++ tail ≡ codes "WSAREA" ++ (0 ∷ 1 ∷ (big_bytes 8 number ++ (big_bytes 8 (length image) ++ (sha256 image ++ (image ++ tail)))))
unfolding header number_field
fields number image tail =
    append_assoc (header number image) image tail
    ∙ append_assoc (codes "WSAREA" ++ big_bytes 2 1 ++ big_bytes 8 number ++ big_bytes 8 (length image)) (sha256 image) (image ++ tail)

head_from_is : (size number image : ℕ) → size ≤ 2 ^ 30 → 1 ≤ number → number < 2 ^ 63 → head_from size (codes "WSAREA") 1 number image ≡ Ok (Some record { number = number; version = 1; length = image })
head_from_is size number image small low high = grind (arith, nat_tests)

long_enough : (n : ℕ) → 57 ≤ n → nat_le 57 n ≡ true
long_enough n le = grind (arith, nat_tests)

pub head_back : (number : ℕ) (image tail : List ℕ) → 57 + length image + length tail ≤ 2 ^ 30 → 1 ≤ number → number < 2 ^ 63
    → head_of (1 ∷ (codes "WSAREA" ++ (0 ∷ 1 ∷ (big_bytes 8 number ++ (big_bytes 8 (length image) ++ (sha256 image ++ (image ++ tail))))))) ≡ Ok (Some record { number = number; version = 1; length = length image })
head_back number image tail small low high =
    let rest = sha256 image ++ (image ++ tail) in
    let bytes = 1 ∷ (codes "WSAREA" ++ (0 ∷ 1 ∷ (big_bytes 8 number ++ (big_bytes 8 (length image) ++ rest)))) in
    let rests : length rest ≡ 32 + length image + length tail = omega (arith, length-sha256 image, length-append (sha256 image) (image ++ tail), length-append image tail) in
    let long : nat_le 57 (length (take 57 bytes)) ≡ true = long_enough (length (take 57 bytes)) (omega (arith, length-take 57 bytes, rests)) in
    let n : big_number 8 (big_bytes 8 number) ≡ number = big_number-reads_back 8 number [] (omega (arith, high)) in
    let l : big_number 8 (big_bytes 8 (length image)) ≡ length image = big_number-reads_back 8 (length image) [] (omega (arith, small)) in
    ap (λ b. if b then head_from (length bytes) (codes "WSAREA") 1 (big_number 8 (big_bytes 8 number)) (big_number 8 (big_bytes 8 (length image))) else Ok None) long
    ∙ ap (λ (k : ℕ). head_from (length bytes) (codes "WSAREA") 1 k (big_number 8 (big_bytes 8 (length image)))) n
    ∙ ap (λ (k : ℕ). head_from (length bytes) (codes "WSAREA") 1 number k) l
    ∙ head_from_is (length bytes) number (length image) (omega (arith, rests, small)) low high

pub closed_at : (at : ℕ) (bytes front : List ℕ) (z : ℕ) (zs : List ℕ) → length front ≡ at → bytes ≡ front ++ z ∷ zs → z ≢ 1 → IsClosedAt at bytes
closed_at at bytes front z zs size is shut = ap (λ l. is_open (take 1 l)) (ap (drop at) is ∙ drop_at front (z ∷ zs) at size) ∙ not_open z shut
  where
    not_open : (z : ℕ) → z ≢ 1 → is_open (z ∷ []) ≡ false
    not_open z shut = grind (arith, nat_tests, bytes_eq-Decides (z ∷ []) (1 ∷ []))

-- a save
pub save_back : (number : ℕ) (image bytes : List ℕ) → 58 + length image ≤ 2 ^ 30 → 1 ≤ number → number < 2 ^ 63 → bytes ≡ 1 ∷ behind_gate number image → ReadsAsSave number image bytes
save_back number image bytes small low high is =
    let spelled = is ∙ ap (λ l. 1 ∷ l) (fields number image (0 ∷ [])) in
    record {
      head = ap head_of spelled ∙ head_back number image (0 ∷ []) (omega (arith, small)) low high;
      piece = piece_back 17 bytes (1 ∷ (codes "WSAREA" ++ (0 ∷ 1 ∷ big_bytes 8 number))) image 0 [] refl (omega (arith, small)) spelled;
      last = closed_at (57 + length image) bytes (1 ∷ (header number image ++ image)) 0 [] (omega (arith, length-header number image, length-append (header number image) image)) is (λ z. absurd (omega (arith, z)));
      whole = save_is_area number image bytes small low high is;
    }

pub head_shut : (bytes : List ℕ) → IsShut bytes → head_of bytes ≡ Ok None
head_shut [] shut = absurd shut
head_shut (gate ∷ rest) shut = grind (arith, nat_tests, bytes_eq-Decides (gate ∷ []) (1 ∷ []))

-- a save that is written
pub saving : (closed : Bool) (number : ℕ) (image old new : List ℕ) → 58 + length image ≤ 2 ^ 30 → 1 ≤ number → number < 2 ^ 63
    → Rewriting closed (behind_gate number image) old new → Saving closed number image old new
saving closed number image old new small low high (inl same) = inr (inr same)
saving closed number image old new small low high (inr (inl shut)) = inl (head_shut new shut)
saving closed number image old [] small low high (inr (inr whole)) = absurd (omega (arith, whole.0))
saving closed number image old (gate ∷ rest) small low high (inr (inr whole)) = elim (cases_eq gate 1) [
  | inl open_ ↦ inr (inl (save_back number image (gate ∷ rest) small low high (λ i. open_ i ∷ whole.1 i)))
  | inr shut ↦ inl (head_shut (gate ∷ rest) shut)
]

-- a record
pub record_spelled : (body tail : List ℕ) → record_header body ++ body ++ tail ≡ big_bytes 8 (length body) ++ (sha256 body ++ (body ++ tail))
unfolding record_header number_field
record_spelled body tail = append_assoc (big_bytes 8 (length body) ++ sha256 body) body tail ∙ append_assoc (big_bytes 8 (length body)) (sha256 body) (body ++ tail)

appended_whole : (at : ℕ) (body old new : List ℕ) (gate : ℕ) → Appended at gate (record_behind body) old new
    → (rest : List ℕ) × (new ≡ (take at old ++ gate ∷ (record_header body ++ body)) ++ 0 ∷ rest) × (length (take at old) ≡ at)
appended_whole at body old new gate app =
    let rest = drop (at + 1 + length (record_behind body)) new in
    let text = record_header body ++ body in (
      rest,
      sym (take-append-drop (at + 1 + length (record_behind body)) new) ∙ ap (λ l. l ++ rest) (app.front ∙ sym (append_assoc (take at old) (gate ∷ text) (0 ∷ []))) ∙ append_assoc (take at old ++ gate ∷ text) (0 ∷ []) rest,
      omega (arith, length-take at old, app.whole),
    )

pub record_back : (at : ℕ) (body old new : List ℕ) → length body < 2 ^ 64 → Appended at 1 (record_behind body) old new → ReadsAsRecord at body new
record_back at body old new small app =
    let w = appended_whole at body old new 1 app in
    let text = record_header body ++ body in
    let gate : new ≡ take at old ++ 1 ∷ (text ++ 0 ∷ w.0) = w.1 ∙ append_assoc (take at old) (1 ∷ text) (0 ∷ w.0) in
    let open_ : take 1 (drop at new) ≡ 1 ∷ [] = ap (λ l. take 1 l) (ap (drop at) gate ∙ drop_at (take at old) (1 ∷ (text ++ 0 ∷ w.0)) at w.2) in
    let spelled : new ≡ (take at old ++ 1 ∷ []) ++ (big_bytes 8 (length body) ++ (sha256 body ++ (body ++ 0 ∷ w.0))) =
    gate ∙ sym (append_assoc (take at old) (1 ∷ []) (text ++ 0 ∷ w.0)) ∙ ap (λ l. (take at old ++ 1 ∷ []) ++ l) (record_spelled body (0 ∷ w.0)) in
    let piece : piece_at (at + 1) new ≡ Ok record { body = body; at = at + 1 + 40; gate = at + 1 + 40 + length body } =
    piece_back (at + 1) new (take at old ++ 1 ∷ []) body 0 w.0 (omega (arith, w.2, length-append (take at old) (1 ∷ []))) small spelled in
    let e : at + 1 + 40 ≡ at + 41 = omega arith in
    record {
      piece = ap (λ b. if b then some_piece (piece_at (at + 1) new) else Ok None) (ap is_open open_)
          ∙ ap some_piece piece ∙ ap (λ (k : ℕ). Ok (Some (let p : Piece = record { body = body; at = k; gate = k + length body } in p))) e;
      last = closed_at (at + 41 + length body) new (take at old ++ 1 ∷ text) 0 w.0
          (omega (arith, w.2, length-append (take at old) (1 ∷ text), length-append (record_header body) body, length-record_header body)) w.1 (λ z. absurd (omega (arith, z)));
    }

-- a gate that stays
gate_kept : (at : ℕ) (old new : List ℕ) → KeepsFront (at + 1) old new → take 1 (drop at new) ≡ take 1 (drop at old)
gate_kept at old new kept = sym (drop-take at 1 new) ∙ ap (drop at) kept.front ∙ drop-take at 1 old

shorter : (at : ℕ) (old new : List ℕ) → KeepsFront (at + 1) old new → KeepsFront at old new
shorter at old new kept = record {
  front = sym (take-take at (at + 1) new (omega arith)) ∙ ap (take at) kept.front ∙ take-take at (at + 1) old (omega arith);
  no_shorter = kept.no_shorter;
  no_longer = kept.no_longer;
}

-- a record that is written at a gate that is closed
pub growing : (at : ℕ) (body old new : List ℕ) → length body < 2 ^ 64 → IsClosedAt at old → Recording at (record_behind body) old new → Growing at body old new
growing at body old new small shut (inl kept) = record {
  before = shorter at old new kept;
  reads = inl (ap is_open (gate_kept at old new kept) ∙ shut);
  pieces = keeps_pieces at body old new (inl kept);
}
growing at body old new small shut (inr app) = record {
  before = kept_before at body old new app.0 app.1;
  reads = elim (cases_eq app.0 1) [
    | inl open_ ↦ inr (record_back at body old new small (subst (λ (g : ℕ). Appended at g (record_behind body) old new) open_ app.1))
    | inr closed ↦ inl (let w = appended_whole at body old new app.0 app.1 in
        closed_at at new (take at old) app.0 ((record_header body ++ body) ++ 0 ∷ w.0) w.2 (w.1 ∙ append_assoc (take at old) (app.0 ∷ (record_header body ++ body)) (0 ∷ w.0)) closed)
  ];
  pieces = keeps_pieces at body old new (inr app);
}
  where
    kept_before : (at : ℕ) (body old new : List ℕ) (gate : ℕ) → Appended at gate (record_behind body) old new → KeepsFront at old new
    kept_before at body old new gate app =
        let w = appended_whole at body old new gate app in
        record {
          front = ap (take at) (w.1 ∙ append_assoc (take at old) (gate ∷ (record_header body ++ body)) (0 ∷ w.0)) ∙ take_at (take at old) (gate ∷ (record_header body ++ body) ++ 0 ∷ w.0) at w.2;
          no_shorter = app.no_shorter;
          no_longer = app.no_longer;
        }

held-holding : (area : Which) (bytes : List ℕ) (both : Contents) → held area (holding area bytes both) ≡ bytes
held-holding Left bytes both = refl
held-holding Right bytes both = refl

-- where the gate behind what was written lies
pub saved_gate : (area : Which) (number : ℕ) (image : List ℕ) (old new : Option Contents) → new ≡ option_map (λ both. holding area (1 ∷ behind_gate number image) both) old
    → IfSome new (λ both. 57 + length image < length (held area both))
saved_gate area number image old new is = subst (λ o. IfSome o (λ both. 57 + length image < length (held area both))) (sym is) (at_some old)
  where
    at_some : (o : Option Contents) → IfSome (option_map (λ both. holding area (1 ∷ behind_gate number image) both) o) (λ both. 57 + length image < length (held area both))
    at_some None = tt
    at_some (Some both) = let e : held area (holding area (1 ∷ behind_gate number image) both) ≡ 1 ∷ behind_gate number image = held-holding area (1 ∷ behind_gate number image) both in
        omega (arith, ap length e, length-behind number image)

pub recorded_gate : (area : Which) (gate : ℕ) (body : List ℕ) (may_leave from : Contents → Type 0) (seen : Option Contents) → IfSome seen may_leave
    → Each may_leave (Came from (InArea area (Appended gate 1 (record_behind body)))) → IfSome seen (λ both. gate + 41 + length body < length (held area both))
recorded_gate area gate body may_leave from None itself all = tt
recorded_gate area gate body may_leave from (Some both) itself all =
    let app = (all both itself).2.here in
    let d = held area (all both itself).0 in
    omega (
      arith,
      ap length app.front,
      app.whole,
      length-take gate d,
      length-take (gate + 1 + length (record_behind body)) (held area both),
      length-append (take gate d) (1 ∷ record_behind body),
      length-append (record_header body ++ body) (0 ∷ []),
      length-append (record_header body) body,
      length-record_header body,
    )
