-- That a disk in memory keeps the laws of a disk.
use Rattle.std.proofs.Common.{◌≡◌, inl, inr, ℕ, ◌+◌, ◌-◌, ◌≤◌, List, [], ◌∷◌, ◌++◌, length, take, drop, refl, sym, ◌∙◌, ap, subst, arith, append_assoc, length-append, length-take, length-drop}
use Rattle.std.specs.Prelude.{if◌then◌else◌, nat_le, Bool, true, false}
use Rattle.std.specs.Bool.{MatchBool}
use Rattle.std.proofs.lemmas.Bool.Decides.{nat_tests}
use Rattle.std.proofs.lemmas.List.{take_at, drop_at, drop-drop, take_all}
use Rattle.ws_outside.specs.declared.call.Call.{Call}
use Rattle.ws_outside.specs.declared.call.Request.{Request}
use Rattle.ws_outside.specs.declared.call.Request.TheVariants.{Len, Read, Write, Cut, Sync}
use Rattle.ws_outside.specs.declared.contents.Contents.{Contents}
use Rattle.ws_outside.specs.declared.contents.Which.{Which}
use Rattle.ws_outside.specs.declared.contents.Which.TheVariants.{Left, Right}
use Rattle.ws_outside.specs.Disk.{written, Torn}
use Rattle.ws_outside.specs.Replay.{is_same, done, reads_after, reads_as, reads, Leaves, LeftBy, MayLeave, LeftSince}

pub torn_same : (at n : ℕ) (bytes : List ℕ) → Torn at n bytes bytes
torn_same at n bytes = record { before = refl; after = refl; no_shorter = omega arith; no_longer = omega arith }

-- a write of which a part, or other bytes as many at most, came through
torn_written : (at n : ℕ) (piece old : List ℕ) → length piece ≤ n → at ≤ length old → Torn at n old (written at piece old)
torn_written at n piece old part le =
    let size : length (take at old) ≡ at = omega (arith, length-take at old, le) in
    let front : length (take at old ++ piece) ≡ at + length piece = omega (arith, size, length-append (take at old) piece) in
    let sum = length-append (take at old ++ piece) (drop (at + length piece) old) in
    let rest : at + length piece + (n - length piece) ≡ at + n = omega (arith, part) in
    record {
      before = ap (take at) (append_assoc (take at old) piece (drop (at + length piece) old)) ∙ take_at (take at old) (piece ++ drop (at + length piece) old) at size;
      after = ap (λ (k : ℕ). drop k (written at piece old)) (sym rest)
          ∙ sym (drop-drop (n - length piece) (at + length piece) (written at piece old))
          ∙ ap (drop (n - length piece)) (drop_at (take at old ++ piece) (drop (at + length piece) old) (at + length piece) front)
          ∙ drop-drop (n - length piece) (at + length piece) old
          ∙ ap (λ (k : ℕ). drop k old) rest;
      no_shorter = omega (arith, sum, front, length-drop (at + length piece) old);
      no_longer = omega (arith, sum, front, part, le, length-drop (at + length piece) old);
    }

torn_if : (at n : ℕ) (piece old : List ℕ) (b : Bool) → length piece ≤ n → (b ≡ true → at ≤ length old) → Torn at n old (if b then written at piece old else old)
torn_if at n piece old true part le = torn_written at n piece old part (le refl)
torn_if at n piece old false part le = torn_same at n old

le_of : (m n : ℕ) → nat_le m n ≡ true → m ≤ n
le_of m n e = grind (arith, nat_tests)

pub torn_part : (at n : ℕ) (piece old : List ℕ) → length piece ≤ n → Torn at n old (if nat_le at (length old) then written at piece old else old)
torn_part at n piece old part = torn_if at n piece old (nat_le at (length old)) part (le_of at (length old))

-- what an area reads as is one of the things that a crash leaves of it
step_itself : (same : Bool) (request : Request) (ok : Bool) (bytes : List ℕ) →
    let next = if same then (if ok then done request bytes else bytes) else bytes in MatchBool same (Leaves request ok bytes bytes next) (next ≡ bytes)
step_itself false request ok bytes = refl
step_itself true Len true bytes = refl
step_itself true Len false bytes = refl
step_itself true (Read at len) true bytes = refl
step_itself true (Read at len) false bytes = refl
step_itself true (Write at piece) true bytes = torn_part at (length piece) piece bytes (omega arith)
step_itself true (Write at piece) false bytes = torn_same at (length piece) bytes
step_itself true (Cut len) true bytes = inr refl
step_itself true (Cut len) false bytes = inl refl
step_itself true Sync true bytes = refl
step_itself true Sync false bytes = refl

pub left_itself : (area : Which) (calls : List Call) (bytes : List ℕ) → LeftBy area calls bytes bytes (reads_as area calls bytes)
left_itself area [] bytes = refl
left_itself area (call ∷ calls) bytes =
    (reads_after area call bytes, step_itself (is_same area call.area) call.request call.done bytes, left_itself area calls (reads_after area call bytes))

pub leaves_itself : (first : Contents) (calls : List Call) → MayLeave first calls (reads first calls)
leaves_itself first calls = record { left = left_itself Left calls first.left; right = left_itself Right calls first.right }

pub counts_here : (first : Contents) (calls : List Call) (t : ℕ) (c : Contents) → t ≤ length calls → MayLeave first calls c → LeftSince first calls t c
counts_here first calls t c le left = (length calls, le, omega arith, subst (λ l. MayLeave first l c) (sym (take_all (length calls) calls (omega arith))) left)

pub only_here : (first : Contents) (calls : List Call) (c : Contents) → LeftSince first calls (length calls) c → MayLeave first calls c
only_here first calls c left = subst (λ l. MayLeave first l c) (take_all left.0 calls left.1) left.3
