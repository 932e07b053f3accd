-- That a crash leaves what is chosen, and that this is something that it may leave.
use Rattle.std.proofs.Common.{get_or, ◌≡◌, ◌⊎◌, inl, inr, ℕ, ◌+◌, ◌≤◌, List, [], ◌∷◌, length, take, refl, arith, length-take}
use Rattle.std.specs.Prelude.{if◌then◌else◌, Bool, true, false}
use Rattle.std.specs.Bool.{MatchBool}
use Rattle.std.proofs.lemmas.List.{length-replicate}
use Rattle.ws_outside.specs.declared.call.Call.{Call}
use Rattle.ws_outside.specs.declared.call.Request.{Request}
use Rattle.ws_outside.specs.declared.call.Request.TheVariants.{Len, Read, Write, Cut, Sync}
use Rattle.ws_outside.specs.declared.contents.Contents.{Contents}
use Rattle.ws_outside.specs.declared.contents.Which.{Which}
use Rattle.ws_outside.specs.declared.contents.Which.TheVariants.{Left, Right}
use Rattle.ws_outside.specs.declared.remnant.Remnant.{Remnant}
use Rattle.ws_outside.specs.declared.remnant.Remnant.TheVariants.{Nothing, Whole, Front, Filled, Bytes}
use Rattle.ws_outside.specs.Crashes.{happened, kept, left_after, left_in, left_by, left_of}
use Rattle.ws_outside.specs.Inside.Laws.{torn_part}
use Rattle.ws_outside.specs.Replay.{is_same, reads_after, Leaves, LeftBy, MayLeave}

-- no more is left than was written
no_more : (remnant : Remnant) (piece : List ℕ) → length (kept remnant piece) ≤ length piece
no_more Nothing piece = omega arith
no_more Whole piece = omega arith
no_more (Front len) piece = omega (arith, length-take len piece)
no_more (Filled byte) piece = omega (arith, length-replicate (length piece) byte)
no_more (Bytes others) piece = omega (arith, length-take (length piece) others.now)

cut_or_not : (b : Bool) (len : ℕ) (left : List ℕ) → let cut = if b then take len left else left in (cut ≡ left) ⊎ (cut ≡ take len left)
cut_or_not true len left = inr refl
cut_or_not false len left = inl refl

after_may_be_left : (request : Request) (ok : Bool) (remnant : Remnant) (reads left : List ℕ) → Leaves request ok reads left (left_after request ok remnant reads left)
after_may_be_left Len ok remnant reads left = refl
after_may_be_left (Read at len) ok remnant reads left = refl
after_may_be_left (Write at piece) ok remnant reads left = torn_part at (length piece) (kept remnant piece) left (no_more remnant piece)
after_may_be_left (Cut len) ok remnant reads left = cut_or_not (happened remnant) len left
after_may_be_left Sync true remnant reads left = refl
after_may_be_left Sync false remnant reads left = refl

in_may_be_left : (same : Bool) (request : Request) (ok : Bool) (remnant : Remnant) (reads left : List ℕ) →
    let next = if same then left_after request ok remnant reads left else left in MatchBool same (Leaves request ok reads left next) (next ≡ left)
in_may_be_left true request ok remnant reads left = after_may_be_left request ok remnant reads left
in_may_be_left false request ok remnant reads left = refl

by_may_be_left : (area : Which) (number : ℕ) (calls : List Call) (remnants : List Remnant) (reads left : List ℕ) → LeftBy area calls reads left (left_by area number calls remnants reads left)
by_may_be_left area number [] remnants reads left = refl
by_may_be_left area number (call ∷ calls) remnants reads left =
    let remnant = get_or remnants number Nothing in (
      left_in area call remnant reads left,
      in_may_be_left (is_same area call.area) call.request call.done remnant reads left,
      by_may_be_left area (number + 1) calls remnants (reads_after area call reads) (left_in area call remnant reads left),
    )

-- what is left of both areas may be left
pub of_may_be_left : (first : Contents) (calls : List Call) (remnants : List Remnant) → MayLeave first calls (left_of first calls remnants)
of_may_be_left first calls remnants = record {
  left = by_may_be_left Left 0 calls remnants first.left first.left;
  right = by_may_be_left Right 0 calls remnants first.right first.right;
}
