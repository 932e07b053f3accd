-- What every store keeps, whatever its points are.
use Rattle.std.proofs.Common.{◌≡◌, inl, inr, ℕ, ◌+◌, ◌-◌, ◌≤◌, ◌<◌, ◌^◌, List, [], ◌∷◌, ◌++◌, length, Option, Some, None, Result, Ok, Err, Bool, true, false, OnOk, OnErr, refl, ◌∙◌, ap, subst, arith}
use Rattle.std.proofs.lemmas.Bool.Decides.{nat_tests}
use Rattle.std.proofs.Math.Logic.{∥∥₁_elim, ∥∥₁_map}
use Rattle.std.specs.Coded.{×_prop, Π_prop, →_prop, le_prop, Coded-set, coded_bool, coded_option, coded_result}
use Rattle.std.specs.Prelude.{if◌then◌else◌, nat_le, IsSomeAnd}
use Rattle.ws_outside.specs.declared.contents.Contents.{Contents}
use Rattle.ws_outside.specs.Disk.{held, Each}
use Rattle.disk_area.specs.Reading.{IsClosedAt}
use Rattle.disk_area.specs.Writes.{IsShut}
use Rattle.disk_area.specs.contracts.damage.Damage as of_damage
use Rattle.disk_area.specs.declared.damage.Damage.{Damage}
use Rattle.disk_area.specs.declared.bodies.Area.{Area}
use Rattle.disk_area.proofs.Fronts.{read_ends}
use Rattle.area_pair.specs.contracts.texts.Texts as of_texts
use Rattle.area_store.specs.declared.desk.Desk.{Desk}
use Rattle.area_pair.specs.Reads.{reads, other}
use Rattle.area_store.specs.Kept.{Point, saved, recorded, Among, StandsAt, IsKept, IsSound, room_at}
use Rattle.area_store.proofs.Steps.{start_reads}

-- facts that have one proof at most
shut_prop : (bytes : List ℕ) → IsProp (IsShut bytes)
shut_prop [] = λ x y. absurd x
shut_prop (g ∷ bytes) = →_prop (λ x y. absurd x)

reads_prop : (c : Contents) (r : Result Point Damage) → IsProp (reads c ≡ r)
reads_prop c r = Coded-set (coded_result (coded_option of_texts.the_row.coded) of_damage.the_row.coded) (reads c) r

module _ {D : Type 0} (may_leave : D → Contents → Type 0) (desk : Desk D) where
  pub sound_shut : IsSound may_leave desk → desk.spare_shut ≡ true → Each (may_leave desk.disk) (λ c. IsShut (held (other desk.home) c))
  sound_shut sound e = ∥∥₁_elim sound (Π_prop (λ c. →_prop (shut_prop (held (other desk.home) c)))) (λ k. k.2.shut e)

  -- the gate behind the acknowledged texts is closed
  at_gate : (shut : Bool) (number gate : ℕ) (at : Option ℕ) (point : Point) (bytes : List ℕ) → at ≡ Some gate → StandsAt shut number at point bytes → (gate < length bytes) × IsClosedAt gate bytes
  at_gate shut number gate None point bytes is stands = absurd (cc is)
  at_gate shut number gate (Some g) None bytes is stands = absurd stands
  at_gate shut number gate (Some g) (Some texts) bytes is stands =
      subst (λ (k : ℕ). (k < length bytes) × IsClosedAt k bytes) (some_is g gate is)
      (read_ends bytes (let a : Area = record { number = number; image = texts.image; records = texts.records; end = Ok g } in a) g stands.1 refl)
    where
      some_is : (x y : ℕ) → (let o : Option ℕ = Some x in o) ≡ Some y → x ≡ y
      some_is x y e = cc e

  pub sound_closed : (gate : ℕ) → IsSound may_leave desk → desk.gate ≡ Some gate → desk.failed ≡ false → Each (may_leave desk.disk) (λ c. (gate < length (held desk.home c)) × IsClosedAt gate (held desk.home c))
  sound_closed gate sound is calm = ∥∥₁_elim sound (Π_prop (λ c. →_prop (×_prop le_prop (Coded-set coded_bool _ _))))
      (λ k c left. at_gate desk.home_shut k.2.number gate desk.gate k.0 (held desk.home c) is (k.2.sure calm c left))

  -- each crash image is read as the one point
  pub one_reads : (first : Point) → IsKept may_leave first [] desk → Each (may_leave desk.disk) (λ c. reads c ≡ Ok first)
  one_reads first kept c left =
      let r = start_reads may_leave first [] desk kept c left in
      r.2 ∙ ap (λ p. Ok p) (only first r.0 r.1)
    where
      only : (first p : Point) → Among p (first ∷ []) → p ≡ first
      only first p (inl is) = is
      only first p (inr none) = absurd none

module _ {D : Type 0} (may_leave : D → Contents → Type 0) (old new : Desk D) where
  -- a save that was acknowledged
  pub sound_saved : (p : Point) → IsSound may_leave old → ((first : Point) (begun : List Point) → IsKept may_leave first begun old → IsKept may_leave p [] new) → IsSound may_leave new
  sound_saved p sound saved = ∥∥₁_map sound (λ k. (p, [], saved k.0 k.1 k.2))

  pub sound_recorded : (body : List ℕ) → IsSound may_leave old → ((first : Point) (begun : List Point) → IsKept may_leave first begun old → IsKept may_leave (recorded body first) [] new) → IsSound may_leave new
  sound_recorded body sound saved = ∥∥₁_map sound (λ k. (recorded body k.0, [], saved k.0 k.1 k.2))

  pub sound_reads : (p : Point) → IsSound may_leave old → ((first : Point) (begun : List Point) → IsKept may_leave first begun old → IsKept may_leave p [] new) → Each (may_leave new.disk) (λ c. reads c ≡ Ok p)
  sound_reads p sound saved = ∥∥₁_elim sound (Π_prop (λ c. →_prop (reads_prop c (Ok p)))) (λ k. one_reads may_leave new p (saved k.0 k.1 k.2))

-- what room says
pub room_told : (failed : Bool) (gate : Option ℕ) (n : ℕ) → IsSomeAnd (room_at failed gate) (λ room. n ≤ room) → (g : ℕ) × (gate ≡ Some g) × (failed ≡ false) × (g + n + 42 ≤ 2 ^ 30)
room_told failed None n fits = absurd fits
room_told true (Some g) n fits = absurd fits
room_told false (Some g) n fits = (g, refl, refl, in_room g n (nat_le (g + 42) (2 ^ 30)) refl fits)
  where
    in_room : (g n : ℕ) (b : Bool) → nat_le (g + 42) (2 ^ 30) ≡ b → IsSomeAnd (if b then Some (2 ^ 30 - (g + 42)) else None) (λ room. n ≤ room) → g + n + 42 ≤ 2 ^ 30
    in_room g n true le fits = let small = le_of (g + 42) (2 ^ 30) le in omega (arith, small, fits)
      where
        le_of : (m n : ℕ) → nat_le m n ≡ true → m ≤ n
        le_of m n e = grind (arith, nat_tests)
    in_room g n false le fits = absurd fits

-- after a save, whatever it answered
module _ {D : Type 0} (may_leave : D → Contents → Type 0) (old new : Desk D) {T E : Type 0} where
  pub sound_after : (p : Point) (r : Result T E) → OnOk r ((first : Point) (begun : List Point) → IsKept may_leave first begun old → IsKept may_leave p [] new)
      → OnErr r ((first : Point) (begun : List Point) → IsKept may_leave first begun old → IsKept may_leave first (begun ++ p ∷ []) new) → IsSound may_leave old → IsSound may_leave new
  sound_after p (Ok _) saved unsaved sound = sound_saved may_leave old new p sound saved
  sound_after p (Err _) saved unsaved sound = ∥∥₁_map sound (λ k. (k.0, k.1 ++ p ∷ [], unsaved k.0 k.1 k.2))

  pub sound_with : (body : List ℕ) (r : Result T E) → OnOk r ((first : Point) (begun : List Point) → IsKept may_leave first begun old → IsKept may_leave (recorded body first) [] new)
      → OnErr r ((first : Point) (begun : List Point) → IsKept may_leave first begun old → IsKept may_leave first (begun ++ recorded body first ∷ []) new) → IsSound may_leave old → IsSound may_leave new
  sound_with body (Ok _) saved unsaved sound = sound_recorded may_leave old new body sound saved
  sound_with body (Err _) saved unsaved sound = ∥∥₁_map sound (λ k. (k.0, k.1 ++ recorded body k.0 ∷ [], unsaved k.0 k.1 k.2))
