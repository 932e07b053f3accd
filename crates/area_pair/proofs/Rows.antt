-- What two areas are read as, case by case.
use Rattle.std.proofs.Common.{◌≡◌, ℕ, ◌≤◌, ◌<◌, List, [], ◌∷◌, ◌++◌, Option, Some, None, Ok, Err, refl, sym, ap, subst}
use Rattle.std.specs.Prelude.{codes, replicate}
use Rattle.ws_outside.specs.declared.contents.Contents.{Contents}
use Rattle.ws_outside.specs.declared.contents.Which.TheVariants.{Left, Right}
use Rattle.disk_area.specs.Area.{IsArea}
use Rattle.disk_area.specs.Reading.{Place, head_of}
use Rattle.disk_area.specs.declared.damage.DamageCause.TheVariants.{BadMagic, BadVersion, BadNumber, Truncated}
use Rattle.disk_area.specs.declared.pieces.Head.{Head}
use Rattle.disk_area.proofs.Areas.{area_back}
use Rattle.area_pair.specs.Reads.{heads_from, in_area, reads_by, reads}
use Rattle.area_pair.proofs.Choosing.{whole_head, open_reads}

abbrev both : List ℕ → List ℕ → Contents
both left right = record { left = left; right = right }

-- both areas empty
empty : reads (both [] []) ≡ Ok None
empty = refl

-- one byte, whatever it is, is no area
one_byte : (byte : ℕ) → reads (both (byte ∷ []) []) ≡ Ok None
one_byte byte = refl

-- fewer bytes than a head has, behind an open gate
short_head : reads (both (1 ∷ codes "WSAREA") []) ≡ Ok None
short_head = refl

-- a gate that isn't 01, with anything behind it
closed_gate : reads (both (2 ∷ replicate 80 0) []) ≡ Ok None
closed_gate = refl

bad_magic : reads (both (1 ∷ replicate 80 0) []) ≡ Err record { area = Left; at = 1; cause = BadMagic }
bad_magic = refl

bad_version : reads (both [] (1 ∷ codes "WSAREA" ++ 0 ∷ 3 ∷ replicate 80 0)) ≡ Err record { area = Right; at = 7; cause = BadVersion 3 }
bad_version = refl

bad_number : reads (both (1 ∷ codes "WSAREA" ++ 0 ∷ 1 ∷ replicate 80 0) []) ≡ Err record { area = Left; at = 9; cause = BadNumber }
bad_number = refl

bad_length : reads (both (1 ∷ codes "WSAREA" ++ 0 ∷ 1 ∷ replicate 7 0 ++ 1 ∷ replicate 8 255 ++ replicate 80 0) []) ≡ Err record { area = Left; at = 17; cause = Truncated }
bad_length = refl

-- the damage of the left head comes first, and then that of the right one
left_first : (left right : List ℕ) (place : Place) → head_of left ≡ Err place → reads (both left right) ≡ Err (in_area Left place)
left_first left right place e = ap (λ l. reads_by (both left right) (heads_from l (head_of right))) e

then_right : (left right : List ℕ) (head : Option Head) (place : Place) → head_of left ≡ Ok head → head_of right ≡ Err place → reads (both left right) ≡ Err (in_area Right place)
then_right left right head place here there = λ i. reads_by (both left right) (heads_from (here i) (there i))

-- one area open, and the other one closed
left_open : (number : ℕ) (image : List ℕ) (records : List (List ℕ)) (left right : List ℕ) → IsArea number image records left → head_of right ≡ Ok None → reads (both left right) ≡ Ok (Some record { image = image; records = records })
left_open number image records left right a closed = open_reads Left number (record { image = image; records = records }) _ (both left right) None (area_back number image records left a) closed tt

right_open : (number : ℕ) (image : List ℕ) (records : List (List ℕ)) (left right : List ℕ) → head_of left ≡ Ok None → IsArea number image records right → reads (both left right) ≡ Ok (Some record { image = image; records = records })
right_open number image records left right closed a = open_reads Right number (record { image = image; records = records }) _ (both left right) None (area_back number image records right a) closed tt

-- both open: the left one on a tie or where its number is greater, else the right one
module _ (left_number : ℕ) (left_image : List ℕ) (left_records : List (List ℕ)) (left : List ℕ) (is_left : IsArea left_number left_image left_records left)
    (right_number : ℕ) (right_image : List ℕ) (right_records : List (List ℕ)) (right : List ℕ) (is_right : IsArea right_number right_image right_records right) where
  left_wins : right_number ≤ left_number → reads (both left right) ≡ Ok (Some record { image = left_image; records = left_records })
  left_wins le =
      let h = whole_head right_number (record { image = right_image; records = right_records }) _ right (area_back right_number right_image right_records right is_right) in
      open_reads Left left_number (record { image = left_image; records = left_records }) _ (both left right) (Some h.0) (area_back left_number left_image left_records left is_left) h.1
      (subst (λ (n : ℕ). n ≤ left_number) (sym h.2) le)

  right_wins : left_number < right_number → reads (both left right) ≡ Ok (Some record { image = right_image; records = right_records })
  right_wins lt =
      let h = whole_head left_number (record { image = left_image; records = left_records }) _ left (area_back left_number left_image left_records left is_left) in
      open_reads Right right_number (record { image = right_image; records = right_records }) _ (both left right) (Some h.0) (area_back right_number right_image right_records right is_right) h.1
      (subst (λ (n : ℕ). n < right_number) (sym h.2) lt)
