-- What crash images are read as.
use Rattle.std.proofs.Common.{◌≡◌, ◌⊎◌, inl, inr, ⊎_elim, ℕ, ◌+◌, ◌≤◌, ◌<◌, ◌^◌, List, [], ◌∷◌, ◌++◌, length, take, drop, Option, Some, None, Ok, Bool, true, false, refl, sym, ◌∙◌, ap, subst, arith, length-take, length-drop}
use Rattle.std.proofs.lemmas.Bool.{cases_eq}
use Rattle.std.proofs.lemmas.Bool.Decides.{nat_tests}
use Rattle.std.specs.Prelude.{if◌then◌else◌, nat_le, IfSome}
use Rattle.ws_outside.specs.declared.contents.Contents.{Contents}
use Rattle.ws_outside.specs.declared.contents.Which.{Which}
use Rattle.ws_outside.specs.declared.contents.Which.TheVariants.{Left, Right}
use Rattle.ws_outside.specs.Disk.{held, InArea}
use Rattle.disk_area.specs.Area.{behind_gate, area_text}
use Rattle.disk_area.specs.Reading.{head_of}
use Rattle.disk_area.specs.Writes.{IsShut, SameBehind}
use Rattle.disk_area.specs.declared.bodies.Area.{Area}
use Rattle.disk_area.specs.declared.pieces.Head.{Head}
use Rattle.disk_area.proofs.Areas.{area_back}
use Rattle.disk_area.proofs.Chain.{save_is_area, length-area}
use Rattle.disk_area.proofs.Fronts.{head_fits}
use Rattle.disk_area.proofs.ReadingBack.{head_shut}
use Rattle.disk_area.proofs.Staging.{length-behind}
use Rattle.area_pair.specs.Reads.{number_of, texts_of, reads_by, reads, other, IsWhole, Loses}
use Rattle.area_pair.proofs.Choosing.{heads_read, spare_chosen, none_chosen, whole_head, texts_read, open_reads}
use Rattle.area_store.specs.Kept.{Point, saved, Among, ReadsAs, IsUnused, Stands, IsSpare, IsTornSafe}

pub twice : (area : Which) → other (other area) ≡ area
twice Left = refl
twice Right = refl

-- a closed area
short_false : (n : ℕ) → n < 57 → nat_le 57 n ≡ false
short_false n lt = grind (arith, nat_tests)

if_false : {A : Type 0} (b : Bool) (x y : A) → b ≡ false → (if b then x else y) ≡ y
if_false true x y e = absurd (cc e)
if_false false x y e = refl

pub head_short : (bytes : List ℕ) → length bytes < 57 → head_of bytes ≡ Ok None
head_short bytes lt = if_false (nat_le 57 (length (take 57 bytes))) _ (Ok None) (short_false (length (take 57 bytes)) (omega (arith, lt, length-take 57 bytes)))

pub head_unused : (shut : Bool) (bytes : List ℕ) → IsUnused shut bytes → head_of bytes ≡ Ok None
head_unused true bytes unused = head_shut bytes unused
head_unused false bytes unused = head_short bytes unused

standing_head : (shut : Bool) (number : ℕ) (point : Point) (bytes : List ℕ) → Stands shut number point bytes → (head : Option Head) × (head_of bytes ≡ Ok head) × (number_of head ≡ number)
standing_head shut number None bytes stands = (None, head_unused shut bytes stands.1, sym stands.0)
standing_head shut number (Some texts) bytes stands = let h = whole_head number texts (stands.1).0 bytes (stands.1).1 in (Some h.0, h.1, h.2)

-- the home area decides, where the spare one has no head or one that isn't chosen
pub home_reads : (home : Which) (shut : Bool) (number : ℕ) (point : Point) (c : Contents) (there : Option Head) → Stands shut number point (held home c) → head_of (held (other home) c) ≡ Ok there
    → IfSome there (λ h. Loses home number h.number × (1 ≤ h.number)) → reads c ≡ Ok point
home_reads home shut number None c None stands spare loses =
    ap (reads_by c) (heads_read home c None None (head_unused shut (held home c) stands.1) spare) ∙ ap (texts_of c) (none_chosen home)
home_reads home shut number None c (Some there) stands spare loses = absurd (nothing home number there.number stands.0 loses.0 loses.1)
  where
    nothing : (home : Which) (number n : ℕ) → number ≡ 0 → Loses home number n → 1 ≤ n → ⊥
    nothing Left number n none le low = omega (arith, none, le, low)
    nothing Right number n none lt low = omega (arith, none, lt, low)
home_reads home shut number (Some texts) c there stands spare loses = open_reads home number texts (stands.1).0 c there (stands.1).1 spare (only home number there loses)
  where
    only : (home : Which) (number : ℕ) (there : Option Head) → IfSome there (λ h. Loses home number h.number × (1 ≤ h.number)) → IfSome there (λ h. Loses home number h.number)
    only home number None loses = tt
    only home number (Some there) loses = loses.0

pub reads_as : (home : Which) (shut : Bool) (number : ℕ) (points begun : List Point) (point : Point) (c : Contents) → Among point points → ((p : Point) → Among p begun → Among p points)
    → Stands shut number point (held home c) → IsSpare home number begun (held (other home) c) → ReadsAs points c
reads_as home shut number points begun point c among wider stands (inl none) = (point, among, home_reads home shut number point c None stands none tt)
reads_as home shut number points begun point c among wider stands (inr (inl loses)) =
    (point, among, home_reads home shut number point c (Some loses.0) stands loses.2 (loses.1, (head_fits (held (other home) c) loses.0 loses.2).1))
reads_as home shut number points begun point c among wider stands (inr (inr new)) =
    let here = standing_head shut number point (held home c) stands in
    let there = whole_head new.0 new.1 new.2 (held (other home) c) new.5 in (
      Some new.1,
      wider (Some new.1) new.4,
      ap (reads_by c) (heads_read home c here.0 (Some there.0) here.1 there.1)
          ∙ ap (texts_of c) (spare_chosen home here.0 there.0 (omega (arith, here.2, there.2, new.3)))
          ∙ texts_read (other home) c new.0 new.1 new.2 new.5,
    )

pub spare_shut : (home : Which) (number : ℕ) (begun : List Point) (bytes : List ℕ) → IsShut bytes → IsSpare home number begun bytes
spare_shut home number begun bytes shut = inl (head_shut bytes shut)

-- a gate that is torn twice
pub torn_on : (home : Which) (number : ℕ) (begun : List Point) (d c : List ℕ) → SameBehind d c → IsTornSafe home number begun d → IsTornSafe home number begun c
torn_on home number begun d c same safe torn again = safe torn (again ∙ same)

-- the spare area goes on, and the home one stays; and the other way round
pub stays : (home : Which) (R : List ℕ → List ℕ → Type 0) (d c : Contents) → InArea (other home) R d c → held home c ≡ held home d
stays Left R d c moved = moved.there
stays Right R d c moved = moved.there

pub apart : (home : Which) (R : List ℕ → List ℕ → Type 0) (d c : Contents) → InArea home R d c → held (other home) c ≡ held (other home) d
apart Left R d c moved = moved.there
apart Right R d c moved = moved.there

pub among_more : (p : Point) (points more : List Point) → Among p points → Among p (points ++ more)
among_more p [] more among = absurd among
among_more p (q ∷ points) more (inl is) = inl is
among_more p (q ∷ points) more (inr among) = inr (among_more p points more among)

pub among_last : (p : Point) (points : List Point) → Among p (points ++ p ∷ [])
among_last p [] = inl refl
among_last p (q ∷ points) = inr (among_last p points)

pub spare_more : (home : Which) (number : ℕ) (begun more : List Point) (bytes : List ℕ) → IsSpare home number begun bytes → IsSpare home number (begun ++ more) bytes
spare_more home number begun more bytes (inl none) = inl none
spare_more home number begun more bytes (inr (inl loses)) = inr (inl loses)
spare_more home number begun more bytes (inr (inr new)) = inr (inr (new.0, new.1, new.2, new.3, among_more (Some new.1) begun more new.4, new.5))

-- an image behind any gate
gate_or_shut : (behind b : List ℕ) → 1 ≤ length b → drop 1 b ≡ behind → (b ≡ 1 ∷ behind) ⊎ IsShut b
gate_or_shut behind [] le e = absurd (omega (arith, le))
gate_or_shut behind (g ∷ b) le e = elim (cases_eq g 1) [
  | inl is ↦ inl (λ i. is i ∷ e i)
  | inr shut ↦ inr shut
]

-- a save that is written is read
pub image_whole : (number : ℕ) (image b : List ℕ) → 58 + length image ≤ 2 ^ 30 → 1 ≤ number → number < 2 ^ 63 → b ≡ 1 ∷ behind_gate number image
    → IsWhole number (record { image = image; records = [] }) (57 + length image) b
image_whole number image b small low high is =
    let e : length (area_text number image []) ≡ 57 + length image = omega (arith, length-area number image []) in
    area_back number image [] b (save_is_area number image b small low high is)
    ∙ ap (λ (k : ℕ). Ok (Some (let a : Area = record { number = number; image = image; records = []; end = Ok k } in a))) e

behind_size : (number : ℕ) (image b : List ℕ) → drop 1 b ≡ behind_gate number image → 1 ≤ length b
behind_size number image [] e = let n = length-behind number image in absurd (omega (arith, ap length e, n))
behind_size number image (g ∷ b) e = omega arith

pub new_spare : (home : Which) (number n : ℕ) (begun : List Point) (image b : List ℕ) → number < n → n < 2 ^ 63 → 58 + length image ≤ 2 ^ 30 → Among (saved image) begun → drop 1 b ≡ behind_gate n image → IsSpare home number begun b
new_spare home number n begun image b lt high small among behind =
    elim (gate_or_shut (behind_gate n image) b (behind_size n image b behind) behind) [
      | inl is ↦ inr (inr (n, record { image = image; records = [] }, 57 + length image, lt, among, image_whole n image b small (omega (arith, lt)) high is))
      | inr shut ↦ spare_shut home number begun b shut
    ]

-- an open area with its gate torn
pub torn_open : (old torn : List ℕ) (head : Head) → head_of old ≡ Ok (Some head) → SameBehind old torn → (torn ≡ old) ⊎ (head_of torn ≡ Ok None)
torn_open old [] head open_ same = inr (head_short [] (omega arith))
torn_open [] (g ∷ torn) head open_ same = let closed = head_short [] (omega arith) in absurd (cc (sym closed ∙ open_))
torn_open (h ∷ old) (g ∷ torn) head open_ same = elim (cases_eq g 1) [
  | inr shut ↦ inr (head_shut (g ∷ torn) shut)
  | inl is ↦ elim (cases_eq h 1) [
    | inr shut ↦ let closed = head_shut (h ∷ old) shut in absurd (cc (sym closed ∙ open_))
    | inl was ↦ inl (λ i. (is ∙ sym was) i ∷ same i)
  ]
]

pub torn_short : (old torn : List ℕ) → length old < 57 → SameBehind old torn → head_of torn ≡ Ok None
torn_short old torn lt same = head_short torn (omega (arith, lt, ap length same, length-drop 1 torn, length-drop 1 old))

loses : (home : Which) (n number : ℕ) → number < n → Loses home n number
loses Left n number lt = omega (arith, lt)
loses Right n number lt = lt

-- the home area of before, beside a greater number
pub old_spare : (home : Which) (n : ℕ) (shut : Bool) (number : ℕ) (point : Point) (begun : List Point) (old : List ℕ) → shut ≡ false → number < n → Stands shut number point old → IsTornSafe home n begun old
old_spare home n true number point begun old is lt stands torn same = absurd (cc is)
old_spare home n false number None begun old is lt stands torn same = inl (torn_short old torn stands.1 same)
old_spare home n false number (Some texts) begun old is lt stands torn same =
    let h = whole_head number texts (stands.1).0 old (stands.1).1 in
    ⊎_elim (λ same. inr (inl (h.0, subst (Loses home n) (sym h.2) (loses home n number lt), ap head_of same ∙ h.1))) (λ none. inl none) (torn_open old torn h.0 h.1 same)

pub old_shut : (shut : Bool) (number : ℕ) (point : Point) (old : List ℕ) → shut ≡ true → Stands shut number point old → IsShut old
old_shut true number None old is stands = stands.1
old_shut true number (Some texts) old is stands = absurd (cc stands.0)
old_shut false number point old is stands = absurd (cc is)
