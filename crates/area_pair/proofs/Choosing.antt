-- Which of two areas decides.
use Rattle.std.proofs.Common.{◌≡◌, inl, inr, ℕ, ◌≤◌, ◌<◌, List, [], ◌∷◌, Option, Some, None, Result, Ok, Err, Bool, true, false, refl, sym, ◌∙◌, ap, subst, arith}
use Rattle.std.proofs.lemmas.Bool.{cases_eq}
use Rattle.std.proofs.lemmas.Bool.Decides.{nat_tests}
use Rattle.std.specs.Prelude.{if◌then◌else◌, nat_lt, IfSome}
use Rattle.ws_outside.specs.declared.contents.Contents.{Contents}
use Rattle.ws_outside.specs.declared.contents.Which.{Which}
use Rattle.ws_outside.specs.declared.contents.Which.TheVariants.{Left, Right}
use Rattle.ws_outside.specs.Disk.{held, picked}
use Rattle.disk_area.specs.declared.damage.Damage.{Damage}
use Rattle.disk_area.specs.declared.pieces.Head.{Head}
use Rattle.disk_area.specs.declared.pieces.Piece.{Piece}
use Rattle.disk_area.specs.Reading.{Place, head_of, image_of, with_image, with_head, area_of}
use Rattle.disk_area.specs.Writes.{IsShut}
use Rattle.disk_area.proofs.Fronts.{read_head}
use Rattle.disk_area.proofs.ReadingBack.{head_shut}
use Rattle.area_pair.specs.declared.opening.Found.{Found}
use Rattle.area_pair.specs.declared.texts.Texts.{Texts}
use Rattle.area_pair.specs.Reads.{Heads, heads_from, heads_of, chosen, number_of, greatest, texts_in, texts_of, reads_by, reads, other, IsWhole, Loses}
use Rattle.area_pair.specs.Found.{is_shut, Ended, texts_with, IsEnded, IsFound}

lt_true : (m n : ℕ) → m < n → nat_lt m n ≡ true
lt_true m n lt = grind (arith, nat_tests)

lt_false : (m n : ℕ) → n ≤ m → nat_lt m n ≡ false
lt_false m n le = grind (arith, nat_tests)

-- both heads, by that of the home area and that of the spare one
abbrev pub heads_at : Which → Option Head → Option Head → Heads
heads_at Left home spare = (home, spare)
heads_at Right home spare = (spare, home)

pub heads_read : (home : Which) (c : Contents) (here there : Option Head) → head_of (held home c) ≡ Ok here → head_of (held (other home) c) ≡ Ok there → heads_of c ≡ Ok (heads_at home here there)
heads_read Left c here there h t = λ i. heads_from (h i) (t i)
heads_read Right c here there h t = λ i. heads_from (t i) (h i)

pub home_chosen : (home : Which) (here : Head) (there : Option Head) → IfSome there (λ h. Loses home here.number h.number) → chosen (heads_at home (Some here) there) ≡ Some home
home_chosen Left here None loses = refl
home_chosen Right here None loses = refl
home_chosen Left here (Some there) loses = ap (λ b. Some (if b then Right else Left)) (lt_false here.number there.number loses)
home_chosen Right here (Some there) loses = ap (λ b. Some (if b then Right else Left)) (lt_true there.number here.number loses)

pub spare_chosen : (home : Which) (here : Option Head) (there : Head) → number_of here < there.number → chosen (heads_at home here (Some there)) ≡ Some (other home)
spare_chosen Left None there lt = refl
spare_chosen Right None there lt = refl
spare_chosen Left (Some here) there lt = ap (λ b. Some (if b then Right else Left)) (lt_true here.number there.number lt)
spare_chosen Right (Some here) there lt = ap (λ b. Some (if b then Right else Left)) (lt_false there.number here.number (omega (arith, lt)))

pub none_chosen : (home : Which) → chosen (heads_at home None None) ≡ None
none_chosen Left = refl
none_chosen Right = refl

pub whole_head : (number : ℕ) (texts : Texts) (gate : ℕ) (bytes : List ℕ) → IsWhole number texts gate bytes → (head : Head) × (head_of bytes ≡ Ok (Some head)) × (head.number ≡ number)
whole_head number texts gate bytes whole = read_head bytes _ whole

pub texts_read : (area : Which) (c : Contents) (number : ℕ) (texts : Texts) (gate : ℕ) → IsWhole number texts gate (held area c) → texts_of c (Some area) ≡ Ok (Some texts)
texts_read area c number texts gate whole = ap (texts_in area) whole

-- the area on this side decides, where the other one has no head or one that isn't chosen
pub open_reads : (home : Which) (number : ℕ) (texts : Texts) (gate : ℕ) (c : Contents) (there : Option Head) → IsWhole number texts gate (held home c) → head_of (held (other home) c) ≡ Ok there
    → IfSome there (λ h. Loses home number h.number) → reads c ≡ Ok (Some texts)
open_reads home number texts gate c there whole spare loses =
    let h = whole_head number texts gate (held home c) whole in
    ap (reads_by c) (heads_read home c (Some h.0) there h.1 spare)
    ∙ ap (texts_of c) (home_chosen home h.0 there (lower home h.0 number there h.2 loses))
    ∙ texts_read home c number texts gate whole
  where
    lower : (home : Which) (here : Head) (number : ℕ) (there : Option Head) → here.number ≡ number → IfSome there (λ h. Loses home number h.number) → IfSome there (λ h. Loses home here.number h.number)
    lower home here number None is loses = tt
    lower home here number (Some there) is loses = subst (λ (n : ℕ). Loses home n there.number) (sym is) loses

-- the heads of both areas, one by one
heads_split : (left right : Result (Option Head) Place) (heads : Heads) → heads_from left right ≡ Ok heads → (left ≡ Ok heads.0) × (right ≡ Ok heads.1)
heads_split (Err place) right heads e = absurd (cc e)
heads_split (Ok left) (Err place) heads e = absurd (cc e)
heads_split (Ok left) (Ok right) heads e = let is = ok_is (left, right) heads e in (ap (λ (h : Heads). Ok h.0) is, ap (λ (h : Heads). Ok h.1) is)
  where
    ok_is : (x y : Heads) → (let r : Result Heads Damage = Ok x in r) ≡ Ok y → x ≡ y
    ok_is x y e = cc e

pub open_unshut : (bytes : List ℕ) (head : Head) → head_of bytes ≡ Ok (Some head) → is_shut bytes ≡ false
open_unshut [] head e = refl
open_unshut (g ∷ bytes) head e = elim (cases_eq g 1) [
  | inl is ↦ ap (λ (k : ℕ). is_shut (k ∷ bytes)) is
  | inr shut ↦ let none = head_shut (g ∷ bytes) shut in absurd (cc (sym none ∙ e))
]

pub shut_is : (bytes : List ℕ) → is_shut bytes ≡ true → IsShut bytes
shut_is [] e = absurd (cc e)
shut_is (g ∷ bytes) e = λ is. let no = ap (λ (k : ℕ). is_shut (k ∷ bytes)) is in absurd (cc (sym no ∙ e))

-- the number of the chosen area
abbrev pub number_from : Heads → Option Which → ℕ
number_from heads None = 0
number_from heads (Some Left) = number_of heads.0
number_from heads (Some Right) = number_of heads.1

pub number_below : (heads : Heads) (area : Option Which) → number_from heads area ≤ greatest heads
number_below heads None = omega arith
number_below heads (Some Left) = omega arith
number_below heads (Some Right) = omega arith

pub none_open : (heads : Heads) → chosen heads ≡ None → (heads.0 ≡ None) × (heads.1 ≡ None)
none_open (None, None) e = (refl, refl)
none_open (None, Some right) e = absurd (cc e)
none_open (Some left, None) e = absurd (cc e)
none_open (Some left, Some right) e = absurd (cc e)

pub chosen_head : (heads : Heads) (area : Which) (c : Contents) → chosen heads ≡ Some area → head_of c.left ≡ Ok heads.0 → head_of c.right ≡ Ok heads.1
    → (head : Head) × (head_of (held area c) ≡ Ok (Some head)) × (number_from heads (Some area) ≡ head.number)
chosen_head (None, None) area c e left right = absurd (cc e)
chosen_head (None, Some r) Left c e left right = absurd (cc e)
chosen_head (None, Some r) Right c e left right = (r, right, refl)
chosen_head (Some l, None) Left c e left right = (l, left, refl)
chosen_head (Some l, None) Right c e left right = absurd (cc e)
chosen_head (Some l, Some r) Left c e left right = (l, left, refl)
chosen_head (Some l, Some r) Right c e left right = (r, right, refl)

-- the head of the other area isn't chosen
pub other_loses : (heads : Heads) (area : Which) (c : Contents) → chosen heads ≡ Some area → head_of c.left ≡ Ok heads.0 → head_of c.right ≡ Ok heads.1
    → (there : Option Head) × (head_of (held (other area) c) ≡ Ok there) × IfSome there (λ h. Loses area (number_from heads (Some area)) h.number)
other_loses (None, None) area c e left right = absurd (cc e)
other_loses (None, Some r) Left c e left right = absurd (cc e)
other_loses (None, Some r) Right c e left right = (None, left, tt)
other_loses (Some l, None) Left c e left right = (None, right, tt)
other_loses (Some l, None) Right c e left right = absurd (cc e)
other_loses (Some l, Some r) Left c e left right = (Some r, right, by_test l.number r.number (nat_lt l.number r.number) refl e)
  where
    le_of : (m n : ℕ) → nat_lt m n ≡ false → n ≤ m
    le_of m n e = grind (arith, nat_tests)

    by_test : (m n : ℕ) (b : Bool) → nat_lt m n ≡ b → (let o : Option Which = Some (if b then Right else Left) in o) ≡ Some Left → n ≤ m
    by_test m n true is e = absurd (cc e)
    by_test m n false is e = le_of m n is
other_loses (Some l, Some r) Right c e left right = (Some l, left, by_test l.number r.number (nat_lt l.number r.number) refl e)
  where
    lt_of : (m n : ℕ) → nat_lt m n ≡ true → m < n
    lt_of m n e = grind (arith, nat_tests)

    by_test : (m n : ℕ) (b : Bool) → nat_lt m n ≡ b → (let o : Option Which = Some (if b then Right else Left) in o) ≡ Some Right → m < n
    by_test m n true is e = lt_of m n is
    by_test m n false is e = absurd (cc e)

pub area_none : (bytes : List ℕ) (head : Head) → head_of bytes ≡ Ok (Some head) → area_of bytes ≡ Ok None → ⊥
area_none bytes head is none = never bytes head.number (image_of bytes) (sym (ap (with_head bytes) is) ∙ none)
  where
    never : (bytes : List ℕ) (number : ℕ) (r : Result Piece Place) → with_image number bytes r ≡ Ok None → ⊥
    never bytes number (Ok piece) e = absurd (cc e)
    never bytes number (Err place) e = absurd (cc e)

-- what was found, and the area that decides
module _ (c : Contents) (found : Found) (is : IsFound c found) where
  pub lefts : head_of c.left ≡ Ok (found.heads).0
  lefts = (heads_split (head_of c.left) (head_of c.right) found.heads is.heads).0

  pub rights : head_of c.right ≡ Ok (found.heads).1
  rights = (heads_split (head_of c.left) (head_of c.right) found.heads is.heads).1

  pub shut_at : (area : Which) → picked area found.left_shut found.right_shut ≡ is_shut (held area c)
  shut_at Left = is.left
  shut_at Right = is.right

  -- and the areas are read as the texts that were found
  ended_reads : (area : Option Which) (ended : Ended) → chosen found.heads ≡ area → IsEnded c area ended → texts_of c area ≡ Ok (texts_with ended)
  ended_reads None None e at = refl
  ended_reads None (Some ended) e at = absurd at
  ended_reads (Some area) None e at = let h = chosen_head found.heads area c e lefts rights in absurd (area_none (held area c) h.0 h.1 at)
  ended_reads (Some area) (Some ended) e at = ap (texts_in area) at.1

  pub found_reads : reads c ≡ Ok (texts_with found.ended)
  found_reads = ap (reads_by c) is.heads ∙ ended_reads (chosen found.heads) found.ended refl is.ended
