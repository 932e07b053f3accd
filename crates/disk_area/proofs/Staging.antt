-- How an image is written.
use Rattle.std.proofs.Common.{◌≡◌, inl, inr, ℕ, zero, suc, ◌+◌, ◌≤◌, List, [], ◌∷◌, ◌++◌, length, take, drop, Option, Some, None, refl, sym, ◌∙◌, ap, subst, arith, length-append, length-drop, length-take}
use Rattle.std.proofs.lemmas.List.{take_at, drop_at}
use Rattle.std.specs.Prelude.{option_map, IfSome, Bool}
use Rattle.sha2.proofs.Facts256.{length-sha256}
use Rattle.ws_outside.specs.declared.contents.Which.{Which}
use Rattle.ws_outside.specs.declared.contents.Which.TheVariants.{Left, Right}
use Rattle.ws_outside.specs.declared.contents.Contents.{Contents}
use Rattle.ws_outside.specs.Disk.{held, beside, holding, written, Cut, InArea, Came, Each, LeavesOnly}
use Rattle.ws_wire.specs.Fields.{number_field}
use Rattle.disk_area.specs.Area.{header, record_header, behind_gate}
use Rattle.disk_area.specs.Writes.{Follow, IsShut, SameBehind, Staged, Rewriting}
use Rattle.disk_area.proofs.Moments.{both, only_wider}

pub length-header : (number : ℕ) (image : List ℕ) → length (header number image) ≡ 56
unfolding header number_field
length-header number image = omega (arith, length-sha256 image)

pub length-record_header : (body : List ℕ) → length (record_header body) ≡ 40
unfolding record_header number_field
length-record_header body = omega (arith, length-sha256 body)

pub length-behind : (number : ℕ) (image : List ℕ) → length (behind_gate number image) ≡ 57 + length image
length-behind number image = omega (arith, length-header number image, length-append (header number image ++ image) (0 ∷ []), length-append (header number image) image)

head_is : (g h : ℕ) (xs ys : List ℕ) → g ∷ xs ≡ h ∷ ys → g ≡ h
head_is g h xs ys e = cc e

pub shut_front : (d c : List ℕ) → take 1 c ≡ take 1 d → IsShut d → IsShut c
shut_front [] c e shut = absurd shut
shut_front (h ∷ d) [] e shut = absurd (cc e)
shut_front (h ∷ d) (g ∷ c) e shut = λ is. shut (sym (head_is g h [] [] e) ∙ is)

pub shut_size : (c : List ℕ) → IsShut c → 1 ≤ length c
shut_size [] shut = absurd shut
shut_size (g ∷ c) shut = omega arith

-- a disk that tells reads as one of its crash images
pub shut_told : (area : Which) (may_leave : Contents → Type 0) (seen : Option Contents) → IfSome seen may_leave → Each may_leave (λ c. IsShut (held area c)) → IfSome seen (λ both. 1 ≤ length (held area both))
shut_told area may_leave None itself shut = tt
shut_told area may_leave (Some both) itself shut = shut_size (held area both) (shut both itself)

pub shut_take : (n : ℕ) (c : List ℕ) → 1 ≤ n → IsShut c → IsShut (take n c)
shut_take zero c le shut = absurd (omega (arith, le))
shut_take (suc n) [] le shut = shut
shut_take (suc n) (g ∷ c) le shut = shut

pub shut_cut : (n : ℕ) (m c : List ℕ) → 1 ≤ n → Cut n m c → IsShut m → IsShut c
shut_cut n m c le (inl same) shut = subst IsShut (sym same) shut
shut_cut n m c le (inr cut) shut = subst IsShut (sym cut) (shut_take n m le shut)

pub shut_zero : (d c : List ℕ) → c ≡ 0 ∷ drop 1 d → IsShut c
shut_zero d c is = subst IsShut (sym is) (λ e. absurd (omega (arith, e)))

-- cut behind the image
pub staged_there : (n : ℕ) (bytes d m c : List ℕ) → n ≡ 1 + length bytes → IsShut d → Follow 1 bytes d m → c ≡ take n m → Staged bytes d c
staged_there n bytes d m c size shut follow cut =
    let e : c ≡ take 1 d ++ bytes = cut ∙ ap (λ (k : ℕ). take k m) size ∙ follow.front in
    let one : length (take 1 d) ≡ 1 = omega (arith, length-take 1 d, follow.whole) in
    record {
      shut = shut_front d c (ap (take 1) e ∙ take_at (take 1 d) bytes 1 one) shut;
      size = omega (arith, ap length e, length-append (take 1 d) bytes, one);
      behind = ap (drop 1) e ∙ drop_at (take 1 d) bytes 1 one;
    }

held-with : (area : Which) (bytes : List ℕ) (both : Contents) → held area (holding area bytes both) ≡ bytes
held-with Left bytes both = refl
held-with Right bytes both = refl

with-with : (area : Which) (xs ys : List ℕ) (both : Contents) → holding area ys (holding area xs both) ≡ holding area ys both
with-with Left xs ys both = refl
with-with Right xs ys both = refl

-- one telling after another
pub told_on : (area : Which) (f g h : List ℕ → List ℕ) (a b c : Option Contents) → b ≡ option_map (λ both. holding area (f (held area both)) both) a → c ≡ option_map (λ both. holding area (g (held area both)) both) b
    → IfSome a (λ both. g (f (held area both)) ≡ h (held area both)) → c ≡ option_map (λ both. holding area (h (held area both)) both) a
told_on area f g h None b c eb ec same = ec ∙ ap (option_map (λ both. holding area (g (held area both)) both)) eb
told_on area f g h (Some both) b c eb ec same =
    ec ∙ ap (option_map (λ both. holding area (g (held area both)) both)) eb
    ∙ ap (λ x. Some x) (with-with area (f (held area both)) (g (held area (holding area (f (held area both)) both))) both
    ∙ ap (λ l. holding area (g l) both) (held-with area (f (held area both)) both)
    ∙ ap (λ l. holding area l both) same)

-- a telling of the held alone rests on the other one
with_beside : (area : Which) (bytes : List ℕ) (a b : Contents) → beside area a ≡ beside area b → holding area bytes a ≡ holding area bytes b
with_beside Left bytes a b e = ap (λ (r : List ℕ). let c : Contents = record { left = bytes; right = r } in c) e
with_beside Right bytes a b e = ap (λ (l : List ℕ). let c : Contents = record { left = l; right = bytes } in c) e

some_is : {A : Type 0} (x y : A) → Some x ≡ Some y → x ≡ y
some_is x y e = cc e

pub told_beside : (area : Which) (bytes : List ℕ) (a b : Option Contents) → option_map (beside area) a ≡ option_map (beside area) b → option_map (holding area bytes) a ≡ option_map (holding area bytes) b
told_beside area bytes None None e = refl
told_beside area bytes None (Some b) e = absurd (cc e)
told_beside area bytes (Some a) None e = absurd (cc e)
told_beside area bytes (Some a) (Some b) e = ap (λ x. Some x) (with_beside area bytes a b (some_is _ _ e))

-- what a read then gives
pub laid_seen : (n : ℕ) (bytes s : List ℕ) → n ≡ 1 + length bytes → 1 ≤ length s → take n (written 1 bytes s) ≡ take 1 s ++ bytes
laid_seen n bytes s is le =
    take_at (take 1 s ++ bytes) (drop (1 + length bytes) s) n (omega (arith, is, le, length-append (take 1 s) bytes, length-take 1 s))

pub opened_seen : (bytes s : List ℕ) → 1 ≤ length s → 1 ∷ drop 1 (take 1 s ++ bytes) ≡ 1 ∷ bytes
opened_seen bytes s le = ap (λ l. 1 ∷ l) (drop_at (take 1 s) bytes 1 (omega (arith, le, length-take 1 s)))

pub laid_told : (area : Which) (n : ℕ) (bytes : List ℕ) (o : Option Contents) → n ≡ 1 + length bytes → IfSome o (λ both. 1 ≤ length (held area both)) → IfSome o (λ both. take n (written 1 bytes (held area both)) ≡ take 1 (held area both) ++ bytes)
laid_told area n bytes None is le = tt
laid_told area n bytes (Some both) is le = laid_seen n bytes (held area both) is le

pub rewriting : (closed : Bool) (number : ℕ) (image d m c : List ℕ) → Staged (behind_gate number image) d m → SameBehind m c → Rewriting closed (behind_gate number image) d c
rewriting closed number image d m c staged same =
    let e : drop 1 c ≡ behind_gate number image = same ∙ staged.behind in
    inr (inr (omega (arith, ap length e, length-drop 1 c, length-behind number image), e))

module _ {D : Type 0} (moment : D → ℕ) (left_since : D → ℕ → Contents → Type 0) (may_leave : D → Contents → Type 0) (area : Which) (first : D) where
  abbrev pub From : (List ℕ → List ℕ → Type 0) → Contents → Type 0
  From R = Came (may_leave first) (InArea area R)

  -- a wider step
  pub wider_run : (new : D) (R S : List ℕ → List ℕ → Type 0) → ((c : Contents) (d : Contents) → may_leave first d → R (held area d) (held area c) → S (held area d) (held area c))
      → LeavesOnly moment left_since may_leave first new (From R) → LeavesOnly moment left_since may_leave first new (From S)
  wider_run new R S wide run = only_wider moment left_since may_leave first new (From S) (From R) run (λ c came. (came.0, came.1, record { here = wide c came.0 came.1 came.2.here; there = came.2.there }))

  -- a run, and a run on what it left for sure
  pub then_run : (mid new : D) (R Q S : List ℕ → List ℕ → Type 0) → LeavesOnly moment left_since may_leave first mid (From S) → Each (may_leave mid) (From R)
      → LeavesOnly moment left_since may_leave mid new (Came (may_leave mid) (InArea area Q))
      → ((d m c : Contents) → may_leave first d → R (held area d) (held area m) → Q (held area m) (held area c) → S (held area d) (held area c))
      → LeavesOnly moment left_since may_leave first new (From S)
  then_run mid new R Q S run sure more step =
      both moment left_since may_leave first mid new (From S) (Came (may_leave mid) (InArea area Q)) run more (λ c came.
      let d = sure came.0 came.1 in
      (d.0, d.1, record { here = step d.0 came.0 c d.1 d.2.here came.2.here; there = came.2.there ∙ d.2.there }))

  -- the same for what is sure in the end
  pub then_sure : (mid now : Contents → Type 0) (R Q S : List ℕ → List ℕ → Type 0) → Each mid (From R) → Each now (Came mid (InArea area Q))
      → ((d m c : Contents) → may_leave first d → R (held area d) (held area m) → Q (held area m) (held area c) → S (held area d) (held area c)) → Each now (From S)
  then_sure mid now R Q S sure came step c left =
      let m = came c left in
      let d = sure m.0 m.1 in
      (d.0, d.1, record { here = step d.0 m.0 c d.1 d.2.here m.2.here; there = m.2.there ∙ d.2.there })
