-- What a call tells of an area that is told.
use Rattle.std.proofs.Common.{◌≡◌, ℕ, List, length, take, Option, Some, None, Result, Ok, Err, ◌∙◌, ap, subst}
use Rattle.std.specs.Prelude.{IfSome}
use Rattle.ws_outside.specs.declared.contents.Contents.{Contents}
use Rattle.ws_outside.specs.declared.contents.Which.{Which}
use Rattle.disk_area.specs.declared.damage.AreaFault.{AreaFault}
use Rattle.disk_area.specs.declared.damage.AreaFault.TheVariants.{Disk, Damaged, Memory}
use Rattle.disk_area.specs.declared.pieces.Head.{Head}
use Rattle.disk_area.specs.Reading.{Place, head_in, head_of, Tells, IsOfBytes, HasFault}

pub not_memory : {T : Type 0} (r : Result T AreaFault) → IsOfBytes r → r ≡ Err Memory → ⊥
not_memory r is e = subst IsOfBytes e is

pub no_fault : {T : Type 0} (old new : ℕ) (r : Result T AreaFault) → IsOfBytes r → new ≡ old → HasFault old new r
no_fault old new (Ok x) is same = same
no_fault old new (Err Disk) is same = absurd is
no_fault old new (Err (Damaged d)) is same = same
no_fault old new (Err Memory) is same = absurd is

-- one thing that is told of what a disk holds, and two
pub one_told : (o : Option Contents) {P Q : Contents → Type 0} → ((both : Contents) → P both → Q both) → IfSome o P → IfSome o Q
one_told None step first = tt
one_told (Some both) step first = step both first

pub both_told : (o p : Option Contents) {P Q R : Contents → Type 0} → p ≡ o → IfSome o P → IfSome p Q → ((both : Contents) → P both → Q both → R both) → IfSome o R
both_told o p {P = P} {Q = Q} {R = R} same first second join = two_told o {P = P} {Q = Q} {R = R} first (subst (λ x. IfSome x Q) same second) join
  where
    two_told : (o : Option Contents) {P Q R : Contents → Type 0} → IfSome o P → IfSome o Q → ((both : Contents) → P both → Q both → R both) → IfSome o R
    two_told None first second join = tt
    two_told (Some both) first second join = join both first second

pub head_tells : (area : Which) (len n : ℕ) (buf bytes : List ℕ) (expected : Result (Option Head) Place) (r : Result (Option Head) AreaFault) → len ≡ length bytes → take n buf ≡ take 57 bytes → expected ≡ head_in len (take n buf) → Tells area expected r → Tells area (head_of bytes) r
head_tells area len n buf bytes expected r size front same tells =
    subst (λ e. Tells area e r) (same ∙ ap (λ (m : ℕ). head_in m (take n buf)) size ∙ ap (head_in (length bytes)) front) tells
