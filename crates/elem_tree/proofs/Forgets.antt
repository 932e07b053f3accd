-- The layer at a place, and one joined to it.
use Rattle.std.proofs.Common.{◌≡◌, ◌<◌, ◌+◌, ℕ, zero, suc, arith, List, [], ◌∷◌, length, slice_index_or, slice_set, refl, sym, ap, ◌∙◌, subst}
use Rattle.std.specs.List.{remove}
use Rattle.elem_tree.specs.declared.layer.Layer.{Layer}
use Rattle.elem_tree.specs.Inside.Forgets.{JoinsAt, AreSpared, notes_at, with_notes}
use Rattle.elem_tree.specs.Inside.Joins.{IsJoined, IsSpared}
use Rattle.elem_tree.specs.Inside.Shown.{EndedButLast}
use Rattle.elem_tree.specs.Inside.Slots.{Slots, NoneReady}
use Rattle.elem_tree.proofs.Joins.{spared_itself}

pub at_place : (ls : List Layer) (n : ℕ) (l : Layer) → n < length ls → l ≡ slice_index_or ls n l → l.notes ≡ notes_at ls n
at_place [] n l lt is = absurd (omega (arith, lt))
at_place (k ∷ ls) zero l lt is = ap (λ (j : Layer). j.notes) is
at_place (k ∷ ls) (suc n) l lt is = at_place ls n l (omega (arith, lt)) is

pub set_place : (ls : List Layer) (n : ℕ) (l : Layer) (x : Slots) → n < length ls → l ≡ slice_index_or ls n l → slice_set ls n (record { mark = l.mark; notes = x }) ≡ with_notes ls n x
set_place [] n l x lt is = absurd (omega (arith, lt))
set_place (k ∷ ls) zero l x lt is = ap (λ (j : Layer). record { mark = j.mark; notes = x } ∷ ls) is
set_place (k ∷ ls) (suc n) l x lt is = ap (λ ks. k ∷ ks) (set_place ls n l x (omega (arith, lt)) is)

pub same_length : (ls : List Layer) (n : ℕ) (x : Slots) → length (with_notes ls n x) ≡ length ls
same_length [] n x = refl
same_length (l ∷ ls) zero x = refl
same_length (l ∷ ls) (suc n) x = ap suc (same_length ls n x)

next : (n : ℕ) → n + 1 ≡ suc n
next n = omega arith

ended : (n : ℕ) (ls : List Layer) (e : Slots) → suc n < length ls → EndedButLast ls → NoneReady (notes_at (with_notes ls (suc n) e) n)
ended n [] e lt h = absurd (omega (arith, lt))
ended n (k ∷ []) e lt h = absurd (omega (arith, lt))
ended zero (k ∷ l ∷ ls) e lt h = h.0
ended (suc n) (k ∷ l ∷ ls) e lt h = ended n (l ∷ ls) e (omega (arith, lt)) h.1

pub ended_at : (n : ℕ) (ls : List Layer) (e : Slots) → n + 1 < length ls → EndedButLast ls → NoneReady (notes_at (with_notes ls (n + 1) e) n)
ended_at n ls e lt h = subst (λ m. NoneReady (notes_at (with_notes ls m e) n)) (sym (next n)) (ended n ls e (subst (λ m. m < length ls) (next n) lt) h)

joins : (n : ℕ) (ls : List Layer) (e f both : Slots) → suc n < length ls → IsJoined (notes_at (with_notes ls (suc n) e) n) (notes_at ls (suc n)) both
    → JoinsAt n ls (remove (with_notes (with_notes (with_notes ls (suc n) e) n f) n both) (suc n))
joins n [] e f both lt j = absurd (omega (arith, lt))
joins n (k ∷ []) e f both lt j = absurd (omega (arith, lt))
joins zero (k ∷ l ∷ ls) e f both lt j = (record { mark = k.mark; notes = both }, record { mark = refl; notes = j }, refl)
joins (suc n) (k ∷ l ∷ ls) e f both lt j = (remove (with_notes (with_notes (with_notes (l ∷ ls) (suc n) e) n f) n both) (suc n), refl, joins n (l ∷ ls) e f both (omega (arith, lt)) j)

pub joins_at : (n : ℕ) (ls : List Layer) (e f both : Slots) → n + 1 < length ls → IsJoined (notes_at (with_notes ls (n + 1) e) n) (notes_at ls (n + 1)) both
    → JoinsAt n ls (remove (with_notes (with_notes (with_notes ls (n + 1) e) n f) n both) (n + 1))
joins_at n ls e f both lt j =
    subst (λ m. JoinsAt n ls (remove (with_notes (with_notes (with_notes ls m e) n f) n both) m)) (sym (next n))
    (joins n ls e f both (subst (λ m. m < length ls) (next n) lt) (subst (λ m. IsJoined (notes_at (with_notes ls m e) n) (notes_at ls m) both) (next n) j))

pub all_same : (ls : List Layer) → AreSpared ls ls
all_same [] = refl
all_same (l ∷ ls) = (l, ls, refl, refl, spared_itself l.notes, all_same ls)

spared : (n : ℕ) (ls : List Layer) (e f x y : Slots) → suc n < length ls → IsSpared (notes_at (with_notes ls (suc n) e) n) x → IsSpared (notes_at ls (suc n)) y
    → AreSpared ls (with_notes (with_notes (with_notes (with_notes ls (suc n) e) n f) n x) (suc n) y)
spared n [] e f x y lt g h = absurd (omega (arith, lt))
spared n (k ∷ []) e f x y lt g h = absurd (omega (arith, lt))
spared zero (k ∷ l ∷ ls) e f x y lt g h =
    (record { mark = k.mark; notes = x }, record { mark = l.mark; notes = y } ∷ ls, refl, refl, g, (record { mark = l.mark; notes = y }, ls, refl, refl, h, all_same ls))
spared (suc n) (k ∷ l ∷ ls) e f x y lt g h =
    (k, with_notes (with_notes (with_notes (with_notes (l ∷ ls) (suc n) e) n f) n x) (suc n) y, refl, refl, spared_itself k.notes, spared n (l ∷ ls) e f x y (omega (arith, lt)) g h)

pub spared_at : (n : ℕ) (ls : List Layer) (e f x y : Slots) → n + 1 < length ls → IsSpared (notes_at (with_notes ls (n + 1) e) n) x → IsSpared (notes_at ls (n + 1)) y
    → AreSpared ls (with_notes (with_notes (with_notes (with_notes ls (n + 1) e) n f) n x) (n + 1) y)
spared_at n ls e f x y lt g h =
    subst (λ m. AreSpared ls (with_notes (with_notes (with_notes (with_notes ls m e) n f) n x) m y)) (sym (next n))
    (spared n ls e f x y (subst (λ m. m < length ls) (next n) lt) (subst (λ m. IsSpared (notes_at (with_notes ls m e) n) x) (next n) g) (subst (λ m. IsSpared (notes_at ls m) y) (next n) h))

pub still_there : (ls now : List Layer) (n k : ℕ) (x : Slots) → now ≡ with_notes ls n x → k < length ls → k < length now
still_there ls now n k x is lt = subst (λ m. k < m) (sym (ap length is ∙ same_length ls n x)) lt

pub before : (n m : ℕ) → n + 1 < m → n < m
before n m h = omega (arith, h)
