-- One slot that gets another number, or none.
use Rattle.std.proofs.Common.{◌≡◌, ◌≢◌, ◌⊎◌, inl, inr, ℕ, Bool, true, false, cond, nat_eq, refl, sym, ap, ◌∙◌, subst}
use Rattle.std.specs.Prelude.{Option, Some, None, is_some, IsSome, IfSome}
use Rattle.std.specs.Ordering.{eq_by_cmp, is_eq}
use Rattle.std.specs.Cmp.{tied_itself}
use Rattle.std.proofs.lemmas.Bool.{eqb-true, eq-eqb}
use Rattle.ws_elem.specs.Trees.{Tree}
use Rattle.ws_marks.specs.Places.{name_cmp, place_cmp}
use Rattle.ws_marks.proofs.Places.{name_cmp_exact, name_cmp_total, place_cmp_exact, place_cmp_total}
use Rattle.ws_content.specs.Inside.Slots.{AreApart, IsIn, Slot, Slots, AtStart, AtTold, AtBuilt, AtKept, AtReplaced}
use Rattle.ws_content.proofs.Resolved.{is_equal}

-- ---- options

pub if_there : {A : Type 0} (P : A → Type 0) (o : Option A) → ((x : A) → o ≡ Some x → P x) → IfSome o P
if_there P None f = tt
if_there P (Some x) f = f x refl

pub at_there : {A : Type 0} (P : A → Type 0) (o : Option A) (x : A) → o ≡ Some x → IfSome o P → P x
at_there P o x e h = subst (λ z. IfSome z P) e h

-- what isn't remembered is none of what is
pub other_than : (f : ℕ → Option Tree) (k n : ℕ) → IsSome (f k) → f n ≡ None → k ≢ n
other_than f k n some none same = no (sym (ap is_some (ap f same ∙ none)) ∙ some)
  where
    no : false ≡ true → ⊥
    no h = cc

-- ---- slots

abbrev pub same_slot : Slot → Slot → Bool
same_slot AtStart AtStart = true
same_slot AtTold AtTold = true
same_slot (AtBuilt p) (AtBuilt q) = eq_by_cmp place_cmp p q
same_slot (AtKept p) (AtKept q) = eq_by_cmp name_cmp p q
same_slot (AtReplaced m) (AtReplaced n) = nat_eq m n
same_slot s z = false

equal_slots : (s z : Slot) → same_slot s z ≡ true → s ≡ z
equal_slots AtStart AtStart h = refl
equal_slots AtTold AtTold h = refl
equal_slots (AtBuilt p) (AtBuilt q) h = ap AtBuilt (place_cmp_exact p q (is_equal _ h))
equal_slots (AtKept p) (AtKept q) h = ap AtKept (name_cmp_exact p q (is_equal _ h))
equal_slots (AtReplaced m) (AtReplaced n) h = ap AtReplaced (eqb-true m n h)
equal_slots s z h = cc

slot_itself : (s : Slot) → same_slot s s ≡ true
slot_itself AtStart = refl
slot_itself AtTold = refl
slot_itself (AtBuilt p) = ap is_eq (tied_itself place_cmp_total p)
slot_itself (AtKept p) = ap is_eq (tied_itself name_cmp_total p)
slot_itself (AtReplaced n) = eq-eqb n n refl

-- the slots with this number, or none, in one of them
abbrev pub set : Slots → Slot → Option ℕ → Slots
set u s o z = cond (same_slot z s) o (u z)

-- the number, if it is one, is that of a tree that is remembered, and in no slot
abbrev pub IsFresh : (ℕ → Option Tree) → Slots → Option ℕ → Type 0
IsFresh f u o = IfSome o (λ k. IsSome (f k) × (IsIn u k → ⊥))

no : true ≡ false → ⊥
no h = cc

module _ (u : Slots) (s : Slot) (o : Option ℕ) where
  -- where a number comes from
  pub from : (z : Slot) (k : ℕ) → set u s o z ≡ Some k → ((z ≡ s) × (o ≡ Some k)) ⊎ ((same_slot z s ≡ false) × (u z ≡ Some k))
  from z k = by (same_slot z s) refl
    where
      by : (b : Bool) → same_slot z s ≡ b → cond b o (u z) ≡ Some k → ((z ≡ s) × (o ≡ Some k)) ⊎ ((same_slot z s ≡ false) × (u z ≡ Some k))
      by true h e = inl (equal_slots z s h, e)
      by false h e = inr (h, e)

  pub set_in : (k : ℕ) → IsIn (set u s o) k → (o ≡ Some k) ⊎ IsIn u k
  set_in k i = elim (from i.0 k i.1) as (λ _. (o ≡ Some k) ⊎ IsIn u k) [ inl here ↦ inl here.1 | inr there ↦ inr (i.0, there.1) ]

  pub set_apart : (f : ℕ → Option Tree) → IsFresh f u o → AreApart f u → AreApart f (set u s o)
  set_apart f fresh h = record { there = there; apart = λ y z k a b. apart y z k (from y k a) (from z k b) }
    where
      there : (k : ℕ) → IsIn (set u s o) k → IsSome (f k)
      there k i = elim (set_in k i) as (λ _. IsSome (f k)) [ inl e ↦ (at_there (λ k. IsSome (f k) × (IsIn u k → ⊥)) o k e fresh).0 | inr old ↦ h.there k old ]

      unused : (k : ℕ) → o ≡ Some k → IsIn u k → ⊥
      unused k e = (at_there (λ k. IsSome (f k) × (IsIn u k → ⊥)) o k e fresh).1

      apart : (y z : Slot) (k : ℕ) → ((y ≡ s) × (o ≡ Some k)) ⊎ ((same_slot y s ≡ false) × (u y ≡ Some k)) → ((z ≡ s) × (o ≡ Some k)) ⊎ ((same_slot z s ≡ false) × (u z ≡ Some k)) → y ≡ z
      apart y z k (inl a) (inl b) = a.0 ∙ sym b.0
      apart y z k (inl a) (inr b) = absurd (unused k a.1 (z, b.1))
      apart y z k (inr a) (inl b) = absurd (unused k b.1 (y, a.1))
      apart y z k (inr a) (inr b) = h.apart y z k a.1 b.1

  -- what stood there is in no slot any more
  pub set_left : (f : ℕ → Option Tree) → IfSome o (λ k. IsIn u k → ⊥) → AreApart f u → IfSome (u s) (λ k. IsIn (set u s o) k → ⊥)
  set_left f unused h = if_there (λ k. IsIn (set u s o) k → ⊥) (u s) left
    where
      left : (k : ℕ) → u s ≡ Some k → IsIn (set u s o) k → ⊥
      left k is i = by (from i.0 k i.1)
        where
          by : ((i.0 ≡ s) × (o ≡ Some k)) ⊎ ((same_slot i.0 s ≡ false) × (u (i.0) ≡ Some k)) → ⊥
          by (inl here) = at_there (λ k. IsIn u k → ⊥) o k here.1 unused (s, is)
          by (inr there) = no (sym (ap (λ z. same_slot z s) (h.apart (i.0) s k there.1 is) ∙ slot_itself s) ∙ there.0)

-- a number that goes from one slot to another is in none after the first
pub leaves : (f : ℕ → Option Tree) (u : Slots) (s : Slot) → AreApart f u → IsFresh f (set u s None) (u s)
leaves f u s h = if_there (λ k. IsSome (f k) × (IsIn (set u s None) k → ⊥)) (u s) (λ k e. (h.there k (s, e), at_there (λ k. IsIn (set u s None) k → ⊥) (u s) k e (set_left u s None f tt h)))
