-- Entries that let passes in, and such that let none in.
use Rattle.std.proofs.Common.{◌≡◌, ◌≢◌, ◌∙◌, ◌⊎◌, inl, inr, ◌+◌, ◌<◌, ℕ, zero, suc, List, [], ◌∷◌, ◌++◌, length, refl, ap, subst, arith, append-nil}
use Rattle.std.proofs.Math.ListN.{replicate}
use Rattle.core_event.specs.declared.entry.Entry.{Entry}
use Rattle.core_event.specs.declared.event.Event.{Event}
use Rattle.core_event.specs.declared.event.Event.TheVariants.{Enter}
use Rattle.run_order.specs.Lists.{acts, own, Cut}
use Rattle.run_order.specs.Orders.{Enters}
use Rattle.run_order.specs.Fronts.{enters, lets_in}
use Rattle.run_order.proofs.Lists.{acts_append, own_append, own_no, own_yes}
use Rattle.run_order.proofs.Numbers.{enters_cut}
use Rattle.pass_crew.specs.Passes.{Leaving}

abbrev enters_by : List (ℕ × Event) → ℕ
enters_by [] = 0
enters_by (x ∷ h) = lets_in x.1 + enters_by h

enters_acts : (l : List Entry) → enters l ≡ enters_by (acts l)
enters_acts [] = refl
enters_acts (x ∷ l) = ap (λ z. lets_in x.event + z) (enters_acts l)

replicate_enters : (n : ℕ) → enters_by (replicate n (0, Enter)) ≡ n
replicate_enters zero = refl
replicate_enters (suc n) = let e = replicate_enters n in omega (arith, e)

-- so many passes were let in
pub entered_many : (n : ℕ) (h : List Entry) → Enters n h → enters h ≡ n
entered_many n h e = enters_acts h ∙ (ap enters_by e ∙ replicate_enters n)

replicate_more : {X : Type 0} (n : ℕ) (x : X) → replicate n x ++ x ∷ [] ≡ replicate (suc n) x
replicate_more zero x = refl
replicate_more (suc n) x = ap (λ l. x ∷ l) (replicate_more n x)

pub enters_more : (n : ℕ) (h l : List Entry) → Enters n h → acts l ≡ (0, Enter) ∷ [] → Enters (n + 1) (h ++ l)
enters_more n h l e f =
    let on : suc n ≡ n + 1 = omega arith in
    subst (λ k. Enters k (h ++ l)) on (acts_append h l ∙ (ap (λ z. z ++ acts l) e ∙ (ap (λ z. replicate n (0, Enter) ++ z) f ∙ replicate_more n (0, Enter))))

-- a pass that leaves lets none in
pub leaving_quiet : (k : ℕ) (l : List Entry) → Leaving k l → enters l ≡ 0
leaving_quiet k l e = enters_acts l ∙ ap enters_by e

pub cut_leaving_quiet : (k : ℕ) (l : List Entry) → Cut (Leaving k) l → enters l ≡ 0
cut_leaving_quiet k l e = enters_cut (Leaving k) (leaving_quiet k) l e

-- ---- one more entry

pub own_end_no : (k : ℕ) (h : List Entry) (x : Entry) → x.pass ≢ k → own k (h ++ x ∷ []) ≡ own k h
own_end_no k h x ne = own_append k h (x ∷ []) ∙ (ap (λ l. own k h ++ l) (own_no k x [] ne) ∙ append-nil (own k h))

pub own_end_yes : (k : ℕ) (h : List Entry) (x : Entry) → x.pass ≡ k → own k (h ++ x ∷ []) ≡ own k h ++ x ∷ []
own_end_yes k h x is = own_append k h (x ∷ []) ∙ ap (λ l. own k h ++ l) (own_yes k x [] is)

-- where one was let in for each of these, there is one, or nothing was done
pub one_or_none : {W : Type 0} (ws : List W) (h : List Entry) → Enters (length ws) h → (h ≡ []) ⊎ (0 < length ws)
one_or_none [] h e = inl (nothing h e)
  where
    nothing : (h : List Entry) → Enters 0 h → h ≡ []
    nothing [] e = refl
    nothing (x ∷ h) e = let z = ap length e in absurd (omega (arith, z))
one_or_none (w ∷ ws) h e = inr (omega arith)
