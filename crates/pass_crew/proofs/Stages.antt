-- What was done between two meetings, where one pass went on.
use Rattle.std.proofs.Common.{◌≡◌, ◌≢◌, ◌<◌, ◌≤◌, ◌⊎◌, inl, inr, ◌+◌, ℕ, zero, suc, List, [], ◌∷◌, ◌++◌, length, refl, ap, sym, subst, ◌∙◌, arith, append-nil}
use Rattle.core_event.specs.declared.entry.Entry.{Entry}
use Rattle.run_order.specs.Lists.{own, Begins, Grew}
use Rattle.run_order.proofs.Lists.{own_append, own_more, own_no, own_yes}

pub below_or_not : (a b : ℕ) → (a < b) ⊎ (b ≤ a)
below_or_not a b = grind arith

pub same_or_not : (a b : ℕ) → (a ≡ b) ⊎ (a ≢ b)
same_or_not a b = elim (below_or_not a b) [
  | inl lt ↦ inr (λ e. absurd (omega (arith, lt, e)))
  | inr le ↦ elim (below_or_not b a) [
    | inl gt ↦ inr (λ e. absurd (omega (arith, gt, e)))
    | inr ge ↦ inl (omega (arith, le, ge))
  ]
]

back_nil : (a b : List Entry) → a ++ b ≡ [] → b ≡ []
back_nil [] b e = e
back_nil (x ∷ a) b e = let z = ap length e in absurd (omega (arith, z))

-- where one pass alone has entries
only_of : (k : ℕ) (m : List Entry) → ((j : ℕ) → j ≢ k → own j m ≡ []) → m ≡ own k m
only_of k [] f = refl
only_of k (x ∷ m) f = elim (same_or_not x.pass k) [
  | inl is ↦ ap (λ l. x ∷ l) (only_of k m (λ j ne. sym (own_no j x m (λ q. ne (sym q ∙ is))) ∙ f j ne)) ∙ sym (own_yes k x m is)
  | inr ne ↦ (let a = ap length (sym (own_yes x.pass x m refl) ∙ f x.pass ne) in absurd (omega (arith, a)))
]

-- pass k alone went on, of those up to n, and no other has an entry
pub stage : (n k : ℕ) (P : List Entry → Type 0) (h h' : List Entry) → Begins h h' → ((j : ℕ) → j ≤ n → j ≢ k → own j h' ≡ own j h) → ((j : ℕ) → n < j → own j h' ≡ [])
    → Grew P (own k h) (own k h') → Grew P h h'
stage n k P h h' b same above g =
    (g.0, b.1 ∙ ap (λ l. h ++ l) (only_of k b.0 others ∙ own_more k h b.0 g.0 (ap (own k) (sym b.1) ∙ g.1)), g.2)
  where
    others : (j : ℕ) → j ≢ k → own j b.0 ≡ []
    others j ne = elim (below_or_not n j) [
      | inl gt ↦ back_nil (own j h) (own j b.0) (sym (own_append j h b.0) ∙ (ap (own j) (sym b.1) ∙ above j gt))
      | inr le ↦ own_more j h b.0 [] (ap (own j) (sym b.1) ∙ (same j le ne ∙ sym (append-nil (own j h))))
    ]

pub nothing_new : (h h' : List Entry) → Grew (λ l. l ≡ []) h h' → h' ≡ h
nothing_new h h' g = g.1 ∙ (ap (λ l. h ++ l) g.2 ∙ append-nil h)

gap : (g j : ℕ) → g < j → (i : ℕ) × (g + (i + 1) ≡ j)
gap zero zero lt = absurd (omega (arith, lt))
gap zero (suc j) lt = (j, omega arith)
gap (suc g) zero lt = absurd (omega (arith, lt))
gap (suc g) (suc j) lt = let p = gap g j (omega (arith, lt)) in let e = p.1 in (p.0, omega (arith, e))

-- the numbers from 1 to n: those of passes that are gone, and then those of the workers
pub up_to : (gone n : ℕ) (Q : ℕ → Type 0) → ((j : ℕ) → 0 < j → j ≤ gone → Q j) → ((i : ℕ) → gone + (i + 1) ≤ n → Q (gone + (i + 1))) → (j : ℕ) → 0 < j → j ≤ n → Q j
up_to gone n Q f g j some few = elim (below_or_not gone j) [
  | inl lt ↦ (let p = gap gone j lt in let e = p.1 in subst Q p.1 (g p.0 (omega (arith, e, few))))
  | inr le ↦ f j some le
]
