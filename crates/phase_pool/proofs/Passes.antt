-- How passes go on.
use Rattle.std.proofs.Common.{◌≡◌, ◌∙◌, ℕ, List, [], ◌∷◌, ◌++◌, length, refl, sym, ap, subst, arith, append-nil, length-append}
use Rattle.core_event.specs.declared.entry.Entry.{Entry}
use Rattle.run_order.specs.Lists.{own, Begins, Grew}
use Rattle.phase_pool.specs.Passes.{Known, Makes, LooksOn}
use Rattle.phase_pool.specs.Inside.Laws.{makes_on, makes_none}

-- each is the beginning of the other
pub begins_both : (a b : List Entry) → Begins a b → Begins b a → b ≡ a
begins_both a b p q = by p.0 p.1
  where
    by : (r : List Entry) → b ≡ a ++ r → b ≡ a
    by [] e = e ∙ append-nil a
    by (x ∷ r) e =
        let m = ap length e in
        let n = length-append a (x ∷ r) in
        let u = ap length q.1 in
        let v = length-append b q.0 in
        absurd (omega (arith, m, n, u, v))

pub looks_same : (k : Known) → LooksOn k k
looks_same k = makes_none (λ h. h ≡ []) k refl

-- such entries, and then nothing
pub makes_looks : (P : List Entry → Type 0) (k k' k'' : Known) → Makes P k k' → LooksOn k' k'' → Makes P k k''
makes_looks P k k' k'' p q = makes_on P (λ h. h ≡ []) P k k' k'' (λ a b x e. subst (λ l. P (a ++ l)) (sym e) (subst P (sym (append-nil a)) x)) p q

-- nothing, and then such entries
pub looks_makes : (P : List Entry → Type 0) (k k' k'' : Known) → LooksOn k k' → Makes P k' k'' → Makes P k k''
looks_makes P k k' k'' p q = makes_on (λ h. h ≡ []) P P k k' k'' (λ a b e x. subst (λ l. P (l ++ b)) (sym e) x) p q

pub makes_wider : (P Q : List Entry → Type 0) (k k' : Known) → ((h : List Entry) → P h → Q h) → Makes P k k' → Makes Q k k'
makes_wider P Q k k' f p = record { number = p.number; begins = p.begins; made = (p.made.0, p.made.1, f p.made.0 p.made.2) }

-- what is said of the pass of a number and of two histories
pub grew_at : (P : List Entry → Type 0) (n : ℕ) (h h' : List Entry) (k k' : Known) → k.number ≡ n → k.seen ≡ h → k'.seen ≡ h' → Makes P k k' → Grew P (own n h) (own n h')
grew_at P n h h' k k' e f f' p = subst (λ z. Grew P (own n h) (own n z)) f' (subst (λ z. Grew P (own n z) (own n k'.seen)) f (subst (λ z. Grew P (own z k.seen) (own z k'.seen)) e p.made))

pub same_at : (n : ℕ) (h h' : List Entry) (k k' : Known) → k.number ≡ n → k.seen ≡ h → k'.seen ≡ h' → LooksOn k k' → own n h' ≡ own n h
same_at n h h' k k' e f f' p = let g = grew_at (λ l. l ≡ []) n h h' k k' e f f' p in g.1 ∙ (ap (λ l. own n h ++ l) g.2 ∙ append-nil (own n h))
