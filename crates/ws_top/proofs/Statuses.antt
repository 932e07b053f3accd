-- Statuses are told apart.
use Rattle.std.proofs.Common.{◌≡◌, ◌≢◌, ◌⊎◌, inl, inr, ℕ, false, true, Option, Some, None, sym, ◌∙◌, subst, arith}
use Rattle.std.specs.Prelude.{IsSome}
use Rattle.ws_durable.specs.declared.durable.Durable.{Durable}
use Rattle.ws_top.specs.Outcomes.{IsStatus, IsUnwritten, WasRun, WasUnread, WasIdle, WasUnopened}

-- a status is not two numbers
pub apart : {A : Type 0} (n s t : ℕ) → n ≡ s → n ≡ t → (s ≡ t → ⊥) → A
apart n s t e f d = absurd (d (sym e ∙ f))

-- a state was opened, or none was
pub some_not_none : {A : Type 0} (kept : Option Durable) → IsSome kept → kept ≡ None → A
some_not_none kept some none = let no : false ≡ true = subst IsSome none some in cc

-- ---- of a run that was performed

-- no status of a run that was performed is another one
pub not_performed : (kept : Option Durable) (n t : ℕ) → WasRun kept n ⊎ (n ≡ 8) → (0 ≡ t → ⊥) → (4 ≡ t → ⊥) → (5 ≡ t → ⊥) → (8 ≡ t → ⊥) → n ≢ t
not_performed kept n t (inl (inl e)) z f g h k = z (sym e ∙ k)
not_performed kept n t (inl (inr (inl e))) z f g h k = f (sym e ∙ k)
not_performed kept n t (inl (inr (inr (e, some)))) z f g h k = g (sym e ∙ k)
not_performed kept n t (inr e) z f g h k = h (sym e ∙ k)

pub not_2 : (kept : Option Durable) (n : ℕ) → WasRun kept n ⊎ (n ≡ 8) → n ≢ 2
not_2 kept n c = not_performed kept n 2 c (λ e. omega (arith, e)) (λ e. omega (arith, e)) (λ e. omega (arith, e)) (λ e. omega (arith, e))

pub not_3 : (kept : Option Durable) (n : ℕ) → WasRun kept n ⊎ (n ≡ 8) → n ≢ 3
not_3 kept n c = not_performed kept n 3 c (λ e. omega (arith, e)) (λ e. omega (arith, e)) (λ e. omega (arith, e)) (λ e. omega (arith, e))

pub not_6 : (kept : Option Durable) (n : ℕ) → WasRun kept n ⊎ (n ≡ 8) → n ≢ 6
not_6 kept n c = not_performed kept n 6 c (λ e. omega (arith, e)) (λ e. omega (arith, e)) (λ e. omega (arith, e)) (λ e. omega (arith, e))

pub not_7 : (kept : Option Durable) (n : ℕ) → WasRun kept n ⊎ (n ≡ 8) → n ≢ 7
not_7 kept n c = not_performed kept n 7 c (λ e. omega (arith, e)) (λ e. omega (arith, e)) (λ e. omega (arith, e)) (λ e. omega (arith, e))

pub not_9 : (kept : Option Durable) (n : ℕ) → WasRun kept n ⊎ (n ≡ 8) → n ≢ 9
not_9 kept n c = not_performed kept n 9 c (λ e. omega (arith, e)) (λ e. omega (arith, e)) (λ e. omega (arith, e)) (λ e. omega (arith, e))

-- where it is 5 a state was opened
pub some_at_5 : (kept : Option Durable) (n : ℕ) → WasRun kept n ⊎ (n ≡ 8) → n ≡ 5 → IsSome kept
some_at_5 kept n (inl (inl e)) k = apart n 0 5 e k (λ d. omega (arith, d))
some_at_5 kept n (inl (inr (inl e))) k = apart n 4 5 e k (λ d. omega (arith, d))
some_at_5 kept n (inl (inr (inr (e, some)))) k = some
some_at_5 kept n (inr e) k = apart n 8 5 e k (λ d. omega (arith, d))

pub not_unread : {A : Type 0} (n : ℕ) → n ≢ 2 → n ≢ 3 → n ≢ 9 → WasUnread n → A
not_unread n b c i (inl e) = absurd (b e)
not_unread n b c i (inr (inl e)) = absurd (c e)
not_unread n b c i (inr (inr e)) = absurd (i e)

pub not_idle : {A : Type 0} (kept : Option Durable) (n : ℕ) → WasRun kept n ⊎ (n ≡ 8) → WasIdle n → A
not_idle kept n c (inl u) = not_unread n (not_2 kept n c) (not_3 kept n c) (not_9 kept n c) u
not_idle kept n c (inr e) = absurd (not_6 kept n c e)

pub not_unopened : {A : Type 0} (kept : Option Durable) (n : ℕ) → WasRun kept n ⊎ (n ≡ 8) → WasUnopened kept n → A
not_unopened kept n c (inl (five, none)) = some_not_none kept (some_at_5 kept n c five) none
not_unopened kept n c (inr e) = absurd (not_7 kept n c e)

pub is_performed : (kept : Option Durable) (n : ℕ) → WasRun kept n ⊎ (n ≡ 8) → IsStatus n
is_performed kept n (inl (inl e)) = inl e
is_performed kept n (inl (inr (inl e))) = inr (inr (inr (inl e)))
is_performed kept n (inl (inr (inr (e, some)))) = inr (inr (inr (inr (inr (inr (inr (inl e)))))))
is_performed kept n (inr e) = inr (inr (inr (inr (inr (inl e)))))

pub was_run : (kept : Option Durable) (n : ℕ) → WasRun kept n ⊎ (n ≡ 8) → n ≢ 8 → WasRun kept n
was_run kept n (inl r) d = r
was_run kept n (inr e) d = absurd (d e)

-- a script that was performed, and whose sink and disk didn't fail, ended well
pub well_of : (kept : Option Durable) (n : ℕ) → WasRun kept n ⊎ (n ≡ 8) → (n ≡ 4 → ⊥) → (n ≡ 5 → ⊥) → (n ≡ 0) ⊎ (n ≡ 8)
well_of kept n (inl (inl e)) f g = inl e
well_of kept n (inl (inr (inl e))) f g = absurd (f e)
well_of kept n (inl (inr (inr (e, some)))) f g = absurd (g e)
well_of kept n (inr e) f g = inr e

-- the status of a run that was written whole
pub run_of_unwritten : (kept : Option Durable) (n : ℕ) → IsSome kept → IsUnwritten n → WasRun kept n
run_of_unwritten kept n some (inl e) = inl e
run_of_unwritten kept n some (inr e) = inr (inr (e, some))

pub unwritten_other : (n t : ℕ) → IsUnwritten n → (0 ≡ t → ⊥) → (5 ≡ t → ⊥) → n ≢ t
unwritten_other n t (inl e) z f k = z (sym e ∙ k)
unwritten_other n t (inr e) z f k = f (sym e ∙ k)

-- ---- of areas that couldn't be read

pub not_refused : (kept : Option Durable) (n t : ℕ) → WasUnopened kept n → (5 ≡ t → ⊥) → (7 ≡ t → ⊥) → n ≢ t
not_refused kept n t (inl (e, none)) f s k = f (sym e ∙ k)
not_refused kept n t (inr e) f s k = s (sym e ∙ k)

pub refused_unread : {A : Type 0} (kept : Option Durable) (n : ℕ) → WasUnopened kept n → WasUnread n → A
refused_unread kept n u w = not_unread n (not_refused kept n 2 u (λ e. omega (arith, e)) (λ e. omega (arith, e))) (not_refused kept n 3 u (λ e. omega (arith, e)) (λ e. omega (arith, e)))
    (not_refused kept n 9 u (λ e. omega (arith, e)) (λ e. omega (arith, e))) w

pub refused_idle : {A : Type 0} (kept : Option Durable) (n : ℕ) → WasUnopened kept n → WasIdle n → A
refused_idle kept n u (inl w) = refused_unread kept n u w
refused_idle kept n u (inr e) = absurd (not_refused kept n 6 u (λ k. omega (arith, k)) (λ k. omega (arith, k)) e)

pub refused_0 : {A : Type 0} (kept : Option Durable) (n : ℕ) → WasUnopened kept n → n ≡ 0 → A
refused_0 kept n u e = absurd (not_refused kept n 0 u (λ k. omega (arith, k)) (λ k. omega (arith, k)) e)

pub refused_4 : {A : Type 0} (kept : Option Durable) (n : ℕ) → WasUnopened kept n → n ≡ 4 → A
refused_4 kept n u e = absurd (not_refused kept n 4 u (λ k. omega (arith, k)) (λ k. omega (arith, k)) e)

-- at 5 no state was opened
pub refused_5 : {A : Type 0} (kept : Option Durable) (n : ℕ) → WasUnopened kept n → n ≡ 5 → IsSome kept → A
refused_5 kept n (inl (e, none)) k some = some_not_none kept some none
refused_5 kept n (inr e) k some = apart n 7 5 e k (λ d. omega (arith, d))

pub refused_run : {A : Type 0} (kept : Option Durable) (n : ℕ) → WasUnopened kept n → WasRun kept n → A
refused_run kept n u (inl e) = refused_0 kept n u e
refused_run kept n u (inr (inl e)) = refused_4 kept n u e
refused_run kept n u (inr (inr (e, some))) = refused_5 kept n u e some

pub refused_8 : {A : Type 0} (kept : Option Durable) (n : ℕ) → WasUnopened kept n → n ≡ 8 → A
refused_8 kept n u e = absurd (not_refused kept n 8 u (λ k. omega (arith, k)) (λ k. omega (arith, k)) e)

pub is_refused : (kept : Option Durable) (n : ℕ) → WasUnopened kept n → IsStatus n
is_refused kept n (inl (e, none)) = inr (inr (inr (inr (inr (inr (inr (inl e)))))))
is_refused kept n (inr e) = inr (inr (inr (inr (inr (inr (inr (inr e)))))))

-- ---- of a text that was told

-- a text was told, or a write of it failed
abbrev pub WasTold : ℕ → Type 0
WasTold n = (n ≡ 0) ⊎ (n ≡ 4)

-- a status at which nothing was run
pub unrun : {A : Type 0} (kept : Option Durable) (n s : ℕ) → n ≡ s → (s ≡ 0 → ⊥) → (s ≡ 4 → ⊥) → (s ≡ 5 → ⊥) → WasRun kept n → A
unrun kept n s e z f g (inl k) = apart n s 0 e k z
unrun kept n s e z f g (inr (inl k)) = apart n s 4 e k f
unrun kept n s e z f g (inr (inr (k, some))) = apart n s 5 e k g

pub told_other : (n t : ℕ) → WasTold n → (0 ≡ t → ⊥) → (4 ≡ t → ⊥) → n ≢ t
told_other n t (inl e) z f k = z (sym e ∙ k)
told_other n t (inr e) z f k = f (sym e ∙ k)

pub is_told : (n : ℕ) → WasTold n → IsStatus n
is_told n (inl e) = inl e
is_told n (inr e) = inr (inr (inr (inl e)))

pub told_idle : {A : Type 0} (n : ℕ) → WasTold n → WasIdle n → A
told_idle n t (inl u) = not_unread n (told_other n 2 t (λ e. omega (arith, e)) (λ e. omega (arith, e))) (told_other n 3 t (λ e. omega (arith, e)) (λ e. omega (arith, e))) (told_other n 9 t (λ e. omega (arith, e)) (λ e. omega (arith, e))) u
told_idle n t (inr e) = absurd (told_other n 6 t (λ k. omega (arith, k)) (λ k. omega (arith, k)) e)

-- ---- of a text that was told, or for which memory wanted

abbrev pub WasSaid : ℕ → Type 0
WasSaid n = WasTold n ⊎ (n ≡ 8)

pub said_other : (n t : ℕ) → WasSaid n → (0 ≡ t → ⊥) → (4 ≡ t → ⊥) → (8 ≡ t → ⊥) → n ≢ t
said_other n t (inl c) z f e k = told_other n t c z f k
said_other n t (inr c) z f e k = e (sym c ∙ k)

pub is_said : (n : ℕ) → WasSaid n → IsStatus n
is_said n (inl c) = is_told n c
is_said n (inr e) = inr (inr (inr (inr (inr (inl e)))))

-- ---- of the script that a number gives

pub loaded_of : (kept : Option Durable) (n : ℕ) → WasRun kept n ⊎ (n ≡ 8) → WasRun kept n ⊎ WasUnopened kept n ⊎ (n ≡ 8)
loaded_of kept n (inl r) = inl r
loaded_of kept n (inr e) = inr (inr e)

pub not_loaded : (kept : Option Durable) (n t : ℕ) → WasRun kept n ⊎ WasUnopened kept n ⊎ (n ≡ 8) → (0 ≡ t → ⊥) → (4 ≡ t → ⊥) → (5 ≡ t → ⊥) → (7 ≡ t → ⊥) → (8 ≡ t → ⊥) → n ≢ t
not_loaded kept n t (inl r) z f g s e = not_performed kept n t (inl r) z f g e
not_loaded kept n t (inr (inl u)) z f g s e = not_refused kept n t u g s
not_loaded kept n t (inr (inr k)) z f g s e = not_performed kept n t (inr k) z f g e

pub is_loaded : (kept : Option Durable) (n : ℕ) → WasRun kept n ⊎ WasUnopened kept n ⊎ (n ≡ 8) → IsStatus n
is_loaded kept n (inl r) = is_performed kept n (inl r)
is_loaded kept n (inr (inl u)) = is_refused kept n u
is_loaded kept n (inr (inr e)) = is_performed kept n (inr e)
