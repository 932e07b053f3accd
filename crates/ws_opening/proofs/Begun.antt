-- What is said of a workspace that was opened over a store.
use Rattle.std.proofs.Common.{◌≡◌, ◌⊎◌, inl, inr, List, Option, Some, None, sym, subst}
use Rattle.std.specs.Prelude.{Result, Ok, Err, IfSome, IfOk, IfErr, MatchResult}
use Rattle.ws_outside.specs.declared.contents.Contents.{Contents}
use Rattle.res_path.specs.Paths.{Names}
use Rattle.ws_durable.specs.Saved.{Saved}
use Rattle.save_format.specs.Valid.{Valid}
use Rattle.save_store.specs.States.{Holds}
use Rattle.save_round.specs.Told.{Told}
use Rattle.save_round.specs.Restoring.{HasStoppedRestoring}
use Rattle.ws_core.specs.Durables.{kept_since}
use Rattle.ws_core.specs.Opened.{opened_of}
use Rattle.ws_opening.specs.Restored.{HasStoppedOpening}

-- ---- a part of a result that is known

-- what holds of a part that an Ok has
pub ok_at : {F E K : Type 0} (r : Result F E) (part : F → K) (k : K) → IfOk r (λ f. part f ≡ k) → (P : K → Type 0) → P k → IfOk r (λ f. P (part f))
ok_at (Ok f) part k e P p = subst P (sym e) p
ok_at (Err x) part k e P p = tt

-- the same, and what holds of two parts that an Err has
pub either_at : {F E K A B : Type 0} (r : Result F E) (part : F → K) (k : K) (one : E → A) (a : A) (other : E → B) (b : B) → IfOk r (λ f. part f ≡ k) → IfErr r (λ x. (one x ≡ a) × (other x ≡ b))
    → (P : K → Type 0) (Q : A → B → Type 0) → P k → Q a b → MatchResult r (λ f. P (part f)) (λ x. Q (one x) (other x))
either_at (Ok f) part k one a other b e w P Q p q = subst P (sym e) p
either_at (Err x) part k one a other b e w P Q p q = subst (λ c. Q c (other x)) (sym w.0) (subst (Q a) (sym w.1) q)

-- of what can't be
pub never : {F E : Type 0} (r : Result F E) (P : F → Type 0) (Q : E → Type 0) → ⊥ → MatchResult r P Q
never (Ok f) P Q n = absurd n
never (Err x) P Q n = absurd n

-- what is seen is so, and so is what follows
pub seen_both : {X : Type 0} {P Q : X → Type 0} (seen : Option X) → IfSome seen P → ((x : X) → P x → Q x) → IfSome seen Q
seen_both None h f = tt
seen_both (Some x) h f = f x h

-- ---- want of memory

-- participants stopped in the state that the areas hold, if any was called
stopped_in : {A M : Type 0} (seen : Option Contents) (d : Saved) (builders : Names) (old new : List Told) → Valid d → IfSome seen (λ both. Holds both d) → M
    → A ⊎ HasStoppedRestoring (kept_since (opened_of d builders)) old new → A ⊎ (M × HasStoppedOpening seen builders old new)
stopped_in seen d builders old new valid held m (inl same) = inl same
stopped_in seen d builders old new valid held m (inr stopped) = inr (m, record { state = d; valid = valid; held = held; stopped = stopped })

pub all_stopped : {F E A B C : Type 0} (r : Result F E) (one : E → A) (a : A) (other : E → C) (c : C) (parts : E → B) (same : B) (tells : B → List Told) (seen : Option Contents) (d : Saved) (builders : Names) (old : List Told)
    → Valid d → IfSome seen (λ both. Holds both d) → IfErr r (λ x. (one x ≡ a) × (other x ≡ c)) → IfErr r (λ x. (parts x ≡ same) ⊎ HasStoppedRestoring (kept_since (opened_of d builders)) old (tells (parts x)))
    → IfErr r (λ x. (parts x ≡ same) ⊎ ((one x ≡ a) × HasStoppedOpening seen builders old (tells (parts x))))
all_stopped (Ok f) one a other c parts same tells seen d builders old valid held w s = tt
all_stopped (Err x) one a other c parts same tells seen d builders old valid held w s = stopped_in seen d builders old (tells (parts x)) valid held w.0 s
