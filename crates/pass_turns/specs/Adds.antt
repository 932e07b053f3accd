-- What a pass adds in one turn.
use Rattle.std.specs.Prelude.{◌≡◌, ◌⊎◌, ℕ, List, [], ◌∷◌, Option, Some, None}
use Rattle.pass_turns.specs.declared.machine.LeaveError.{LeaveError}
use Rattle.pass_turns.specs.declared.machine.LeaveError.TheVariants.{Busy, Memory}

-- no entry, or one of the pass's own number, by which no pass enters
abbrev pub AddsUpToOne : {E : Type 0} → (E → ℕ) → (E → Option ℕ) → ℕ → List E → Type 0
AddsUpToOne {E = E} by gives n more = (more ≡ []) ⊎ ((x : E) × (more ≡ x ∷ []) × (by x ≡ n) × (gives x ≡ None))

-- a pass that asked to leave was busy, and that it asked is its entry; or memory wanted, and it added nothing
abbrev pub WasRefused : {E : Type 0} → (E → Type 0) → LeaveError → List E → Type 0
WasRefused {E = E} asked Busy more = (x : E) × (more ≡ x ∷ []) × asked x
WasRefused asked Memory more = more ≡ []

-- an attempt has an answer, which is so; or it has to wait, and nothing was done
abbrev pub Tried : {E B A : Type 0} → (B → ℕ → List E → List E → A → Type 0) → Type 0 → B → ℕ → List E → List E → Option A → Type 0
Tried did same b n found more None = (more ≡ []) × same
Tried did same b n found more (Some answer) = did b n found more answer
