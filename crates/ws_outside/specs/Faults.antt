-- How a fault of the outside is told: by a count that never falls.
use Rattle.std.specs.Prelude.{◌≡◌, ℕ, ◌+◌, ◌-◌, ◌^◌, ◌<◌, ◌⊎◌, min, Result, MatchResult}

-- the count rose in a call; one that stands at its last value may have
abbrev pub Rose : ℕ → ℕ → Type 0
Rose old new = (old < new) ⊎ ((old ≡ 2 ^ 64 - 1) × (new ≡ old))

-- the call failed exactly where the count rose in it
abbrev pub HasCause : {T E : Type 0} → ℕ → ℕ → Result T E → Type 0
HasCause old new result = MatchResult result (λ _. new ≡ old) (λ _. Rose old new)

-- one more, or the last value again
abbrev pub next : ℕ → ℕ
next count = min (count + 1) (2 ^ 64 - 1)
