-- What the writes of an area leave.
use Rattle.std.specs.Prelude.{◌<◌, ◌≡◌, ◌≢◌, ◌⊎◌, ◌≤◌, ◌+◌, ◌^◌, ℕ, max, List, [], ◌∷◌, ◌++◌, length, take, drop, Bool, false}

-- new is f of old
abbrev pub Becomes : (List ℕ → List ℕ) → List ℕ → List ℕ → Type 0
Becomes f old new = new ≡ f old

-- the bytes up to here stay, and the area grows to no more than an area may have
pub record KeepsFront (at : ℕ) (old new : List ℕ) : Type 0 where
  pub front : take at new ≡ take at old
  pub no_shorter : length old ≤ length new
  pub no_longer : length new ≤ max (length old) (2 ^ 30)

-- the bytes up to here stay, and these follow
pub record Follow (at : ℕ) (bytes old new : List ℕ) : Type 0 where
  pub whole : at ≤ length old
  pub front : take (at + length bytes) new ≡ take at old ++ bytes
  pub no_shorter : length old ≤ length new
  pub no_longer : length new ≤ max (length old) (2 ^ 30)

-- there is a first byte, and it isn't 01
abbrev pub IsShut : List ℕ → Type 0
IsShut [] = ⊥
IsShut (gate ∷ _) = gate ≢ 1

abbrev pub SameBehind : List ℕ → List ℕ → Type 0
SameBehind old new = drop 1 new ≡ drop 1 old

-- shut, and these bytes behind the gate
pub record Staged (image old new : List ℕ) : Type 0 where
  pub shut : IsShut new
  pub size : 1 ≤ length new
  pub behind : drop 1 new ≡ image

-- while a gate is closed that may be shut already
abbrev pub Closing : Bool → List ℕ → List ℕ → Type 0
Closing closed old new = ((closed ≡ false) × SameBehind old new) ⊎ IsShut new

-- While an image is written an area has changed at its gate alone, or it is shut, or all of the new image stands behind its gate.
abbrev pub Rewriting : Bool → List ℕ → List ℕ → List ℕ → Type 0
Rewriting closed behind old new = ((closed ≡ false) × SameBehind old new) ⊎ IsShut new ⊎ ((1 ≤ length new) × (drop 1 new ≡ behind))

-- a record's gate, and these bytes behind it, stand at this place
pub record Appended (at gate : ℕ) (bytes old new : List ℕ) : Type 0 where
  pub whole : at < length old
  pub front : take (at + 1 + length bytes) new ≡ take at old ++ gate ∷ bytes
  pub no_shorter : length old ≤ length new
  pub no_longer : length new ≤ max (length old) (2 ^ 30)

-- While a record is written, all up to its gate stays, or all of it stands behind its gate.
abbrev pub Recording : ℕ → List ℕ → List ℕ → List ℕ → Type 0
Recording at bytes old new = KeepsFront (at + 1) old new ⊎ ((gate : ℕ) × Appended at gate bytes old new)
