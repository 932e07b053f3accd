-- What builders tell.
use Rattle.std.specs.Prelude.{◌≡◌, ◌≤◌, ◌<◌, ◌⊎◌, ◌^◌, ◌-◌, ℕ, zero, suc, List, [], ◌∷◌, ◌++◌, find, Option, Some, IfSome, MatchOption, slice_get}
use Rattle.std.specs.List.{position_from}
use Rattle.std.specs.Option.{option_map}
use Rattle.std.specs.Str.{bytes_eq}
use Rattle.proj_desc.specs.declared.command.Command.{Command}
use Rattle.builder_api.specs.declared.handed.Handed.{Handed}
use Rattle.builder_api.specs.Meanings.{Meaning, Meanings}

-- a call of a builder
pub data Call : Type 0 where
  Built : Command → Handed → Call
  Cleaned : Call

-- one call more, where the calls are told
abbrev pub with_call : Call → Option (List Call) → Option (List Call)
with_call call calls = option_map (λ xs. xs ++ call ∷ []) calls

-- a builder's name, its meaning and its calls, where it tells them, and how often it failed
pub record Told : Type 0 where
  pub named : List ℕ
  pub means : Option Meaning
  pub calls : Option (List Call)
  pub faults : ℕ

-- the builder was called
pub record WasCalled (call : Call) (old new : Told) : Type 0 where
  pub named : new.named ≡ old.named
  pub means : new.means ≡ old.means
  pub calls : new.calls ≡ with_call call old.calls
  pub faults : old.faults ≤ new.faults

-- the count rose; one that stands at its last value may have
abbrev pub HasRisen : ℕ → ℕ → Type 0
HasRisen old new = (old < new) ⊎ ((old ≡ 2 ^ 64 - 1) × (new ≡ old))

-- the one at a place was called, and no other
abbrev pub WasCalledAt : ℕ → Call → List Told → List Told → Type 0
WasCalledAt n call [] [] = Unit {0}
WasCalledAt n call [] (y ∷ ys) = ⊥
WasCalledAt n call (x ∷ xs) [] = ⊥
WasCalledAt zero call (x ∷ xs) (y ∷ ys) = WasCalled call x y × (ys ≡ xs)
WasCalledAt (suc n) call (x ∷ xs) (y ∷ ys) = (y ≡ x) × WasCalledAt n call xs ys

-- the count of the one at a place rose
abbrev pub HasRisenAt : ℕ → List Told → List Told → Type 0
HasRisenAt n old new = IfSome (slice_get old n) (λ x. IfSome (slice_get new n) (λ y. HasRisen x.faults y.faults))

-- the place of the first builder of a name, from 0
abbrev pub place_named : List ℕ → List Told → Option ℕ
place_named n = position_from (λ b. bytes_eq b.named n) 0

-- the first builder of a name
abbrev pub first_named : List ℕ → List Told → Option Told
first_named n = find (λ b. bytes_eq b.named n)

-- the first builder of each name for which there is a meaning tells that meaning
abbrev pub HaveMeanings : Meanings → List Told → Type 0
HaveMeanings ms all = (n : List ℕ) → IfSome (ms n) (λ m. IfSome (first_named n all) (λ b. b.means ≡ Some m))

-- the first builder of the name was called, and no other; where there is none, none was
abbrev pub WasFirstCalled : List ℕ → Call → List Told → List Told → Type 0
WasFirstCalled n call old new = MatchOption (place_named n old) (new ≡ old) (λ at. WasCalledAt at call old new)

-- the count of the first builder of the name rose
abbrev pub HasFirstRisen : List ℕ → List Told → List Told → Type 0
HasFirstRisen n old new = IfSome (place_named n old) (λ at. HasRisenAt at old new)
