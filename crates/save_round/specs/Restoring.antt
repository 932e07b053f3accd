-- Participants that get what they kept.
use Rattle.std.specs.Prelude.{◌≡◌, ℕ, Bool, true, if◌then◌else◌, List, [], ◌∷◌, map, Option, Some, None, Result, Ok, Err, IsSomeAnd, IsSome, slice_get}
use Rattle.std.specs.List.{find}
use Rattle.std.specs.Str.{bytes_eq}
use Rattle.std.specs.declared.alloc.AllocError.{AllocError}
use Rattle.save_round.specs.declared.restoring.KeptState.{KeptState}
use Rattle.save_round.specs.Told.{Call, Told, Restored}
use Rattle.save_round.specs.Firsts.{FirstsHad, firsts, by_place}

-- what is kept under a name: of several the first
abbrev pub kept_under : List KeptState → List ℕ → Option KeptState
kept_under kept name = find (λ k. bytes_eq name k.name) kept

-- the call that gives back what is kept, where something is
abbrev pub restores : Option KeptState → Result (Unit {0}) AllocError → List Call
restores None answer = []
restores (Some k) answer = Restored k.bytes k.delta answer ∷ []

-- the same for a name, where there is one
abbrev pub restoring : List KeptState → Result (Unit {0}) AllocError → Option (List ℕ) → List Call
restoring kept answer None = []
restoring kept answer (Some name) = restores (kept_under kept name) answer

-- what is kept for each that is marked, by its name
abbrev pub kept_where : List KeptState → List Bool → List Told → List (Option KeptState)
kept_where kept [] xs = []
kept_where kept (b ∷ bs) [] = []
kept_where kept (b ∷ bs) (x ∷ xs) = (if b then kept_under kept x.named else None) ∷ kept_where kept bs xs

-- what is kept for each: something only for the first of a name
abbrev pub kept_for_each : List KeptState → List Told → List (Option KeptState)
kept_for_each kept all = kept_where kept (firsts all) all

-- the name of each
abbrev pub names : List Told → List (List ℕ)
names all = map (λ x. x.named) all

-- the first of each name got what is kept under it, once, and no other was called
abbrev pub WereRestored : List KeptState → List Told → List Told → Type 0
WereRestored kept old new = FirstsHad (λ place. restoring kept (Ok tt) (slice_get (names old) place)) old new

-- restoring stopped at one that wanted memory: those before it were restored, and no later one was called
pub record HasStoppedRestoring (kept : List KeptState) (old new : List Told) : Type 0 where
  pub at : ℕ
  pub fault : AllocError
  pub first : slice_get (firsts old) at ≡ Some true
  pub has : IsSomeAnd (slice_get (names old) at) (λ name. IsSome (kept_under kept name))
  pub calls : FirstsHad (λ place. by_place at (restoring kept (Ok tt) (slice_get (names old) place)) (restoring kept (Err fault) (slice_get (names old) place)) [] place) old new
