-- Rounds of a save.
use Rattle.std.specs.Prelude.{◌≡◌, ℕ, suc, Bool, true, if◌then◌else◌, List, [], ◌∷◌, ◌++◌, Option, Some, None, Result, Ok, Err, IsSomeAnd, slice_get}
use Rattle.save_kind.specs.declared.kind.SaveKind.{SaveKind}
use Rattle.save_kind.specs.declared.state.PartState.{PartState}
use Rattle.save_round.specs.declared.participant.PartFault.{PartFault}
use Rattle.save_round.specs.declared.participant.PartFault.TheVariants as answer
use Rattle.save_round.specs.declared.round.RoundFault.{RoundFault}
use Rattle.save_round.specs.declared.round.RoundFault.TheVariants.{Failed, Memory}
use Rattle.save_round.specs.Told.{Told, Prepared, Saving, RolledBack, HasRisenAt}
use Rattle.save_round.specs.Firsts.{FirstsHad, firsts, by_place}

-- a state with its participant's name, where there is one
abbrev pub named_state : List ℕ → Option PartState → List (List ℕ × PartState)
named_state name None = []
named_state name (Some state) = (name, state) ∷ []

-- the states that those that are marked answered, in the list's order, with their names
abbrev pub states_where : List Bool → (ℕ → Option PartState) → List Told → List (List ℕ × PartState)
states_where [] answers xs = []
states_where (b ∷ bs) answers [] = []
states_where (b ∷ bs) answers (x ∷ xs) = named_state x.named (if b then answers 0 else None) ++ states_where bs (λ place. answers (suc place)) xs

-- the first of each name was asked for its state, and these are the states that were answered
pub record HaveAnswered (kind : SaveKind) (kept : List (List ℕ × PartState)) (old new : List Told) : Type 0 where
  pub answers : ℕ → Option PartState
  pub calls : FirstsHad (λ place. Saving kind (Ok (answers place)) ∷ []) old new
  pub states : kept ≡ states_where (firsts old) answers old

-- where the fault names a participant, this is so of the name
abbrev pub IfFailed : RoundFault → (List ℕ → Type 0) → Type 0
IfFailed (Failed name) P = P name
IfFailed Memory P = Unit {0}

-- the one at a place has the name
abbrev pub IsNamedAt : ℕ → List ℕ → List Told → Type 0
IsNamedAt at name all = IsSomeAnd (slice_get all at) (λ x. x.named ≡ name)

-- where the fault names a participant, it is the one at the place, which answered that it failed, and its count rose
abbrev pub IsCause : {A : Type 0} → RoundFault → ℕ → Result A PartFault → List Told → List Told → Type 0
IsCause fault at answered old new = IfFailed fault (λ name. (answered ≡ Err answer.Failed) × IsNamedAt at name old × HasRisenAt at old new)

-- preparing stopped at a place: those before it were prepared and then rolled back, the one there answered a fault, and no later one was called
pub record HasStoppedPreparing (kind : SaveKind) (fault : RoundFault) (old new : List Told) : Type 0 where
  pub at : ℕ
  pub answer : PartFault
  pub first : slice_get (firsts old) at ≡ Some true
  pub calls : FirstsHad (by_place at (Prepared kind (Ok tt) ∷ RolledBack ∷ []) (Prepared kind (Err answer) ∷ []) []) old new
  pub cause : IsCause {A = Unit {0}} fault at (Err answer) old new

-- asking for states stopped at a place: those up to it were asked, and then all were rolled back
pub record HasStoppedSaving (kind : SaveKind) (fault : RoundFault) (old new : List Told) : Type 0 where
  pub at : ℕ
  pub answers : ℕ → Option PartState
  pub last : Result (Option PartState) PartFault
  pub first : slice_get (firsts old) at ≡ Some true
  pub calls : FirstsHad (λ place. by_place at (Saving kind (Ok (answers place)) ∷ RolledBack ∷ []) (Saving kind last ∷ RolledBack ∷ []) (RolledBack ∷ []) place) old new
  pub cause : IsCause fault at last old new
