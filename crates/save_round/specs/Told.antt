-- What participants tell.
use Rattle.std.specs.Prelude.{◌≡◌, ◌≤◌, ◌<◌, ◌⊎◌, ◌^◌, ◌-◌, ℕ, List, [], ◌∷◌, ◌++◌, Option, Result, IsSomeAnd, slice_get}
use Rattle.std.specs.Option.{option_map}
use Rattle.std.specs.declared.alloc.AllocError.{AllocError}
use Rattle.delta_kind.specs.declared.node.DeltaNode.{DeltaNode}
use Rattle.save_kind.specs.declared.kind.SaveKind.{SaveKind}
use Rattle.save_kind.specs.declared.state.PartState.{PartState}
use Rattle.save_round.specs.declared.participant.PartFault.{PartFault}

-- a call of a participant, with what it was given and what it answered
pub data Call : Type 0 where
  Prepared : SaveKind → Result (Unit {0}) PartFault → Call
  Saving : SaveKind → Result (Option PartState) PartFault → Call
  Done : Call
  RolledBack : Call
  Restored : List ℕ → Option (List DeltaNode) → Result (Unit {0}) AllocError → Call

-- one call more, where the calls are told
abbrev pub with_call : Call → Option (List Call) → Option (List Call)
with_call call calls = option_map (λ before. before ++ call ∷ []) calls

-- a participant's name, its calls, where it tells them, and how often it failed
pub record Told : Type 0 where
  pub named : List ℕ
  pub calls : Option (List Call)
  pub faults : ℕ

-- the participant was called
pub record WasCalled (call : Call) (old new : Told) : Type 0 where
  pub named : new.named ≡ old.named
  pub calls : new.calls ≡ with_call call old.calls
  pub faults : old.faults ≤ new.faults

-- it had these calls, one after another, and no other
abbrev pub HadCalls : List Call → Told → Told → Type 0
HadCalls [] old new = new ≡ old
HadCalls (call ∷ calls) old new = (next : Told) × WasCalled call old next × HadCalls calls next new

-- the count rose; one that stands at its last value may have
abbrev pub HasRisen : ℕ → ℕ → Type 0
HasRisen old new = (old < new) ⊎ ((old ≡ 2 ^ 64 - 1) × (new ≡ old))

-- the count of the one at a place rose
abbrev pub HasRisenAt : ℕ → List Told → List Told → Type 0
HasRisenAt at old new = IsSomeAnd (slice_get old at) (λ x. IsSomeAnd (slice_get new at) (λ y. HasRisen x.faults y.faults))
