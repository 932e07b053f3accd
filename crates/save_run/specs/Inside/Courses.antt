-- How a save goes between its start and its end.
use Rattle.std.specs.Prelude.{◌≡◌, ◌⊎◌, ℕ, List, [], ◌∷◌, Option, None, Result, Ok, Err}
use Rattle.save_kind.specs.declared.answer.SaveAnswer.{SaveAnswer}
use Rattle.save_kind.specs.declared.answer.SaveAnswer.TheVariants as answer
use Rattle.save_kind.specs.declared.kind.SaveKind.{SaveKind}
use Rattle.save_kind.specs.declared.state.PartState.{PartState}
use Rattle.save_round.specs.declared.round.RoundFault.{RoundFault}
use Rattle.save_round.specs.declared.round.RoundFault.TheVariants.{Failed, Memory}
use Rattle.save_round.specs.Told.{Call, Told, Prepared, Saving, Done, RolledBack}
use Rattle.save_round.specs.Firsts.{FirstsHad, firsts}
use Rattle.save_round.specs.Rounds.{states_where}
use Rattle.save_run.specs.declared.host.WriteFault.{WriteFault}
use Rattle.save_run.specs.declared.host.WriteFault.TheVariants as write
use Rattle.save_run.specs.Books.{Deed, Start, Keep, Write, HasBegun, MayEnd, outcome_of}
use Rattle.save_run.specs.Saves.{CameTo}

-- each was prepared and asked, and these are the states that were answered
pub record Gathered (kind : SaveKind) (states : List (List ℕ × PartState)) (old new : List Told) : Type 0 where
  pub answers : ℕ → Option PartState
  pub calls : FirstsHad (λ place. Prepared kind (Ok tt) ∷ Saving kind (Ok (answers place)) ∷ []) old new
  pub answered : states ≡ states_where (firsts old) answers old

-- a save of the kind began, and then the states were kept and written with this result, or memory wanted when they were to be kept
abbrev pub IsStored : SaveKind → List (List ℕ × PartState) → Result (Unit {0}) WriteFault → List Deed → Type 0
IsStored kind states result b = (b ≡ Start kind None ∷ Keep states ∷ Write kind result ∷ []) ⊎ ((result ≡ Err write.Memory) × HasBegun b kind)

-- what each participant is told after a write
abbrev pub end_of : Result (Unit {0}) WriteFault → Call
end_of (Ok done) = Done
end_of (Err fault) = RolledBack

-- the states were stored, and each participant was told how that went
abbrev pub HasStored : SaveKind → List (List ℕ × PartState) → SaveAnswer → List Deed → List Told → List Told → Type 0
HasStored kind states o b old new = (result : Result (Unit {0}) WriteFault) × (o ≡ outcome_of result) × IsStored kind states result b × FirstsHad (λ place. end_of result ∷ []) old new

-- how a save ends where a participant stopped it
abbrev pub stop_of : RoundFault → SaveAnswer
stop_of (Failed name) = answer.ParticipantFailed name
stop_of Memory = answer.NoMemory

-- a save that began came to an answer
pub record Went (kind : SaveKind) (o : SaveAnswer) (b : List Deed) (old new : List Told) : Type 0 where
  pub deeds : List Deed
  pub came : CameTo kind o deeds old new
  pub book : b ≡ Start kind None ∷ deeds
  pub may : MayEnd b o

-- the same answer, or want of memory in the place of a name
abbrev pub IsKeptOr : SaveAnswer → SaveAnswer → Type 0
IsKeptOr o o' = (o' ≡ o) ⊎ ((o' ≡ answer.NoMemory) × ((name : List ℕ) × (o ≡ answer.ParticipantFailed name)))
