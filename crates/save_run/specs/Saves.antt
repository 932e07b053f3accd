-- What a save did, and what it answers.
use Rattle.std.specs.Prelude.{◌≡◌, ◌⊎◌, ℕ, true, List, [], ◌∷◌, ◌++◌, Option, Some, None, Result, Ok, Err, slice_get}
use Rattle.save_kind.specs.declared.answer.SaveAnswer.{SaveAnswer}
use Rattle.save_kind.specs.declared.answer.SaveAnswer.TheVariants as answer
use Rattle.save_kind.specs.declared.kind.SaveKind.{SaveKind}
use Rattle.save_kind.specs.declared.state.PartState.{PartState}
use Rattle.save_round.specs.declared.participant.PartFault.{PartFault}
use Rattle.save_round.specs.declared.round.RoundFault.{RoundFault}
use Rattle.save_round.specs.declared.round.RoundFault.TheVariants.{Failed, Memory}
use Rattle.save_round.specs.Told.{Call, Told, Prepared, Saving, Done, RolledBack}
use Rattle.save_round.specs.Firsts.{FirstsHad, firsts, by_place}
use Rattle.save_round.specs.Rounds.{HasStoppedPreparing, IsCause, states_where}
use Rattle.save_run.specs.declared.command.Saved.{Saved}
use Rattle.save_run.specs.declared.command.Saved.TheVariants.{Ended, Stopped}
use Rattle.save_run.specs.declared.host.WriteFault.{WriteFault}
use Rattle.save_run.specs.declared.host.WriteFault.TheVariants as write
use Rattle.save_run.specs.Books.{Deed, Start, Keep, Write, Finish}

-- the first of each name was prepared, answered for its state and was told the end, and these are the states, in the list's order
pub record HadRound (kind : SaveKind) (end : Call) (states : List (List ℕ × PartState)) (old new : List Told) : Type 0 where
  pub answers : ℕ → Option PartState
  pub calls : FirstsHad (λ place. Prepared kind (Ok tt) ∷ Saving kind (Ok (answers place)) ∷ end ∷ []) old new
  pub answered : states ≡ states_where (firsts old) answers old

-- all were prepared, and asking for states stopped at a place: those up to it were asked, and then all were rolled back
pub record HasStoppedAsking (kind : SaveKind) (fault : RoundFault) (old new : List Told) : Type 0 where
  pub at : ℕ
  pub answers : ℕ → Option PartState
  pub last : Result (Option PartState) PartFault
  pub first : slice_get (firsts old) at ≡ Some true
  pub calls : FirstsHad (λ place. by_place at
      (Prepared kind (Ok tt) ∷ Saving kind (Ok (answers place)) ∷ RolledBack ∷ [])
      (Prepared kind (Ok tt) ∷ Saving kind last ∷ RolledBack ∷ [])
      (Prepared kind (Ok tt) ∷ RolledBack ∷ []) place) old new
  pub cause : IsCause fault at last old new

-- a participant stopped it: each that was prepared was rolled back
abbrev pub HasStopped : SaveKind → RoundFault → List Told → List Told → Type 0
HasStopped kind fault old new = HasStoppedPreparing kind fault old new ⊎ HasStoppedAsking kind fault old new

-- the states that were answered were kept and written, with this result, and then each was told this end
abbrev pub WereWritten : SaveKind → Result (Unit {0}) WriteFault → Call → List Deed → List Told → List Told → Type 0
WereWritten kind result end deeds old new = (states : List (List ℕ × PartState)) × (deeds ≡ Keep states ∷ Write kind result ∷ []) × HadRound kind end states old new

-- nothing was kept or written, for want of memory, and each was rolled back
abbrev pub WereUnkept : SaveKind → List Deed → List Told → List Told → Type 0
WereUnkept kind deeds old new = (deeds ≡ []) × ((states : List (List ℕ × PartState)) × HadRound kind RolledBack states old new)

-- the host did this between the start and the end of a save that came to an answer, and this is what participants told before and after
abbrev pub CameTo : SaveKind → SaveAnswer → List Deed → List Told → List Told → Type 0
CameTo kind answer.Saved deeds old new = WereWritten kind (Ok tt) Done deeds old new
CameTo kind answer.SaveFailed deeds old new = WereWritten kind (Err write.Disk) RolledBack deeds old new
CameTo kind answer.SaveTooLarge deeds old new = WereWritten kind (Err write.TooLarge) RolledBack deeds old new
CameTo kind answer.SaveNumbers deeds old new = WereWritten kind (Err write.NumbersUsed) RolledBack deeds old new
CameTo kind (answer.ParticipantFailed name) deeds old new = (deeds ≡ []) × HasStopped kind (Failed name) old new
CameTo kind answer.NoMemory deeds old new = ((deeds ≡ []) × HasStopped kind Memory old new)
    ⊎ WereUnkept kind deeds old new
    ⊎ WereWritten kind (Err write.Memory) RolledBack deeds old new

-- a save ended so
pub record HasEnded (kind : SaveKind) (o : SaveAnswer) (b : List Deed) (old new : List Told) : Type 0 where
  pub deeds : List Deed
  pub came : CameTo kind o deeds old new
  pub book : b ≡ Start kind None ∷ (deeds ++ Finish o ∷ [])

-- what a save answers, what its host has then done, and what participants told before and after
abbrev pub IsAnswered : SaveKind → Saved → List Deed → List Told → List Told → Type 0
IsAnswered kind (Ended o) b old new = HasEnded kind o b old new
IsAnswered kind (Stopped n) b old new = (b ≡ Start kind (Some n) ∷ []) × (new ≡ old)
