-- Passes over participants.
use Rattle.std.specs.Prelude.{◌≡◌, ℕ, true, List, [], ◌∷◌, Option, Some, Result, Ok, Err, slice_get}
use Rattle.save_kind.specs.declared.kind.SaveKind.{SaveKind}
use Rattle.save_kind.specs.declared.state.PartState.{PartState}
use Rattle.save_round.specs.declared.participant.PartFault.{PartFault}
use Rattle.save_round.specs.declared.participant.PartFault.TheVariants.{Failed}
use Rattle.save_round.specs.declared.pass.Stop.{Stop}
use Rattle.save_round.specs.declared.pass.Ending.{Ending}
use Rattle.save_round.specs.declared.pass.Ending.TheVariants as ending
use Rattle.save_round.specs.Told.{Call, Told, Prepared, Saving, Done, RolledBack, HasRisenAt}
use Rattle.save_round.specs.Firsts.{FirstsHad, firsts, by_place}

-- the call by which a round ends
abbrev pub ending_call : Ending → Call
ending_call ending.Done = Done
ending_call ending.RolledBack = RolledBack

-- those before the place were prepared, and the one there answered the fault
pub record WerePrepared (kind : SaveKind) (stop : Stop) (old new : List Told) : Type 0 where
  pub first : slice_get (firsts old) stop.place ≡ Some true
  pub calls : FirstsHad (by_place stop.place (Prepared kind (Ok tt) ∷ []) (Prepared kind (Err stop.fault) ∷ []) []) old new
  pub failed : stop.fault ≡ Failed → HasRisenAt stop.place old new

-- those before the place and the one there were asked for their states, and failed only where it answered that
pub record WereAsked (kind : SaveKind) (stop : Stop) (old new : List Told) : Type 0 where
  pub answers : ℕ → Option PartState
  pub last : Result (Option PartState) PartFault
  pub first : slice_get (firsts old) stop.place ≡ Some true
  pub calls : FirstsHad (λ place. by_place stop.place (Saving kind (Ok (answers place)) ∷ []) (Saving kind last ∷ []) [] place) old new
  pub failed : stop.fault ≡ Failed → (last ≡ Err Failed) × HasRisenAt stop.place old new
