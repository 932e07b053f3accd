-- What a pass's save leaves.
use Rattle.std.specs.Prelude.{◌≡◌, List, [], ◌∷◌, ◌++◌, Result, IfOk, OnErr}
use Rattle.std.specs.declared.alloc.AllocError.{AllocError}
use Rattle.save_kind.specs.declared.answer.SaveAnswer.{SaveAnswer}
use Rattle.save_kind.specs.declared.kind.SaveKind.{SaveKind}
use Rattle.save_run.specs.declared.command.Saved.TheVariants.{Ended}
use Rattle.core_event.specs.declared.entry.Entry.{Entry}
use Rattle.save_history.specs.Causes.{MayEndSo}
use Rattle.save_history.specs.Kept.{points_at}
use Rattle.save_history.specs.Saves.{IsDone, IsSaveOf, ending}
use Rattle.ws_turn.specs.Lists.{StartsWith}
use Rattle.pass_turns.specs.Turns.{IsFaithful, Knows}
use Rattle.ws_locked.specs.Fits.{session}
use Rattle.ws_locked.specs.Halls.{state_in}
use Rattle.ws_locked.specs.declared.services.Opening.{Opening}
use Rattle.ws_shared.specs.Calls.{legal_from, pass_of}

-- The save ended so: its entries are the last that the pass has made, in order, and its end is the last entry that it has seen.
-- It ended as too large, or for want of a number, only where that is so of its point, the newest in what the pass has seen.
-- Where memory wanted before it began the pass has made nothing.
pub record WasSaved {D B P : Type 0} (kind : SaveKind) (o : Opening D B P) (answer : Result SaveAnswer AllocError) (k k' : Knows Entry) : Type 0 where
  pub begins : StartsWith k'.seen k.seen
  pub number : k'.number ≡ k.number
  pub lost : k'.lost ≡ k.lost
  pub made : IfOk answer (λ a. (entries : List Entry) × (k'.mine ≡ k.mine ++ entries) × IsSaveOf k.number kind (Ended a) entries)
  pub ends : IfOk answer (λ a. (before : List Entry) × (x : Entry) × (k'.seen ≡ before ++ x ∷ []) × IsDone k.number (ending a) x)
  pub reason : IfOk answer (λ a. MayEndSo a (points_at (session (state_in o) k'.seen) o.keeper.value) o.keeper.value.began.areas.top)
  pub nothing : OnErr answer (k'.mine ≡ k.mine)
  pub legal_seen : legal_from o k'.seen
  pub faithful : IsFaithful pass_of k'
