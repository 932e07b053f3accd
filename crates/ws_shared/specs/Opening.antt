-- What participants have where a workspace isn't opened.
use Rattle.std.specs.Prelude.{◌≡◌, ◌⊎◌, List, Option, IfSome}
use Rattle.ws_outside.specs.declared.contents.Contents.{Contents}
use Rattle.res_path.specs.Paths.{Names}
use Rattle.ws_durable.specs.Saved.{Saved}
use Rattle.save_format.specs.Valid.{Valid}
use Rattle.save_store.specs.declared.faults.OpenFault.{OpenFault}
use Rattle.save_store.specs.declared.faults.OpenFault.TheVariants.{Memory}
use Rattle.save_store.specs.States.{Holds}
use Rattle.save_round.specs.Told.{Told}
use Rattle.save_round.specs.Restoring.{WereRestored}
use Rattle.ws_core.specs.Durables.{kept_since}
use Rattle.ws_core.specs.Opened.{opened_of}
use Rattle.ws_opening.specs.Restored.{HasStoppedOpening}

-- All participants got back what they keep in a state that both areas hold.
pub record HaveAllGot (seen : Option Contents) (builders : Names) (old new : List Told) : Type 0 where
  pub state : Saved
  pub valid : Valid state
  pub held : IfSome seen (λ both. Holds both state)
  pub got : WereRestored (kept_since (opened_of state builders)) old new

-- Memory wanted while they got it, or when all had got it.
abbrev pub HaveGot : Option Contents → Names → OpenFault → List Told → List Told → Type 0
HaveGot seen builders fault old new = (fault ≡ Memory) × (HasStoppedOpening seen builders old new ⊎ HaveAllGot seen builders old new)
