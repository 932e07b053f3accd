-- What participants get back where a workspace is opened.
use Rattle.std.specs.Prelude.{List, [], ◌∷◌, Option, Some, None, IfSome}
use Rattle.std.specs.List.{flat_map}
use Rattle.ws_outside.specs.declared.contents.Contents.{Contents}
use Rattle.res_path.specs.Paths.{Names}
use Rattle.ws_durable.specs.Saved.{Saved}
use Rattle.save_format.specs.Valid.{Valid}
use Rattle.save_store.specs.States.{Holds}
use Rattle.save_round.specs.declared.restoring.KeptState.{KeptState}
use Rattle.save_round.specs.Told.{Told}
use Rattle.save_round.specs.Restoring.{HasStoppedRestoring, kept_for_each}
use Rattle.ws_core.specs.Durables.{kept_since}
use Rattle.ws_core.specs.Opened.{opened_of}
use Rattle.ws_opening.specs.declared.restoring.Restored.{Restored}

-- what is told of what is kept for a participant, if something is: its name, and what changed since then where it asked for
-- that
abbrev pub restored_one : Option KeptState → List Restored
restored_one None = []
restored_one (Some k) = record { name = k.name; delta = k.delta } ∷ []

-- what these participants get back: of each that is the first of its name and under whose name something is kept, in their
-- order
abbrev pub restored_of : List KeptState → List Told → List Restored
restored_of kept parts = flat_map restored_one (kept_for_each kept parts)

-- Memory wanted while participants got back what they keep in a state that both areas hold: those before the one that wanted
-- it got theirs, and no later one was called.
pub record HasStoppedOpening (seen : Option Contents) (builders : Names) (old new : List Told) : Type 0 where
  pub state : Saved
  pub valid : Valid state
  pub held : IfSome seen (λ both. Holds both state)
  pub stopped : HasStoppedRestoring (kept_since (opened_of state builders)) old new
