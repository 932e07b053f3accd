-- Which state is opened, and the workspace that is opened from it.
use Rattle.std.specs.Prelude.{List, map, Option, Some, None}
use Rattle.ws_durable.specs.declared.durable.Durable.{Durable}
use Rattle.ws_durable.specs.Saved.{Saved, saved}
use Rattle.save_store.specs.States.{fresh}
use Rattle.builder_api.specs.Told.{Told}
use Rattle.ws_core.specs.Opened.{opened_of}
use Rattle.ws_core.specs.States.{Moment}

-- the state that was opened; where none was, that of the fresh workspace stands in its place, on which nothing is done
abbrev pub kept_state : Option Durable → Saved
kept_state None = fresh
kept_state (Some d) = saved d

-- the workspace that is opened from what was kept, with builders of these names
abbrev pub opened_state : Option Durable → List Told → Moment
opened_state kept told = opened_of (kept_state kept) (map (λ b. b.named) told)
