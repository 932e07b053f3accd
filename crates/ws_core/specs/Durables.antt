-- What of a workspace lasts over a save, and what its participants get when a session begins.
use Rattle.std.specs.Prelude.{List}
use Rattle.save_round.specs.declared.restoring.KeptState.{KeptState}
use Rattle.ws_durable.specs.Saved.{Saved}
use Rattle.ws_lasting.specs.Saved.{lasting_of}
use Rattle.ws_content.specs.Saves as content
use Rattle.ws_core.specs.States.{Moment}

-- what lasts over a save: the resources, what was built last and what participants keep, all without transient markers; no
-- job, no pass and no rule, nothing of a save under way, and not what was told
abbrev pub durable_of : Moment → Saved
durable_of s = lasting_of s.resources s.remembered.built s.remembered.kept

-- what participants kept, as a session that begins has it: in the order of their names, each with what changed since then
-- where it asked for that
abbrev pub kept_since : Moment → List KeptState
kept_since s = content.kept_since s.remembered s.resources.tree
