-- A rule that is ended.
use Rattle.std.specs.Prelude.{◌≡◌, ℕ, List, Some}
use Rattle.sched_rules.specs.declared.ws_atom.WsAtom.{WsAtom}
use Rattle.rule_table.specs.Tables.{last_rule}
use Rattle.rule_table.specs.declared.held.Held.{Held}
use Rattle.core_event.specs.declared.event.Event.{Event}
use Rattle.core_event.specs.declared.event.Event.TheVariants.{End}

-- the event ends the rule that the pass began last
pub record EndsLast (held : List (Held WsAtom)) (pass : ℕ) (event : Event) : Type 0 where
  pub rule : List WsAtom
  pub ends : event ≡ End rule
  pub last : last_rule pass held ≡ Some rule
