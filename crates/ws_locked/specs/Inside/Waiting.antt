-- Whether a pass may have the services, but for another that has them.
use Rattle.std.specs.Prelude.{ℕ, Bool, true, List, [], unwrap_or}
use Rattle.sched_rules.specs.Atoms.{atom_contains}
use Rattle.sched_rules.specs.Rules.{rule_contains}
use Rattle.sched_rules.specs.declared.ws_atom.WsAtom.{WsAtom}
use Rattle.rule_table.specs.Tables.{outer_rule}
use Rattle.rule_table.specs.declared.held.Held.{Held}
use Rattle.core_event.specs.declared.service.Purpose.{Purpose}
use Rattle.core_event.specs.declared.service.Purpose.TheVariants.{Build, Save}
use Rattle.service_desk.specs.Refusals.{root_rule}

-- to build it needs a rule that contains the root, and to save none
abbrev pub has_rule : List (Held WsAtom) → ℕ → Purpose → Bool
has_rule held pass (Build kind scope) = rule_contains atom_contains (unwrap_or (outer_rule pass held) []) root_rule
has_rule held pass (Save kind) = true
