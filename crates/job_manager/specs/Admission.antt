-- Which scheduling rules a pass may have.
use Rattle.std.specs.Prelude.{ℕ, if◌then◌else◌, List, Option, Some, None}
use Rattle.std.specs.Option.{option_map}
use Rattle.sched_rules.specs.Atoms.{atom_contains, atom_conflicts}
use Rattle.sched_rules.specs.Rules.{rule_contains}
use Rattle.sched_rules.specs.declared.ws_atom.WsAtom.{WsAtom}
use Rattle.rule_table.specs.Tables.{outer_rule, first_conflict}
use Rattle.rule_table.specs.declared.held.Held.{Held}
use Rattle.core_event.specs.declared.reply.Refusal.{Refusal}
use Rattle.core_event.specs.declared.reply.Refusal.TheVariants.{Conflict, NotContained}

abbrev pub conflict_with : Held WsAtom → Refusal
conflict_with held = Conflict held.holder held.rule

-- why a rule is refused where this is the topmost of its pass that isn't null, or where the pass has none such
abbrev pub refused_under : Option (List WsAtom) → List (Held WsAtom) → List WsAtom → Option Refusal
refused_under (Some outer) all rule = if rule_contains atom_contains outer rule then None else Some (NotContained outer)
refused_under None all rule = option_map conflict_with (first_conflict atom_conflicts all rule)

-- Why a pass may not have this rule, if it may not: its topmost rule that isn't null doesn't contain it, or, where it
-- has none such, another pass has a rule that conflicts.
abbrev pub admission : List (Held WsAtom) → ℕ → List WsAtom → Option Refusal
admission held pass rule = refused_under (outer_rule pass held) held rule
