use Rattle.std.proofs.Common.{◌≡◌, List, length}
use Rattle.std.specs.List.{flat_map}
use Rattle.sched_rules.specs.declared.ws_atom.WsAtom.{WsAtom}
use Rattle.script_parts.specs.Parts.{atom_parts, rule_read}
use Rattle.script_parts.specs.Inside.Found.{FitsFront}
use Rattle.script_parts.proofs.rules.rule_of_atoms.Given as goal

abbrev pub invariant-loop-rest : goal.invariant-loop-rest
invariant-loop-rest l = (atoms : List WsAtom) × (rule_read atoms ≡ l.rule) × FitsFront l.tokens (flat_map atom_parts atoms) l.rest

abbrev pub decreases-loop-rest : goal.decreases-loop-rest
decreases-loop-rest l = length l.rest
