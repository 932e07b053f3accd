use Rattle.std.proofs.Common.{◌≡◌, drop}
use Rattle.proj_desc.specs.Causes.{outputs_from}
use Rattle.proj_desc.proofs.rules.first_outputs.Given as goal

-- what is left decides
abbrev pub invariant-loop-i : goal.invariant-loop-i
invariant-loop-i l = outputs_from l.i (drop l.i l.commands) ≡ outputs_from 0 l.commands
