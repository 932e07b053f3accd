use Rattle.std.proofs.Common.{◌≡◌, drop}
use Rattle.proj_desc.specs.Causes.{inputs_from}
use Rattle.proj_desc.proofs.rules.first_inputs.Given as goal

-- what is left decides
abbrev pub invariant-loop-i : goal.invariant-loop-i
invariant-loop-i l = inputs_from l.i (drop l.i l.commands) ≡ inputs_from 0 l.commands
