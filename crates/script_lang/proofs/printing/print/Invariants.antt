use Rattle.std.proofs.Common.{◌≡◌, take}
use Rattle.std.specs.List.{flat_map, AllByRecursion}
use Rattle.script_lang.specs.Scripts.{phase_lines, HasOwnNames, ended}
use Rattle.script_lang.specs.Inside.Printed.{AreLines}
use Rattle.script_lang.proofs.printing.print.Given as goal

abbrev pub invariant-loop-phase : goal.invariant-loop-phase
invariant-loop-phase l = record {
  text : l.out.items ≡ flat_map (λ phase. ended (phase_lines phase)) (take l.phase-index l.phase-items);
  parts : AllByRecursion (λ phase. AreLines (phase_lines phase)) (take l.phase-index l.phase-items);
  names : AllByRecursion HasOwnNames (take l.phase-index l.phase-items);
}
