use Rattle.std.proofs.Common.{◌≡◌, ◌++◌, ◌∷◌, [], take}
use Rattle.std.specs.List.{flat_map, AllByRecursion}
use Rattle.script_lang.specs.declared.line.Line.TheVariants.{InJob}
use Rattle.script_lang.specs.Scripts.{line_text}
use Rattle.script_lang.specs.Inside.Printed.{IsLine}
use Rattle.script_lang.proofs.printing.put_job.Given as goal

abbrev pub invariant-loop-command : goal.invariant-loop-command
invariant-loop-command l = record {
  text : l.out.items ≡ l.initial.out.items ++ flat_map (λ command. line_text (InJob command) ++ 10 ∷ []) (take l.command-index l.command-items);
  parts : AllByRecursion (λ command. IsLine (InJob command)) (take l.command-index l.command-items);
}
