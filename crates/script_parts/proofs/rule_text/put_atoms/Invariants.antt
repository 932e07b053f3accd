use Rattle.std.proofs.Common.{◌≡◌, ◌++◌, take}
use Rattle.std.specs.List.{flat_map, AllByRecursion}
use Rattle.script_words.specs.Words.{Grows}
use Rattle.script_parts.specs.Parts.{atom_parts}
use Rattle.script_parts.specs.RuleLines.{HasLines}
use Rattle.script_parts.specs.Inside.Printed.{AreParts, spaced}
use Rattle.script_parts.proofs.rule_text.put_atoms.Given as goal

abbrev pub invariant-loop-atom : goal.invariant-loop-atom
invariant-loop-atom l = record {
  text : l.out.items ≡ l.fn.out.items ++ flat_map (λ atom. spaced (atom_parts atom)) (take l.atom-index l.atoms);
  kept : Grows l.fn.out.items l.out.items;
  parts : AllByRecursion (λ atom. HasLines atom → AreParts (atom_parts atom)) (take l.atom-index l.atoms);
}
