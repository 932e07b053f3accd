use Rattle.std.proofs.Common.{◌≡◌, ◌++◌, take}
use Rattle.std.specs.Prelude.{codes}
use Rattle.std.specs.List.{flat_map}
use Rattle.report_text.specs.Rules.{atom_words}
use Rattle.report_text.proofs.rule_text.put_others.Given as goal

-- the atoms so far, a space before each
abbrev pub invariant-loop-atom : goal.invariant-loop-atom
invariant-loop-atom l = l.out.items ≡ l.fn.out.items ++ flat_map (λ other. codes " " ++ atom_words other) (take l.atom-index l.atoms)
