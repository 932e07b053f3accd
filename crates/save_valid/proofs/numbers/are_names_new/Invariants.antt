use Rattle.std.proofs.Common.{◌↔◌, drop}
use Rattle.save_valid.specs.Inside.Fresh.{Fresh}
use Rattle.save_valid.proofs.numbers.are_names_new.Given as goal

-- what is left decides
abbrev pub invariant-loop-name : goal.invariant-loop-name
invariant-loop-name l = Fresh l.seen (drop l.name-index l.names) ↔ Fresh l.initial.seen l.names
