use Rattle.std.proofs.Common.{take}
use Rattle.save_build.specs.Told.{AreNames}
use Rattle.save_build.proofs.records.names_of.Given as goal

-- the names of the texts so far
abbrev pub invariant-loop-text : goal.invariant-loop-text
invariant-loop-text l = AreNames (take l.text-index l.texts) l.names.items
