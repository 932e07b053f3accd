use Rattle.std.proofs.Common.{sym, subst}
use Rattle.std_kit.specs.Placed.{AreMade}
use Rattle.std_kit.proofs.Placing.{empty_made}
use Rattle.std_kit.proofs.made_files.MadeFiles.empty.Goals as goal

pub invariant_of-result : goal.invariant_of-result
invariant_of-result c = subst AreMade (sym c.empty.ensures) empty_made
