use Rattle.std.proofs.Common.{refl}
use Rattle.script_ops.proofs.Verbs.{no_file}
use Rattle.script_ops.proofs.operations.file.Goals as goal

pub returns-in-None : goal.returns-in-None
returns-in-None c = no_file c.args.kind.now c.args.rest.now c.requires (rw c.in-None.is at c.path_and_bytes.ensures)

pub returns-in-Some : goal.returns-in-Some
returns-in-Some c = ((refl, refl), (c.requires, rw c.in-Some.is at c.path_and_bytes.ensures))
