use Rattle.script_lang.proofs.Begun.{build_found, no_build}
use Rattle.script_lang.proofs.command.build_line.Goals as goal

pub returns-in-None : goal.returns-in-None
returns-in-None c = no_build c.args.rest.now (rw c.in-None.is at c.kind_and_scope.ensures)

pub returns-in-Some : goal.returns-in-Some
returns-in-Some c = build_found c.args.rest.now c.in-Some.kind c.in-Some.project (rw c.in-Some.is at c.kind_and_scope.ensures)
