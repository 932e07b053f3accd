use Rattle.std_expand.proofs.Sound.{changes, problems, does}
use Rattle.std_expand.proofs.builder.ExpandBuilder.build.Goals as goal

pub returns-clause-lawful : goal.returns-clause-lawful
returns-clause-lawful c = does c.args.command.now c.args.handed.now c.in_ok-edits_of.field-0 c.in_ok-edits_of.ensures.files c.in_ok-edits_of.ensures.problems

pub returns-clause-changes : goal.returns-clause-changes
returns-clause-changes c = changes c.args.command.now c.args.handed.now c.in_ok-edits_of.field-0.files c.in_ok-edits_of.ensures.files

pub returns-clause-problems : goal.returns-clause-problems
returns-clause-problems c = problems c.args.command.now c.args.handed.now _ c.in_ok-edits_of.ensures.problems
