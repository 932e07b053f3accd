use Rattle.std.proofs.Common.{subst}
use Rattle.std.specs.Prelude.{IfSome, IsSomeAnd}
use Rattle.std_copy.specs.Inside.Shortcuts.{AreTold}
use Rattle.std_copy.proofs.Laws.{does_copy, changes_copy, does_told, changes_told}
use Rattle.std_copy.proofs.builder.CopyBuilder.build.Goals as goal

pub returns-in-Some-clause-lawful : goal.returns-in-Some-clause-lawful
returns-in-Some-clause-lawful c = does_told c.args.command.now c.args.handed.now c.in-Some.edits
    (subst (λ found. IfSome found (λ edits. IsSomeAnd c.args.handed.now.delta (λ nodes. AreTold nodes c.args.handed.now edits))) c.in-Some.is c.in_ok-edits.ensures)

pub returns-in-Some-clause-changes : goal.returns-in-Some-clause-changes
returns-in-Some-clause-changes c = changes_told c.args.command.now c.args.handed.now c.in-Some.edits
    (subst (λ found. IfSome found (λ edits. IsSomeAnd c.args.handed.now.delta (λ nodes. AreTold nodes c.args.handed.now edits))) c.in-Some.is c.in_ok-edits.ensures)

pub returns-in_ok-all_edits-in-None-clause-lawful : goal.returns-in_ok-all_edits-in-None-clause-lawful
returns-in_ok-all_edits-in-None-clause-lawful c =
    does_copy c.args.command.now c.args.handed.now c.in_ok-all_edits-in-None.field-0 c.in_ok-all_edits-in-None.ensures.files c.in_ok-all_edits-in-None.ensures.problems

pub returns-in_ok-all_edits-in-None-clause-changes : goal.returns-in_ok-all_edits-in-None-clause-changes
returns-in_ok-all_edits-in-None-clause-changes c = changes_copy c.args.command.now c.args.handed.now c.in_ok-all_edits-in-None.field-0 c.in_ok-all_edits-in-None.ensures.files
