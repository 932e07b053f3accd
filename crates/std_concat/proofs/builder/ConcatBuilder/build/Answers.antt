use Rattle.std.proofs.Common.{inl, inr}
use Rattle.std_concat.proofs.Sound.{changes, does}
use Rattle.std_concat.proofs.builder.ConcatBuilder.build.Goals as goal

pub returns-then-is_idle-clause-lawful : goal.returns-then-is_idle-clause-lawful
returns-then-is_idle-clause-lawful c =
    does c.args.command.now c.args.handed.now c.no_edits.result (inr (c.is_idle.ensures c.if-is_idle.true, c.no_edits.ensures.files)) c.no_edits.ensures.problems

pub returns-then-is_idle-clause-changes : goal.returns-then-is_idle-clause-changes
returns-then-is_idle-clause-changes c =
    changes c.args.command.now c.args.handed.now c.no_edits.result.files (inr (c.is_idle.ensures c.if-is_idle.true, c.no_edits.ensures.files))

pub returns-clause-lawful : goal.returns-clause-lawful
returns-clause-lawful c = does c.args.command.now c.args.handed.now c.in_ok-edits_of.field-0 (inl c.in_ok-edits_of.ensures.files) c.in_ok-edits_of.ensures.problems

pub returns-clause-changes : goal.returns-clause-changes
returns-clause-changes c = changes c.args.command.now c.args.handed.now c.in_ok-edits_of.field-0.files (inl c.in_ok-edits_of.ensures.files)
