use Rattle.std.proofs.Common.{◌∙◌}
use Rattle.serde_json.specs.View.{view}
use Rattle.proj_desc.specs.Described.{command_of}
use Rattle.proj_desc.proofs.Alone.{cause_of}
use Rattle.proj_desc.proofs.command.command_of.Goals as goal

pub returns-in-Some-clause-bad : goal.returns-in-Some-clause-bad
returns-in-Some-clause-bad c =
    let read = c.in_ok-command.ensures in
    cause_of c.args.project.now c.in_ok-base.base c.in_ok-command.command (command_of (view c.args.value.now)) c.command_cause.result c.in_ok-base.ensures read.ok read.valid c.command_cause.ensures
    ∙ c.in-Some.is

pub returns-clause-valid : goal.returns-clause-valid
returns-clause-valid c =
    let read = c.in_ok-command.ensures in
    cause_of c.args.project.now c.in_ok-base.base c.in_ok-command.command (command_of (view c.args.value.now)) c.command_cause.result c.in_ok-base.ensures read.ok read.valid c.command_cause.ensures
    ∙ c.in-None.is
