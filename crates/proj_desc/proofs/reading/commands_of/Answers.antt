use Rattle.std.proofs.lemmas.Result.{err_from_is_err_and}
use Rattle.res_path.specs.Names.{is_name}
use Rattle.proj_desc.specs.declared.cause.DescCause.TheVariants.{BadPath}
use Rattle.proj_desc.specs.Described.{command_of}
use Rattle.proj_desc.specs.Causes.{has_places}
use Rattle.proj_desc.proofs.Told.{told_of_values, true_of_values}
use Rattle.proj_desc.proofs.reading.commands_of.Goals as goal

pub returns-in_err-command_of-clause-bad : goal.returns-in_err-command_of-clause-bad
returns-in_err-command_of-clause-bad c =
    let p = err_from_is_err_and c.from_residual-in_err-command_of.result c.from_residual-in_err-command_of.ensures.1 in
    rw (p.1, p.2) (told_of_values (has_places c.args.project.now) command_of BadPath c.args.values.now c.loop-value.value-index c.value-item.result c.in_err-command_of.field-0.0
    c.loop-value-test.true c.value-item.is c.in_err-command_of.ensures.bad)

pub command_of-requires-clause-named : goal.command_of-requires-clause-named
command_of-requires-clause-named c =
    true_of_values (λ d. is_name d.builder) command_of c.args.values.now c.loop-value.value-index c.value-item.result c.loop-value-test.true c.value-item.is c.requires.named
