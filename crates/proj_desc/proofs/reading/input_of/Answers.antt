use Rattle.std.proofs.Common.{◌∙◌, sym}
use Rattle.proj_desc.proofs.Paths.{other_placed}
use Rattle.proj_desc.proofs.reading.input_of.Goals as goal

pub returns-in_ok-path_of-clause-form : goal.returns-in_ok-path_of-clause-form
returns-in_ok-path_of-clause-form c =
    other_placed c.args.project.now c.args.text.now (sym c.begins_with_slash.ensures ∙ c.if-begins_with_slash.true) c.in_ok-path_of.ensures.form
