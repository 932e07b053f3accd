use Rattle.std.proofs.Common.{◌∙◌, sym, ap, length}
use Rattle.proj_desc.proofs.Paths.{read_path}
use Rattle.built_read.proofs.commands.path_of.Goals as goal

pub returns-in-Ok-2 : goal.returns-in-Ok-2
returns-in-Ok-2 c =
    (read_path c.in-Ok.path c.args.text.now c.as_str.ensures.form c.in-Ok.ensures.ok
    (λ e. c.if-as_str-eq1.false (ap length (c.as_str.ensures.text ∙ c.in-Ok.ensures.ok) ∙ sym e))).0
