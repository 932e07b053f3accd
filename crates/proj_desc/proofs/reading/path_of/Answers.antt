use Rattle.std.proofs.Common.{◌∙◌, sym, ap, not, length}
use Rattle.proj_desc.specs.declared.cause.DescCause.TheVariants.{BadPath}
use Rattle.proj_desc.specs.FirstCause.{when}
use Rattle.proj_desc.proofs.Paths.{read_path, root_text, told_fault}
use Rattle.proj_desc.proofs.reading.path_of.Goals as goal

pub returns-in-Ok-clause-bad : goal.returns-in-Ok-clause-bad
returns-in-Ok-clause-bad c =
    let root = root_text c.args.text.now c.requires (sym c.if-as_str-eq1.true ∙ ap length (c.as_str.ensures.text ∙ c.in-Ok.ensures.ok)) in
    ap (λ b. when (not b) BadPath) root

pub returns-in-Ok-2 : goal.returns-in-Ok-2
returns-in-Ok-2 c =
    let read = read_path c.in-Ok.path c.args.text.now c.as_str.ensures.form c.in-Ok.ensures.ok
    (λ e. c.if-as_str-eq1.false (ap length (c.as_str.ensures.text ∙ c.in-Ok.ensures.ok) ∙ sym e)) in
    record { ok = read.0; form = read.1; bad = tt }

pub returns-in-Err-clause-bad : goal.returns-in-Err-clause-bad
returns-in-Err-clause-bad c = rw c.told.ensures (told_fault c.args.text.now c.in-Err.error c.requires c.in-Err.ensures.only)
