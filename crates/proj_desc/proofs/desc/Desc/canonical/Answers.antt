use Rattle.std.proofs.Common.{◌∙◌, sym}
use Rattle.proj_desc.proofs.desc.Desc.canonical.Goals as goal

pub returns-clause-back : goal.returns-clause-back
returns-clause-back c =
    let back = c.in_ok-text.ensures.back c.args.project.now c.in_ok-desc.ensures.sound in
    (back.0, back.1 ∙ sym c.in_ok-desc.ensures.ok)
