use Rattle.std.proofs.Common.{◌∙◌, ap, not, ◌<◌, length, arith}
use Rattle.proj_desc.proofs.Paths.{in_none}
use Rattle.proj_desc.proofs.rules.lies_in_none.Goals as goal

pub returns : goal.returns
returns c =
    let some : 0 < length c.args.path.now = omega arith in
    ap not c.has_name.ensures
    ∙ in_none c.args.projects.now c.args.path.now c.first_part-first.ensures.0 c.first_part-first.result.now c.as_bytes.result.now
    c.inner_text.ensures.form some (c.as_bytes.ensures.value ∙ c.inner_text.ensures.text) c.first_part-first.ensures.1
