use Rattle.proj_desc.proofs.Paths.{cut_after_slash}
use Rattle.proj_desc.proofs.writing.inner_text.Goals as goal

pub range_from-requires : goal.range_from-requires
range_from-requires c = λ _. cut_after_slash c.args.path.now c.as_str.result.now c.as_str.ensures.text c.as_str.utf8
