use Rattle.proj_desc.proofs.Paths.{inside_is}
use Rattle.proj_desc.proofs.reading.check_inside.Goals as goal

pub returns-in-Ok-clause-form : goal.returns-in-Ok-clause-form
returns-in-Ok-clause-form c =
    inside_is c.args.project.now c.args.path.now c.args.base.now c.root-top.result c.requires.base.named c.requires.base.alone c.root-top.ensures
    c.requires.path c.requires.some (λ h. let never = c.in-Ok.ensures.too_deep.1 h in cc) (λ h. let never = c.in-Ok.ensures.too_long.1 h in cc)
