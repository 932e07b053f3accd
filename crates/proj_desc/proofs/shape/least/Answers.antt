use Rattle.std.proofs.Common.{◌∙◌}
use Rattle.proj_desc.proofs.Least.{least_is}
use Rattle.proj_desc.proofs.shape.least.Goals as goal

pub returns : goal.returns
returns c = c.least_by_one.ensures ∙ least_is c.args.names.now
