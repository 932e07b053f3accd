use Rattle.std.proofs.Common.{◌∙◌}
use Rattle.std_kit.proofs.Neighbours.{under_some, under_none}
use Rattle.std_kit.proofs.file_map.FileMap.is_under_one.Goals as goal

pub returns-in-Some : goal.returns-in-Some
returns-in-Some c = c.is_prefix_of.ensures ∙ under_some c.args.self.now c.requires c.args.path.now c.in-Some.last.now c.in-Some.ensures

pub returns-in-None : goal.returns-in-None
returns-in-None c = under_none c.args.self.now c.args.path.now c.in-None.ensures
