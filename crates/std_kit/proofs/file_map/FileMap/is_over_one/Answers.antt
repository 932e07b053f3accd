use Rattle.std.proofs.Common.{◌∙◌}
use Rattle.std_kit.proofs.Neighbours.{over_some, over_none}
use Rattle.std_kit.proofs.file_map.FileMap.is_over_one.Goals as goal

pub returns-in-Some : goal.returns-in-Some
returns-in-Some c = c.is_prefix_of.ensures ∙ over_some c.args.self.now c.args.path.now c.in-Some.first.now c.in-Some.ensures

pub returns-in-None : goal.returns-in-None
returns-in-None c = over_none c.args.self.now c.args.path.now c.in-None.ensures
