use Rattle.std_kit.proofs.Neighbours.{first_some, first_none}
use Rattle.std_kit.proofs.file_map.FileMap.first_from.Goals as goal

pub returns-in-Some : goal.returns-in-Some
returns-in-Some c = first_some c.self.inside.files c.args.self.now c.self.view_is c.args.path.now _ _ c.in-Some.first.now c.in-Some.field-0-1.now (c.range-from.ensures.in_range tt) c.in-Some.ensures.steps

pub returns-in-None : goal.returns-in-None
returns-in-None c = first_none c.self.inside.files c.args.self.now c.self.view_is c.args.path.now _ (c.range-from.ensures.in_range tt) c.in-None.ensures.steps.0
