use Rattle.std_kit.proofs.Neighbours.{last_some, last_none}
use Rattle.std_kit.proofs.file_map.FileMap.last_until.Goals as goal

pub returns-in-Some : goal.returns-in-Some
returns-in-Some c = last_some c.self.inside.files c.args.self.now c.self.view_is c.args.path.now _ _ c.in-Some.last.now c.in-Some.field-0-1.now (c.range-until.ensures.in_range tt) c.in-Some.ensures.steps

pub returns-in-None : goal.returns-in-None
returns-in-None c = last_none c.self.inside.files c.args.self.now c.self.view_is c.args.path.now _ (c.range-until.ensures.in_range tt) c.in-None.ensures.steps.0
