use Rattle.std_kit.proofs.Popped.{popped}
use Rattle.std_kit.proofs.file_map.FileMap.take_first.Goals as goal

pub returns : goal.returns
returns c =
    popped c.self.inside.files.entries c.pop_first.new.self.entries c.args.self.now c.pop_first.result c.self.view_is c.pop_first.ensures.variant c.pop_first.ensures.removal
    c.pop_first.ensures.all_above c.pop_first.ensures.ordered
