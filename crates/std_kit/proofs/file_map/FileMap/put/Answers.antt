use Rattle.std.proofs.Common.{ap, ◌∙◌}
use Rattle.std.specs.FinMap as map
use Rattle.ws_elem.proofs.Ordered.{one_put}
use Rattle.std_kit.proofs.file_map.FileMap.put.Goals as goal

pub returns-clause-ok : goal.returns-clause-ok
returns-clause-ok c = one_put c.self.inside.files.entries c.insert.new.self.entries c.args.path c.args.bytes c.in_ok-insert.ensures.updates.0 ∙ ap (λ m. map.insert m c.args.path c.args.bytes) c.self.view_is
