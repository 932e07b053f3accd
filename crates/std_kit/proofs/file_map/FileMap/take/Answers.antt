use Rattle.std.proofs.Common.{ap, sym, ◌∙◌}
use Rattle.std.specs.FinMap as map
use Rattle.ws_elem.proofs.Ordered.{get_is, one_taken}
use Rattle.std_kit.proofs.file_map.FileMap.take.Goals as goal

pub returns-clause-before : goal.returns-clause-before
returns-clause-before c = c.remove.ensures.value ∙ sym (get_is c.self.inside.files.entries c.args.path.now) ∙ ap (λ m. map.get m c.args.path.now) c.self.view_is

pub returns-clause-removed : goal.returns-clause-removed
returns-clause-removed c = one_taken c.self.inside.files.entries c.remove.new.self.entries c.args.path.now c.remove.ensures.updates.0 ∙ ap (λ m. map.remove m c.args.path.now) c.self.view_is
