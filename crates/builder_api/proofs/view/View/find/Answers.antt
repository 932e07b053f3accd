use Rattle.std.proofs.Common.{sym, ap, ◌∙◌}
use Rattle.std.specs.FinMap.{get, find, get-from_entries}
use Rattle.res_path.specs.Paths.{path_cmp}
use Rattle.res_path.specs.PathLaws.{path_cmp_total}
use Rattle.builder_api.proofs.view.View.find.Goals as goal

pub returns : goal.returns
returns c = c.find_among.ensures ∙ ap (find path_cmp c.args.path.now) c.as_slice.ensures.value ∙ sym (get-from_entries path_cmp_total c.self.inside.files.items c.args.path.now) ∙ ap (λ m. get m c.args.path.now) c.self.view_is
