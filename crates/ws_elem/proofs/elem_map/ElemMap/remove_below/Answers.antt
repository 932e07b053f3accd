use Rattle.std.proofs.Common.{ap, ◌∙◌}
use Rattle.ws_elem.specs.Inside.Walks.{without_all}
use Rattle.ws_elem.proofs.Cuts.{without_is}
use Rattle.ws_elem.proofs.elem_map.ElemMap.remove_below.Goals as goal

pub returns-clause-ok : goal.returns-clause-ok
returns-clause-ok c =
    c.take_all.ensures.map ∙ ap (without_all c.args.self.now.map) (c.as_slice.ensures.value ∙ c.in_ok-paths.ensures)
    ∙ without_is c.args.self.now.map c.args.path.now
