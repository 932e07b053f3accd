use Rattle.std.proofs.Common.{ap, sym, ◌∙◌}
use Rattle.std.specs.FinMap as map
use Rattle.ws_elem.specs.Inside.Slots.{filled}
use Rattle.ws_elem.proofs.Filled.{entries-tree_of, filter_all}
use Rattle.ws_elem.proofs.elem_map.ElemMap.iter.Goals as goal

pub returns : goal.returns
returns c =
    c.of.ensures ∙ ap filled (c.range.ensures.between tt ∙ filter_all c.self.inside.slots.entries)
    ∙ sym (entries-tree_of c.self.inside.slots.entries c.range.ensures.ordered) ∙ ap (λ m. map.entries m.map) c.self.view_is
