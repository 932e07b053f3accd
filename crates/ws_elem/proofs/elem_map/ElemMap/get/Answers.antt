use Rattle.std.proofs.Common.{ap, sym, ◌∙◌}
use Rattle.std.specs.Option.{option_flatten}
use Rattle.std.specs.FinMap as map
use Rattle.ws_elem.proofs.Kept.{get-tree_of}
use Rattle.ws_elem.proofs.elem_map.ElemMap.get.Goals as goal

pub returns : goal.returns
returns c = c.element_in.ensures ∙ ap option_flatten c.get.ensures.value ∙ sym (get-tree_of c.self.inside.slots.entries c.args.path.now) ∙ ap (λ m. map.get m.map c.args.path.now) c.self.view_is
