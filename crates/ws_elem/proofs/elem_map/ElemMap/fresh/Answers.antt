use Rattle.std.proofs.Common.{sym, subst, ◌∙◌}
use Rattle.std.specs.FinMap as map
use Rattle.ws_elem.specs.Trees.{Whole}
use Rattle.ws_elem.proofs.Fresh.{whole-fresh_tree}
use Rattle.ws_elem.proofs.elem_map.ElemMap.fresh.Goals as goal

pub returns-clause-whole : goal.returns-clause-whole
returns-clause-whole c = subst Whole (sym (c.in_ok-put.ensures.ok ∙ (λ i. map.insert (c.empty-tree.ensures.map i) (c.root.ensures i) (c.bare.ensures i)))) whole-fresh_tree
