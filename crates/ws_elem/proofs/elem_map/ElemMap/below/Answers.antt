use Rattle.std.proofs.Common.{◌≡◌, ap, sym, ◌∙◌}
use Rattle.std.specs.Prelude.{filter}
use Rattle.std.specs.BTreeMap.Range.{range_contains}
use Rattle.std.specs.declared.ops.Bound.TheVariants.{Included, Unbounded}
use Rattle.std.proofs.lemmas.Result.{IfOk-weaker}
use Rattle.res_path.specs.Paths.{path_cmp, is_prefix}
use Rattle.ws_elem.specs.Inside.Slots.{filled}
use Rattle.ws_elem.specs.Trees.{paths_below}
use Rattle.ws_elem.proofs.Cuts.{below_is}
use Rattle.ws_elem.proofs.Filled.{sorted_filled, keys-tree_of, filled_filter}
use Rattle.ws_elem.proofs.elem_map.ElemMap.below.Goals as goal

pub returns : goal.returns
returns c = IfOk-weaker c.first_below.result _ (λ paths. paths.items ≡ paths_below c.args.self.now.map c.args.path.now) (λ paths is.
    is ∙ below_is c.args.path.now (filled c.self.inside.slots.entries) c.of.result (sorted_filled c.self.inside.slots.entries c.range.ensures.ordered)
    (c.of.ensures ∙ ap filled (c.range.ensures.between tt) ∙ filled_filter (range_contains path_cmp (Included c.args.path.now) Unbounded) c.self.inside.slots.entries)
    ∙ ap (filter (is_prefix c.args.path.now)) (sym (keys-tree_of c.self.inside.slots.entries c.range.ensures.ordered))
    ∙ ap (λ m. paths_below m.map c.args.path.now) c.self.view_is) c.first_below.ensures
