use Rattle.std.proofs.Common.{ap, sym, ◌∙◌, is_lt}
use Rattle.std.specs.Prelude.{find}
use Rattle.std.specs.BTreeMap.Range.{range_contains}
use Rattle.std.specs.declared.ops.Bound.TheVariants.{Excluded, Unbounded}
use Rattle.res_path.specs.Paths.{path_cmp}
use Rattle.ws_elem.specs.Inside.Slots.{filled}
use Rattle.ws_elem.specs.Trees.{entry_after}
use Rattle.ws_elem.proofs.Cuts.{next_is}
use Rattle.ws_elem.proofs.Filled.{entries-tree_of, filled_filter}
use Rattle.ws_elem.proofs.elem_map.ElemMap.next.Goals as goal

pub returns : goal.returns
returns c =
    next_is c.args.after.now (filled c.self.inside.slots.entries) c.of.result c.next.result c.next.new.self
    (c.of.ensures ∙ ap filled (c.range-above.ensures.between tt) ∙ filled_filter (range_contains path_cmp (Excluded c.args.after.now) Unbounded) c.self.inside.slots.entries)
    c.next.ensures.steps
    ∙ ap (find (λ e. is_lt (path_cmp c.args.after.now e.0))) (sym (entries-tree_of c.self.inside.slots.entries c.range-above.ensures.ordered))
    ∙ ap (λ m. entry_after m.map c.args.after.now) c.self.view_is
