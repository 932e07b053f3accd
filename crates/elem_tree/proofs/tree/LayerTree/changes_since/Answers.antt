use Rattle.std.proofs.Common.{◌≤◌, sym, subst}
use Rattle.std.specs.Prelude.{IfOk, IfSome}
use Rattle.std.specs.FinMap as map
use Rattle.std.specs.Option.{option_copied}
use Rattle.layer_log.specs.Records.{Leads}
use Rattle.elem_tree.specs.Layers.{LayeredTree, from_mark, records, tree_at, tree_before}
use Rattle.elem_tree.specs.Inside.Shown.{IsCut, Rising, shown_all, with_current}
use Rattle.elem_tree.proofs.Marks.{rising_front}
use Rattle.elem_tree.proofs.Since.{if_ok, since_leads, since_most}
use Rattle.elem_tree.proofs.tree.LayerTree.changes_since.Goals as goal

pub layers_from-requires : goal.layers_from-requires
layers_from-requires c = subst Rising (sym c.as_slice.ensures.value) (rising_front c.self.inside.layers.items c.self.inside.current c.self.invariant.rising)

pub returns-clause-leads : goal.returns-clause-leads
returns-clause-leads c =
    subst (λ (v : LayeredTree). IfOk c.changes_of.result (λ x. IfSome (tree_at v c.args.mark) (λ t. Leads t x v.map))) c.self.view_is
    (if_ok c.changes_of.result c.changes_of.ensures.leads (λ x h.
    since_leads c.self.inside.newest.map x c.args.mark c.self.inside.layers.items c.layers_from.result.now c.self.inside.current
    (subst (λ ls. IsCut c.args.mark ls c.layers_from.result.now) c.as_slice.ensures.value c.layers_from.ensures) c.self.invariant.rising
    (subst (λ k. Leads (tree_before c.self.inside.newest.map (shown_all (with_current c.layers_from.result.now k))) x c.self.inside.newest.map) c.as_ref.ensures.value
    (subst (λ t. Leads (tree_before t.map (shown_all (with_current c.layers_from.result.now (option_copied c.as_ref.result)))) x t.map) c.elements.ensures h))))

pub returns-clause-most : goal.returns-clause-most
returns-clause-most c =
    subst (λ (v : LayeredTree). IfOk c.changes_of.result (λ x. IfSome (tree_at v c.args.mark) (λ _. map.len x ≤ records (from_mark c.args.mark v.layers)))) c.self.view_is
    (if_ok c.changes_of.result c.changes_of.ensures.most (λ x h.
    since_most c.self.inside.newest.map (map.len x) c.args.mark c.self.inside.layers.items c.layers_from.result.now c.self.inside.current
    (subst (λ ls. IsCut c.args.mark ls c.layers_from.result.now) c.as_slice.ensures.value c.layers_from.ensures) c.self.invariant.rising
    (subst (λ k. map.len x ≤ records (shown_all (with_current c.layers_from.result.now k))) c.as_ref.ensures.value h)))
