use Rattle.std.proofs.Common.{sym, ap, subst, ◌∙◌}
use Rattle.std.specs.List.{list_any}
use Rattle.res_path.specs.Paths.{is_prefix}
use Rattle.delta_kind.specs.Deltas.{cut, InPathOrder, paths_of}
use Rattle.delta_kind.proofs.Found.{kept_order}
use Rattle.delta_kind.proofs.delta.Delta.under.Goals as goal

pub invariant_of-result : goal.invariant_of-result
invariant_of-result c =
    subst (λ nodes. InPathOrder (paths_of nodes)) (sym (c.in_ok-nodes.ensures ∙ ap (cut c.args.prefixes.now) c.as_slice.ensures.value))
    (kept_order (λ node. list_any (λ prefix. is_prefix prefix node.path) c.args.prefixes.now) c.self.inside.nodes.items c.self.invariant)
