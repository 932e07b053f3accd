use Rattle.std.proofs.Common.{sym, ap, ◌∙◌}
use Rattle.std.specs.FinSet as set
use Rattle.res_path.specs.Paths.{path_cmp}
use Rattle.res_path.specs.PathLaws.{path_cmp_total}
use Rattle.res_path.proofs.Prefixes.{path_cmp_exact}
use Rattle.elem_tree.proofs.newest.Newest.make_room.Goals as goal

pub invariant_of-self-in_default : goal.invariant_of-self-in_default
invariant_of-self-in_default c =
    ap (set.from_list {R = path_cmp}) c.in_ok-push.ensures.items
    ∙ set.from_list_push path_cmp_total path_cmp_exact c.self.inside.roomy.items c.in_ok-copy.field-0
    ∙ (λ i. set.insert (c.self.invariant i) (c.in_ok-copy.ensures i))
    ∙ sym c.in_default.ensures.ok
