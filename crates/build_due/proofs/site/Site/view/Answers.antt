use Rattle.std.proofs.Common.{sym, subst}
use Rattle.std.specs.List.Sorted.{IsStrictlySortedBy}
use Rattle.std.specs.Map.{keys_of}
use Rattle.res_path.specs.Paths.{path_cmp}
use Rattle.build_due.proofs.Views.{seen_sorted, seen_is}
use Rattle.build_due.proofs.site.Site.view.Goals as goal

pub of-requires : goal.of-requires
of-requires g c = subst (λ fs. IsStrictlySortedBy path_cmp (keys_of fs)) (sym c.in_ok-files.ensures)
    (seen_sorted c.as_slice.result.now c.args.self.now.output (g.T.TreeRep.tree c.args.tree.now))

pub returns : goal.returns
returns g c = seen_is c.args.self.now.inputs c.as_slice.result.now c.args.self.now.output (g.T.TreeRep.tree c.args.tree.now) c.of.result c.in_ok-files.files.items
    c.as_slice.ensures c.in_ok-files.ensures c.of.ensures
