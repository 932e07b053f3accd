use Rattle.std.specs.Cmp.Lexicographic.{nat_list_cmp_total}
use Rattle.std.specs.FinMap.{slice_cmp-IsAntisymmetric, nat_cmp-IsAntisymmetric}
use Rattle.mark_set.proofs.Sorted.{put_keeps, put_answers}
use Rattle.mark_set.proofs.attrs.Attrs.put.Goals as goal

pub invariant_of-self : goal.invariant_of-self
invariant_of-self c =
    put_keeps nat_list_cmp_total (slice_cmp-IsAntisymmetric nat_cmp-IsAntisymmetric) c.put.result c.self.inside.values.items c.put.new.values.items c.args.name c.args.value c.self.invariant c.put.ensures.ok c.put.ensures.err

pub returns-clause-ok : goal.returns-clause-ok
returns-clause-ok c =
    rw (← c.self.view_is)
    (put_answers nat_list_cmp_total (slice_cmp-IsAntisymmetric nat_cmp-IsAntisymmetric) c.put.result c.self.inside.values.items c.put.new.values.items c.args.name c.args.value c.self.invariant c.put.ensures.ok)
