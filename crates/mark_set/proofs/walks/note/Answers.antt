use Rattle.std.specs.Cmp.{nat_cmp_total}
use Rattle.std.specs.FinMap.{nat_cmp-IsAntisymmetric}
use Rattle.mark_set.proofs.Maps.{one_put}
use Rattle.mark_set.proofs.walks.note.Goals as goal

pub returns-in_ok-insert-in-Some : goal.returns-in_ok-insert-in-Some
returns-in_ok-insert-in-Some c = rw c.in-Some.is (one_put nat_cmp_total nat_cmp-IsAntisymmetric c.args.found.now.entries c.insert.new.self.entries c.args.id c.in-Some.delta c.in_ok-insert-in-Some.ensures.updates.0)
