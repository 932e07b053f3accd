use Rattle.save_valid.proofs.Eaches.{of_each}
use Rattle.save_valid.proofs.each.is_each.Goals as goal

pub returns : goal.returns
returns g c = of_each (g.T.Test.holds c.args.test.now) c.args.tree.now.map c.pass_each.result c.pass_each.ensures
