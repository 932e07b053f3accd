use Rattle.save_valid.proofs.Parents.{root_placed, below_placed}
use Rattle.save_valid.proofs.places.PlacedTest.is_met.Goals as goal

pub returns-in-None : goal.returns-in-None
returns-in-None c =
    let none = rw c.in-None.is at c.in_ok-parent.ensures in
    root_placed c.args.self.now.tree.now.map c.args.path.now c.args.element.now none c.is_root_placed.result c.is_root_placed.ensures

pub returns-in-Some : goal.returns-in-Some
returns-in-Some c =
    let some = rw c.in-Some.is at c.in_ok-parent.ensures in
    below_placed c.args.self.now.tree.now.map c.args.path.now c.args.element.now c.in-Some.parent some _ c.get.ensures c.is_placed_below.result c.is_placed_below.ensures
