use Rattle.save_read.proofs.Whole.{built_so}
use Rattle.save_read.proofs.texts.build.Goals as goal

pub returns-in-Some : goal.returns-in-Some
returns-in-Some c =
    let found = rw c.in-Some.is at c.in_ok-durable_of.ensures in
    built_so c.args.base.now.map c.args.shelf.now.map c.args.told.now c.in-Some.durable c.unless_many.result found c.unless_many.ensures
