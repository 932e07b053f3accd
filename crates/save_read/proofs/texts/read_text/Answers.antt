use Rattle.save_read.proofs.Whole.{is_text, one_text, no_text}
use Rattle.save_read.proofs.texts.read_text.Goals as goal

pub returns-in-Some-clause-ok : goal.returns-in-Some-clause-ok
returns-in-Some-clause-ok c =
    let found = rw c.in-Some.is at c.in_ok-durable.ensures in
    let told = c.in_ok-told.ensures.found in
    is_text c.args.base.now.map c.args.shelf.now.map c.args.body.now c.in_ok-told.told told.0 told.1 _ found

pub returns-in-Some-clause-all : goal.returns-in-Some-clause-all
returns-in-Some-clause-all c d text =
    let found = rw c.in-Some.is at c.in_ok-durable.ensures in
    let told = c.in_ok-told.ensures.found in
    one_text c.args.base.now.map c.args.shelf.now.map c.args.body.now c.in_ok-told.told told.0 told.1 c.in_ok-told.ensures.only _ d found text

pub returns-clause-all : goal.returns-clause-all
returns-clause-all c d text =
    let never = rw c.in-None.is at c.in_ok-durable.ensures in
    let told = c.in_ok-told.ensures.found in
    absurd (no_text c.args.base.now.map c.args.shelf.now.map c.args.body.now c.in_ok-told.told told.0 told.1 c.in_ok-told.ensures.only never d text)

pub returns-clause-spelled : goal.returns-clause-spelled
returns-clause-spelled c at is = let found = c.in_ok-told.ensures.found in (c.in_ok-told.told, found.0, found.1)
