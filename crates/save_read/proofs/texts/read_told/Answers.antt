use Rattle.save_read.proofs.Stopping.{stuck_stops}
use Rattle.save_read.proofs.Whole.{narrow_all, no_other}
use Rattle.save_read.proofs.texts.read_told.Goals as goal

pub of-base-requires : goal.of-base-requires
of-base-requires c = narrow_all c.args.base.now.map c.requires.base

pub of-shelf-requires : goal.of-shelf-requires
of-shelf-requires c = narrow_all c.args.shelf.now.map c.requires.shelf

pub returns-in-Ok-clause-found : goal.returns-in-Ok-clause-found
returns-in-Ok-clause-found c = rw (c.of-base.ensures, c.of-shelf.ensures) at c.in-Ok.ensures.found

pub returns-in-Ok-clause-only : goal.returns-in-Ok-clause-only
returns-in-Ok-clause-only c s fits spelled = let only = rw (c.of-base.ensures, c.of-shelf.ensures) at c.in-Ok.ensures.only in let is = only s fits spelled in cc

pub returns-in-Err-clause-only : goal.returns-in-Err-clause-only
returns-in-Err-clause-only c s fits spelled =
    let only = rw (c.of-base.ensures, c.of-shelf.ensures) at c.in-Err.ensures.only in
    no_other c.args.body.now s c.in-Err.stuck c.error_of.result c.error_of.ensures (only s fits spelled)

pub returns-in-Err-clause-stops : goal.returns-in-Err-clause-stops
returns-in-Err-clause-stops c =
    let gives = rw (c.of-base.ensures, c.of-shelf.ensures) at c.in-Err.ensures.gives in
    stuck_stops c.args.base.now.map c.args.shelf.now.map c.args.body.now c.in-Err.stuck c.error_of.result c.error_of.ensures gives
