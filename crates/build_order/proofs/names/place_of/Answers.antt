use Rattle.build_order.proofs.Sorted.{found_at, not_found}
use Rattle.build_order.proofs.names.place_of.Goals as goal

pub returns-in-Ok : goal.returns-in-Ok
returns-in-Ok c = (c.in-Ok.ensures.bound, found_at c.args.names.now c.args.name.now c.in-Ok.place c.in-Ok.ensures.ok)

pub returns-in-Err : goal.returns-in-Err
returns-in-Err c = not_found c.args.names.now c.args.name.now c.in-Err.field-0 c.requires c.in-Err.ensures.position
