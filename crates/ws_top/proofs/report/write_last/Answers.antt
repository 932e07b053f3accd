use Rattle.std.proofs.Common.{refl}
use Rattle.ws_top.proofs.report.write_last.Goals as goal

pub returns-in-Ok : goal.returns-in-Ok
returns-in-Ok g c = record { written = (c.in-Ok.ensures.whole, c.in-Ok.ensures.cause) }

pub returns-in-Err : goal.returns-in-Err
returns-in-Err g c = record { written = (refl, c.in-Err.ensures.front, c.in-Err.ensures.cause) }
