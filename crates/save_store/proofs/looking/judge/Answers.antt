use Rattle.std.proofs.Common.{inr, refl}
use Rattle.ws_durable.specs.Saved.{saved}
use Rattle.save_store.proofs.looking.judge.Goals as goal

pub returns-clause-damaged : goal.returns-clause-damaged
returns-clause-damaged c = inr (saved c.in_ok-durable.durable, (c.in-Err.at, c.in-Err.cause), c.in_ok-durable.ensures.ok, c.in-Err.is, refl)
