use Rattle.std.proofs.Common.{inl, inr}
use Rattle.ws_top.proofs.response.tell.Goals as goal

pub returns-in-Ok-clause-tells : goal.returns-in-Ok-clause-tells
returns-in-Ok-clause-tells g c = inl (c.nothing_done.ensures.status, c.in-Ok.ensures.whole, c.in-Ok.ensures.cause)

pub returns-in-Err-clause-tells : goal.returns-in-Err-clause-tells
returns-in-Err-clause-tells g c = inr (c.nothing_done-in-Err.ensures.status, c.in-Err.ensures.front, c.in-Err.ensures.cause)
