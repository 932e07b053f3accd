-- How passes are let in.
use Rattle.std.specs.Prelude.{length, List}
use Rattle.ws_core.specs.States.{Moment}
use Rattle.run_order.specs.Orders.{Enters}
use Rattle.phase_pool.specs.Passes.{Known}
use Rattle.phase_pool.specs.Workers.{AllGoOn, Hand, Together}

-- pass 0 let in a pass for each worker, and nothing else was done; all have met
pub record Admitted (s : Moment) (k : Known) (hands : List Hand) : Type 0 where
  pub together : Together s k hands
  pub enter : Enters (length hands) k.seen
  pub go_on : AllGoOn hands
