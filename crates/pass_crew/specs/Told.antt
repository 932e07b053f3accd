-- What passes told of their own entries.
use Rattle.std.specs.Prelude.{◌≡◌, ℕ, List, ◌++◌}
use Rattle.core_event.specs.declared.entry.Entry.{Entry}
use Rattle.run_order.specs.Lists.{own, Cut}
use Rattle.phase_pool.specs.Passes.{Known}
use Rattle.pass_crew.specs.Passes.{Leaving}

-- What the pass of this number told of its entries when it was asked last. These are all that it has in the history, but for
-- that by which it left, or asked to
pub record HasTold {P : Type 0} (knows : P → Known) (Tells : P → List Entry → Type 0) (k : ℕ) (h : List Entry) : Type 0 where
  pub pass : P
  pub number : (knows pass).number ≡ k
  pub told : List Entry
  pub rest : List Entry
  pub are : own k h ≡ told ++ rest
  pub leaving : Cut (Leaving k) rest
  pub tells : Tells pass told
