-- How passes are kept: with the number of those that have an open batch.
use Rattle.std.specs.Prelude.{◌≡◌, ◌≤◌, ◌<◌, ◌^◌, ℕ, IsSome, filter, length}
use Rattle.std.specs.FinMap.{get, entries, len}
use Rattle.pass_table.specs.Passes.{Table, has_batch}

-- how many passes have an open batch
abbrev pub number_in_batch : Table → ℕ
number_in_batch there = length (filter (λ e. has_batch e.1) (entries there))

pub record IsKept (there : Table) (next in_batch : ℕ) : Type 0 where
  -- the next number is none of theirs
  pub below : (n : ℕ) → IsSome (get there n) → n < next
  pub fits : len there ≤ next
  pub drawn : next ≤ 2 ^ 63
  pub counted : in_batch ≡ number_in_batch there
