-- A map that is built by going through ids, of which each has a value or none.
use Rattle.std.specs.Prelude.{◌≡◌, ℕ, List, nat_eq, Option, Some, None, if◌then◌else◌}
use Rattle.std.specs.List.{list_any}
use Rattle.std.specs.Ordering.{nat_cmp}
use Rattle.std.specs.FinMap.{FinMap, get, insert}

-- the map with this value at an id, where there is one
abbrev pub with_some : {Y : Type 0} → FinMap nat_cmp Y → ℕ → Option Y → FinMap nat_cmp Y
with_some built id (Some y) = insert built id y
with_some built id None = built

-- the map has what is picked for each of these ids, and nothing else
abbrev pub Covers : {Y : Type 0} → (ℕ → Option Y) → FinMap nat_cmp Y → List ℕ → Type 0
Covers pick built ids = (id : ℕ) → get built id ≡ (if list_any (nat_eq id) ids then pick id else None)
