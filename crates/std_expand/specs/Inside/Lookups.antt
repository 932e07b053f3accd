-- What is found by name.
use Rattle.std.specs.Prelude.{ℕ, List, Option}
use Rattle.std.specs.BTreeMap.{is_at}
use Rattle.std.specs.Cmp.Lexicographic.{slice_cmp}
use Rattle.std.specs.Map.{lookup}
use Rattle.std.specs.Ordering.{nat_cmp}

-- what stands at a name among the entries of a map
abbrev pub found : List (List ℕ × List ℕ) → List ℕ → Option (List ℕ)
found entries name = lookup (is_at (slice_cmp nat_cmp name)) entries
