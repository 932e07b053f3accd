-- Ranges of lines by their first and last number.
use Rattle.std.specs.Prelude.{ℕ, Bool, ◌&&◌, ◌==◌, nat_le}
use Rattle.std.specs.declared.cmp.Ordering.{Ordering}
use Rattle.std.specs.Ordering.{nat_cmp, on, then_cmp}
use Rattle.res_path.specs.Paths.{Names, path_cmp}

abbrev pub same_range : ℕ → ℕ → ℕ → ℕ → Bool
same_range from to first last = from == first && to == last

-- the second range has lines, and they lie within the first
abbrev pub lies_within : ℕ → ℕ → ℕ → ℕ → Bool
lies_within from to first last = nat_le from first && nat_le first last && nat_le last to

-- there is a line in both ranges
abbrev pub share_a_line : ℕ → ℕ → ℕ → ℕ → Bool
share_a_line from to first last = (nat_le from to && nat_le first last) && (nat_le from last && nat_le first to)

-- ranges by their file, then by their first number, then by their last
abbrev pub range_cmp : Names × ℕ × ℕ → Names × ℕ × ℕ → Ordering
range_cmp = then_cmp (on (λ r. r.0) path_cmp) (then_cmp (on (λ r. r.1) nat_cmp) (on (λ r. r.2) nat_cmp))
