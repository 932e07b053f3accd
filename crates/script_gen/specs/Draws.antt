-- Numbers drawn one after another.
use Rattle.std.specs.Prelude.{ℕ, zero, suc, ◌+◌, ◌*◌, ◌/◌, ◌%◌}

-- the state that a draw leaves
abbrev pub next : ℕ → ℕ
next state = (state * 1103515245 + 12345) % 2147483648

-- the state that so many draws leave
unfoldable pub behind : ℕ → ℕ → ℕ
behind state zero = state
behind state (suc n) = next (behind state n)

-- what the draw gives that comes behind so many, below a bound
abbrev pub drawn : ℕ → ℕ → ℕ → ℕ
drawn state n bound = next (behind state n) / 65536 % bound
