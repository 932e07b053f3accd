-- How far below a resource something reaches.
use Rattle.std.specs.Prelude.{ℕ, ◌+◌, Bool, ◌&&◌, nat_le, length}
use Rattle.res_path.specs.Paths.{Names, is_prefix}
use Rattle.ws_elem.specs.declared.depth.Depth.{Depth}
use Rattle.ws_elem.specs.declared.depth.Depth.TheVariants.{Zero, One, Infinite}

-- the platform's number of a depth
abbrev pub depth_number : Depth → ℕ
depth_number Zero = 0
depth_number One = 1
depth_number Infinite = 2

-- q is p, or lies below it and no deeper than the depth says
abbrev pub is_within : Depth → Names → Names → Bool
is_within Zero p q = is_prefix p q && nat_le (length q) (length p)
is_within One p q = is_prefix p q && nat_le (length q) (length p + 1)
is_within Infinite p q = is_prefix p q
