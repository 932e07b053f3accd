-- Paths with room: there a put or a take never wants memory.
use Rattle.std.specs.Prelude.{Bool}
use Rattle.std.specs.FinSet.{FinSet, empty, contains, insert}
use Rattle.res_path.specs.Paths.{Names, path_cmp}

-- a set of paths
abbrev pub Room : Type 0
Room = FinSet path_cmp

abbrev pub no_room : Room
no_room = empty

abbrev pub has_room : Room → Names → Bool
has_room r p = contains r p

-- the paths of r, and p
abbrev pub with_room : Room → Names → Room
with_room r p = insert r p
