-- The files next to a path, in path order.
use Rattle.std.specs.Prelude.{◌≡◌, false, Option, Some, None, IsSome}
use Rattle.std.specs.FinMap.{get}
use Rattle.std.specs.Ordering.{is_gt}
use Rattle.res_path.specs.Paths.{Names, path_cmp}
use Rattle.builder_api.specs.Files.{Files}

-- x is the last path at or before p that has a file; without one no such path has
abbrev pub IsLast : Files → Names → Option Names → Type 0
IsLast m p None = (q : Names) → is_gt (path_cmp q p) ≡ false → get m q ≡ None
IsLast m p (Some x) = IsSome (get m x) × (is_gt (path_cmp x p) ≡ false) × ((q : Names) → is_gt (path_cmp q p) ≡ false → IsSome (get m q) → is_gt (path_cmp q x) ≡ false)

-- x is the first path at or after p that has a file; without one no such path has
abbrev pub IsFirst : Files → Names → Option Names → Type 0
IsFirst m p None = (q : Names) → is_gt (path_cmp p q) ≡ false → get m q ≡ None
IsFirst m p (Some x) = IsSome (get m x) × (is_gt (path_cmp p x) ≡ false) × ((q : Names) → is_gt (path_cmp p q) ≡ false → IsSome (get m q) → is_gt (path_cmp x q) ≡ false)
