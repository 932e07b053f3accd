-- The project's own path, and what a path's fault is told as.
use Rattle.std.specs.Prelude.{◌≡◌, ℕ, true, List, [], ◌∷◌}
use Rattle.res_path.specs.Names.{is_name}
use Rattle.res_path.specs.Paths.{Names}
use Rattle.res_path.specs.declared.error.PathError.{PathError}
use Rattle.res_path.specs.declared.error.PathError.TheVariants as path
use Rattle.proj_desc.specs.declared.cause.DescCause.TheVariants as cause
use Rattle.proj_desc.specs.declared.cause.DescError.{DescError}
use Rattle.proj_desc.specs.declared.cause.DescError.TheVariants.{Bad, Memory}

-- the path is that of the project of this name
pub record IsBase (project : List ℕ) (path : Names) : Type 0 where
  pub named : is_name project ≡ true
  pub alone : path ≡ project ∷ []

-- what a fault of a path is told as
abbrev pub told_path : PathError → DescError
told_path path.Memory = Memory
told_path (path.BadSegment at) = Bad cause.BadPath
told_path path.TooDeep = Bad cause.BadPath
told_path path.TooLong = Bad cause.BadPath
