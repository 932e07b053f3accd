-- Edits below an output.
use Rattle.std.specs.Prelude.{ℕ, not, if◌then◌else◌, List, [], ◌∷◌, ◌++◌, map, Option, Some, None, is_some}
use Rattle.std.specs.List.{list_any}
use Rattle.std.specs.FinMap.{insert, remove, retain_keys}
use Rattle.res_path.specs.Paths.{Names, is_prefix}
use Rattle.builder_api.specs.Files.{Files}

-- a file that is put, or removed, at a path from the output
abbrev pub Edit : Type 0
Edit = Names × Option (List ℕ)

-- the paths of edits
abbrev pub edit_paths : List Edit → List Names
edit_paths es = map (λ e. e.0) es

-- the files after an edit below o
abbrev pub edit : Names → Files → Names → Option (List ℕ) → Files
edit o f r (Some bytes) = insert f (o ++ r) bytes
edit o f r None = remove f (o ++ r)

-- the files after edits below o, in their order
abbrev pub edited : Names → Files → List Edit → Files
edited o f [] = f
edited o f (e ∷ es) = edited o (edit o f e.0 e.1) es

-- a file at the output or above it gives way where a file is put
abbrev pub with_room : Names → Files → List Edit → Files
with_room o f es = if list_any (λ e. is_some e.1) es then retain_keys f (λ q. not (is_prefix q o)) else f

-- the files after edits below o were committed
abbrev pub committed : Names → Files → List Edit → Files
committed o f es = edited o (with_room o f es) es
