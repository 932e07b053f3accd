-- The builder `copy`.
use Rattle.std.specs.Prelude.{ℕ, List, codes, Some, None}
use Rattle.std.specs.List.{fold}
use Rattle.res_path.specs.Paths.{Names}
use Rattle.builder_api.specs.Meanings.{Made, Meaning}
use Rattle.builder_api.specs.Told.{Told}
use Rattle.std_kit.specs.Roots.{rooted, relative}
use Rattle.std_kit.specs.Making.{nothing_made, with_file}

-- a root's file more, with its bytes, at its path from the root
abbrev pub with_copy : Names → Made → Names × List ℕ → Made
with_copy root m e = with_file m e.0 (relative root e.0) e.1

-- a root's files more, in their order
abbrev pub with_root : Made → Names × List (Names × List ℕ) → Made
with_root m root = fold (with_copy root.0) m root.1

-- the files of roots, root by root
abbrev pub copied : List (Names × List (Names × List ℕ)) → Made
copied roots = fold with_root nothing_made roots

-- what `copy` makes of input files
abbrev pub copy : Meaning
copy c i = copied (rooted c.inputs i)

-- what the builder tells of itself: its name and meaning, not its calls, and that it never failed
abbrev pub copy_told : Told
copy_told = record { named = codes "copy"; means = Some copy; calls = None; faults = 0 }
