-- Kinds of builds.
use Rattle.std.specs.Prelude.{ℕ}
use Rattle.builder_api.specs.declared.kind.BuildKind.{BuildKind}
use Rattle.builder_api.specs.declared.kind.BuildKind.TheVariants.{Full, Auto, Incremental, Clean}

-- the platform's number of a kind
abbrev pub build_number : BuildKind → ℕ
build_number Full = 6
build_number Auto = 9
build_number Incremental = 10
build_number Clean = 15
