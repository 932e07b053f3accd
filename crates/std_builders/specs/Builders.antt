-- What the standard builders tell.
use Rattle.std.specs.Prelude.{List, [], ◌∷◌}
use Rattle.builder_api.specs.Told.{Told}
use Rattle.std_copy.specs.Copied.{copy_told}
use Rattle.std_concat.specs.Concat.{concat_told}
use Rattle.std_expand.specs.Expand.{expand_told}
use Rattle.std_builders.specs.declared.builder.StandardBuilder.{StandardBuilder}
use Rattle.std_builders.specs.declared.builder.StandardBuilder.TheVariants.{Copies, Joins, Expands}

abbrev pub told : StandardBuilder → Told
told (Copies b) = copy_told
told (Joins b) = concat_told
told (Expands b) = expand_told

-- all of them in order
abbrev pub all_told : List Told
all_told = copy_told ∷ concat_told ∷ expand_told ∷ []
