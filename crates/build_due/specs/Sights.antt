-- What a command sees of files.
use Rattle.std.specs.Prelude.{Bool, ◌||◌, List}
use Rattle.std.specs.FinMap.{retain_keys}
use Rattle.res_path.specs.Paths.{Names}
use Rattle.builder_api.specs.Files.{Files}
use Rattle.builder_api.specs.Places.{is_within, is_below}

-- a file at q is seen: it lies at or below one of the inputs, or below the output
abbrev pub is_seen : List Names → Names → Names → Bool
is_seen inputs output q = is_within inputs q || is_below output q

-- the files that are seen
abbrev pub seen : List Names → Names → Files → Files
seen inputs output f = retain_keys f (is_seen inputs output)
