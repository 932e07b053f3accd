-- A file cut at the lines that include others.
use Rattle.std.specs.Prelude.{◌≡◌, ℕ, List, []}
use Rattle.std.specs.List.{flat_map}
use Rattle.std.specs.Option.{unwrap_or}
use Rattle.include_lines.specs.declared.cutting.Part.{Part}
use Rattle.include_lines.specs.declared.cutting.Part.TheVariants.{Text, Include}
use Rattle.include_lines.specs.declared.expanding.Missing.{Missing}
use Rattle.include_lines.specs.Expanding.{Files, expanded, missing, told}

-- what a part comes to: a text stays, and an included file stands in its line's place, where there is one
abbrev pub part_bytes : Files → Part → List ℕ
part_bytes files (Text bytes) = bytes
part_bytes files (Include line) = unwrap_or (files line.name) []

-- what is told of it
abbrev pub part_missing : Files → Part → List Missing
part_missing files (Text bytes) = []
part_missing files (Include line) = told line.number line.name (files line.name)

-- whatever files there are, the parts come to what the bytes do; the first line has the number n
pub record AreParts (n : ℕ) (bytes : List ℕ) (parts : List Part) : Type 0 where
  pub whole : (files : Files) → flat_map (part_bytes files) parts ≡ expanded files bytes
  pub told : (files : Files) → flat_map (part_missing files) parts ≡ missing files n bytes
