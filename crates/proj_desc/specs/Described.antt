-- The description that a JSON value is, its texts taken for names and paths whether they are or not.
use Rattle.std.specs.Prelude.{ℕ, Bool, ◌==◌, List, map, drop, slice_index, codes, if◌then◌else◌}
use Rattle.std.specs.List.{slice_split}
use Rattle.serde_json.specs.Data.{Data}
use Rattle.res_path.specs.Paths.{Names}
use Rattle.res_path.specs.Parts.{is_slash}
use Rattle.proj_desc.specs.declared.input.Input.{Input}
use Rattle.proj_desc.specs.declared.input.Input.TheVariants.{Own, Other}
use Rattle.proj_desc.specs.declared.command.Command.{Command}
use Rattle.proj_desc.specs.declared.desc.Desc.{Desc}
use Rattle.proj_desc.specs.Values.{text, text_at, items_at}

-- what stands between the slashes
abbrev pub names : List ℕ → Names
names = slice_split is_slash

abbrev pub begins_with_slash : List ℕ → Bool
begins_with_slash bytes = slice_index bytes 0 == 47

-- with a slash first a path of the workspace, else one inside the project
abbrev pub input_of : List ℕ → Input
input_of bytes = if begins_with_slash bytes then Other (names (drop 1 bytes)) else Own (names bytes)

abbrev pub command_of : Data → Command
command_of d = record {
  builder = text_at (codes "builder") d;
  inputs = map (λ input. input_of (text input)) (items_at (codes "inputs") d);
  output = names (text_at (codes "output") d);
}

abbrev pub desc_of : Data → Desc
desc_of d = record {
  references = map text (items_at (codes "references") d);
  commands = map command_of (items_at (codes "commands") d);
}
