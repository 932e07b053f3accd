-- The text of a description, and of a command by itself.
use Rattle.std.specs.Prelude.{◌≡◌, ℕ, List, map, drop, codes, Option, None, option_map, IsSomeAnd}
use Rattle.serde_json.specs.Data.{Data, string, array, object, member, no_members}
use Rattle.serde_json.specs.View.{items_of}
use Rattle.serde_json.specs.Written.{compact_text}
use Rattle.res_path.specs.Paths.{Names, path_text}
use Rattle.proj_desc.specs.declared.input.Input.{Input}
use Rattle.proj_desc.specs.declared.input.Input.TheVariants.{Own, Other}
use Rattle.proj_desc.specs.declared.command.Command.{Command}
use Rattle.proj_desc.specs.declared.desc.Desc.{Desc}
use Rattle.proj_desc.specs.Values.{value_of}
use Rattle.proj_desc.specs.Described.{command_of, desc_of}
use Rattle.proj_desc.specs.Causes.{command_cause}

-- a path inside the project, without the first slash
abbrev pub inner_text : Names → List ℕ
inner_text path = drop 1 (path_text path)

abbrev pub input_text : Input → List ℕ
input_text (Own path) = inner_text path
input_text (Other path) = path_text path

abbrev pub texts : List (List ℕ) → Data
texts bytes = array (items_of (map string bytes))

-- a command as a JSON value, its members in the order of their names
abbrev pub command_data : Command → Data
command_data c = object (
    member (codes "builder") (string c.builder) (
    member (codes "inputs") (texts (map input_text c.inputs)) (
    member (codes "output") (string (inner_text c.output)) no_members)))

-- a description as a JSON value, its members in the order of their names
abbrev pub desc_data : Desc → Data
desc_data d = object (
    member (codes "commands") (array (items_of (map command_data d.commands))) (
    member (codes "references") (texts d.references) no_members))

-- the canonical text of a description
abbrev pub canonical : Desc → List ℕ
canonical d = compact_text (desc_data d)

-- the description that a text is, where it is one
abbrev pub described : List ℕ → Option Desc
described text = option_map desc_of (value_of text)

-- the canonical text of the description that a text is, where it is one
abbrev pub canonical_of : List ℕ → Option (List ℕ)
canonical_of text = option_map canonical (described text)

-- ---- a command by itself

abbrev pub command_text : Command → List ℕ
command_text c = compact_text (command_data c)

-- the command that a text is, where it is one
abbrev pub commanded : List ℕ → Option Command
commanded text = option_map command_of (value_of text)

-- it is a command of the project, and the text is its canonical one
abbrev pub IsTextOf : List ℕ → List ℕ → Command → Type 0
IsTextOf project text c = (command_cause project c ≡ None) × (command_text c ≡ text)

-- the text is the canonical text of a command of the project
abbrev pub IsCommandText : List ℕ → List ℕ → Type 0
IsCommandText project text = IsSomeAnd (commanded text) (IsTextOf project text)
