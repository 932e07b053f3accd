-- What was built last, as a workspace remembers it.
use Rattle.std.specs.Prelude.{ℕ, List, [], unwrap_or}
use Rattle.proj_desc.specs.declared.command.Command.{Command}
use Rattle.proj_desc.specs.Canonical.{commanded, IsCommandText}
use Rattle.ws_elem.specs.declared.elem_map.ElemMap.{ElemMap}
use Rattle.ws_durable.specs.declared.built.Built.{Built}
use Rattle.ws_marks.specs.declared.record.Record.{Record}

-- the command that the text is, any where it is none
abbrev pub command_in : List ℕ → Command
command_in text = unwrap_or (commanded text) (record { builder = []; inputs = []; output = [] })

-- the record of what was built last, with its command
abbrev pub record_of : Built → Record ElemMap
record_of b = record { project = b.project; index = b.index; command = command_in b.command; references = b.references; tree = b.tree }

-- its command's text is the canonical text of a command of the project
abbrev pub HasCommand : Built → Type 0
HasCommand b = IsCommandText b.project b.command
