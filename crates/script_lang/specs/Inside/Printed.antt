-- How lines are printed.
use Rattle.std.specs.Prelude.{◌≡◌, List}
use Rattle.std.specs.List.{AllByRecursion}
use Rattle.script_lang.specs.declared.line.Line.{Line}
use Rattle.script_lang.specs.Commands.{line_parts, line_read}
use Rattle.script_parts.specs.Inside.Printed.{AreParts}

-- a line that its printed words stand for
abbrev pub IsLine : Line → Type 0
IsLine line = AreParts (line_parts line) × (line_read line ≡ line)

abbrev pub AreLines : List Line → Type 0
AreLines lines = AllByRecursion IsLine lines
