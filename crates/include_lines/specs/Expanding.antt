-- What becomes of a file whose lines include others.
use Rattle.std.specs.Prelude.{ℕ, ℤ, pos, ◌+◌, min, List, [], ◌∷◌, ◌++◌, Option, Some, None}
use Rattle.std.specs.Option.{unwrap_or}
use Rattle.std.specs.List.{flat_map}
use Rattle.include_lines.specs.declared.expanding.Missing.{Missing}
use Rattle.include_lines.specs.Lines.{lines_of, include_name}
use Rattle.include_lines.specs.Messages.{message}

-- the bytes of the file of a name, where there is one
abbrev pub Files : Type 0
Files = List ℕ → Option (List ℕ)

-- what stands in the place of a line that includes a file of this name, or none
abbrev pub replaced : Files → List ℕ → Option (List ℕ) → List ℕ
replaced files line None = line
replaced files line (Some name) = unwrap_or (files name) []

-- each line that includes a file is replaced by that file's bytes, as they are, or left out where there is none
abbrev pub expanded : Files → List ℕ → List ℕ
expanded files bytes = flat_map (λ line. replaced files line (include_name line)) (lines_of bytes)

-- the number that is told of a line
abbrev pub line_number : ℕ → ℤ
line_number n = pos (min n 2147483647)

-- what is told where there is no file of a name
abbrev pub told : ℕ → List ℕ → Option (List ℕ) → List Missing
told n name (Some bytes) = []
told n name None = record { line = line_number n; message = message name } ∷ []

-- what is told of the line of this number, which includes a file of this name, or none
abbrev pub missing_by : Files → ℕ → Option (List ℕ) → List Missing
missing_by files n None = []
missing_by files n (Some name) = told n name (files name)

abbrev pub missing_among : Files → ℕ → List (List ℕ) → List Missing
missing_among files n [] = []
missing_among files n (line ∷ lines) = missing_by files n (include_name line) ++ missing_among files (n + 1) lines

-- the lines that include no file, in order; the first one has the number n
abbrev pub missing : Files → ℕ → List ℕ → List Missing
missing files n bytes = missing_among files n (lines_of bytes)
