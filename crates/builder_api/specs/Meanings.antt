-- What a task makes of its inputs.
use Rattle.std.specs.Prelude.{◌≡◌, ℕ, true, List, [], Option, Some, None, IsSome}
use Rattle.std.specs.FinMap.{get, empty}
use Rattle.res_path.specs.Paths.{Names, overlap}
use Rattle.ws_elem.specs.Trees.{Tree}
use Rattle.builder_api.specs.declared.edits.Problem.{Problem}
use Rattle.builder_api.specs.Files.{Files, files_of, HasBelow, HasNoEmptyFolder}
use Rattle.builder_api.specs.Tasks.{Task, inputs_of}

-- output files, with their paths from the output, and problems
pub record Made : Type 0 where
  pub files : Files
  pub problems : List Problem

-- from a task and its input files to what it makes of them
abbrev pub Meaning : Type 0
Meaning = Task → Files → Made

-- each output path has a name, and no two overlap
pub record IsMeaning (m : Meaning) : Type 0 where
  pub named : (c : Task) (f : Files) → get (m c f).files [] ≡ None
  pub apart : (c : Task) (f : Files) (p q : Names) → IsSome (get (m c f).files p) → IsSome (get (m c f).files q) → overlap p q ≡ true → p ≡ q

-- by the builder's name, where it tells a meaning
abbrev pub Meanings : Type 0
Meanings = List ℕ → Option Meaning

abbrev pub made_by : Option Meaning → Task → Files → Made
made_by (Some m) c i = m c i
made_by None c i = record { files = empty; problems = [] }

-- what the task makes of its input files as they are
abbrev pub full : Meanings → Task → Files → Made
full ms c f = made_by (ms c.builder) c (inputs_of c f)

-- the task's builder tells its meaning
abbrev pub IsLawful : Meanings → Task → Type 0
IsLawful ms c = IsSome (ms c.builder)

-- below the output lie exactly the files that the task makes of its inputs as they are
abbrev pub IsBuilt : Meanings → Task → Files → Type 0
IsBuilt ms c f = HasBelow c.output f (full ms c f).files

-- so it is in the tree, and no folder below the output is empty
pub record Fresh (ms : Meanings) (c : Task) (t : Tree) : Type 0 where
  pub files : IsBuilt ms c (files_of t)
  pub folders : HasNoEmptyFolder c.output t
