-- Commands at their places in the workspace.
use Rattle.std.specs.Prelude.{ℕ, ◌||◌, List, ◌∷◌, map}
use Rattle.std.specs.FinMap.{retain_keys}
use Rattle.res_path.specs.Paths.{Names}
use Rattle.proj_desc.specs.declared.command.Command.{Command}
use Rattle.proj_desc.specs.declared.input.Input.{Input}
use Rattle.proj_desc.specs.declared.input.Input.TheVariants.{Own, Other}
use Rattle.builder_api.specs.declared.handed.Handed.{Handed}
use Rattle.builder_api.specs.Places.{is_within, is_below}
use Rattle.builder_api.specs.Files.{Files, files_in}

-- what is called, the paths that it reads, and the one below which it writes
pub record Task : Type 0 where
  pub builder : List ℕ
  pub inputs : List Names
  pub output : Names

-- an input of a project's command, as a path of the workspace
abbrev pub input_path : List ℕ → Input → Names
input_path project (Own p) = project ∷ p
input_path project (Other p) = p

-- a project's command at its place
abbrev pub placed : List ℕ → Command → Task
placed project c = record { builder = c.builder; inputs = map (input_path project) c.inputs; output = project ∷ c.output }

-- a command at the paths that are handed with it
abbrev pub task_of : Command → Handed → Task
task_of c h = record { builder = c.builder; inputs = h.inputs; output = h.output }

-- the task's input files
abbrev pub inputs_of : Task → Files → Files
inputs_of c f = files_in c.inputs f

-- the files at or below the inputs and below the output
abbrev pub view_of : Task → Files → Files
view_of c f = retain_keys f (λ q. is_within c.inputs q || is_below c.output q)
