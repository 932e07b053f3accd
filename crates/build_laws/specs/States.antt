-- What builds see of a workspace, and what is due.
use Rattle.std.specs.Prelude.{◌≡◌, ℕ, Bool, true, false, not, ◌&&◌, if◌then◌else◌, List, [], Option, Some, None, is_some, unwrap_or, option_map, slice_get}
use Rattle.std.specs.FinMap.{get}
use Rattle.std.specs.Cmp.Lexicographic.{pointwise}
use Rattle.std.specs.Str.{bytes_eq}
use Rattle.res_path.specs.Paths.{Names, path_eq}
use Rattle.ws_elem.specs.declared.element.Element.{Element}
use Rattle.ws_elem.specs.Attached.{nothing_attached}
use Rattle.ws_elem.specs.Trees.{Tree}
use Rattle.delta_kind.specs.declared.node.DeltaNode.{DeltaNode}
use Rattle.delta_kind.specs.Deltas.{delta, cut}
use Rattle.proj_desc.specs.declared.input.Input.{Input}
use Rattle.proj_desc.specs.declared.input.Input.TheVariants.{Own, Other}
use Rattle.proj_desc.specs.declared.command.Command.{Command}
use Rattle.proj_desc.specs.declared.desc.Desc.{Desc}
use Rattle.proj_desc.specs.Valid.{IsValid}
use Rattle.builder_api.specs.declared.handed.Handed.{Handed}
use Rattle.builder_api.specs.declared.kind.BuildKind.{BuildKind}
use Rattle.builder_api.specs.declared.kind.BuildKind.TheVariants.{Full, Auto, Incremental, Clean}
use Rattle.builder_api.specs.Files.{files_of}
use Rattle.builder_api.specs.Tasks.{Task, placed, view_of}
use Rattle.builder_api.specs.Lawful.{scope}

-- a command of a build: its project, its number there from 0, and what it says
pub record Item : Type 0 where
  pub project : List ℕ
  pub index : ℕ
  pub command : Command

abbrev pub item : List ℕ → ℕ → Command → Item
item project index command = record { project = project; index = index; command = command }

-- the command at its place in the workspace
abbrev pub task : Item → Task
task i = placed i.project i.command

-- a command as it was built last: what it said, to what its project referred, and the tree after that
pub record Built : Type 0 where
  pub command : Command
  pub references : Names
  pub tree : Tree

-- what was built last, by the project's name and the command's number
abbrev pub Records : Type 0
Records = List ℕ → ℕ → Option Built

-- what the descriptions of the open projects say, by the projects' names
abbrev pub Descs : Type 0
Descs = List ℕ → Option Desc

-- what builds see of a workspace
pub record State : Type 0 where
  pub tree : Tree
  pub records : Records
  pub descs : Descs

-- a command of a valid description of an open project
pub record IsItem (descs : Descs) (i : Item) : Type 0 where
  pub desc : Desc
  pub described : descs i.project ≡ Some desc
  pub valid : IsValid i.project desc
  pub stands : slice_get desc.commands i.index ≡ Some i.command

-- the projects to which a project refers
abbrev pub refers : Descs → List ℕ → Names
refers descs project = unwrap_or (option_map (λ d. d.references) (descs project)) []

-- those to which the command's project refers
abbrev pub references : State → Item → Names
references s i = refers s.descs i.project

-- what was built last for the command
abbrev pub last_built : State → Item → Option Built
last_built s i = s.records i.project i.index

abbrev pub last_tree : State → Item → Option Tree
last_tree s i = option_map (λ b. b.tree) (last_built s i)

abbrev pub same_input : Input → Input → Bool
same_input (Own p) (Own q) = path_eq p q
same_input (Own p) (Other q) = false
same_input (Other p) (Own q) = false
same_input (Other p) (Other q) = path_eq p q

-- the commands say the same
abbrev pub same_command : Command → Command → Bool
same_command c d = bytes_eq c.builder d.builder && (pointwise same_input c.inputs d.inputs && path_eq c.output d.output)

-- a full build and a clean one hand no delta
abbrev pub is_whole : BuildKind → Bool
is_whole Full = true
is_whole Auto = false
is_whole Incremental = false
is_whole Clean = true

-- the delta since the command was built last, in its project and the references; none where all is to be built anew, where
-- nothing was built, or where the command or the references were others
abbrev pub due_delta : Option Built → Item → Names → Bool → Tree → Option (List DeltaNode)
due_delta None i refs whole now = None
due_delta (Some b) i refs whole now =
    if not whole && (same_command b.command i.command && path_eq b.references refs)
    then Some (cut (scope i.project refs) (delta b.tree now))
    else None

-- what is to be handed for the command
abbrev pub due : State → Item → BuildKind → Handed
due s i kind = let d = due_delta (last_built s i) i (references s i) (is_whole kind) s.tree in record {
  kind = kind;
  last = is_some d;
  delta = d;
  view = view_of (task i) (files_of s.tree);
  inputs = (task i).inputs;
  output = (task i).output;
}

-- without its markers
abbrev pub unmarked : Element → Element
unmarked e = record e { attached = record e.attached { marks = nothing_attached.marks } }

-- at the path nothing but markers differs
abbrev pub IsAlikeAt : Tree → Tree → Names → Type 0
IsAlikeAt a b q = option_map unmarked (get b q) ≡ option_map unmarked (get a q)

-- what a build finds at its next entry: since its last one others changed markers alone
pub record Finds (s found : State) : Type 0 where
  pub alike : (q : Names) → IsAlikeAt s.tree found.tree q
  pub records : found.records ≡ s.records
  pub descs : found.descs ≡ s.descs
