-- Why a text is no description of a project, the causes in their order.
use Rattle.std.specs.Prelude.{◌≡◌, ℕ, ◌+◌, Bool, not, ◌&&◌, ◌||◌, nat_lt, nat_le, if◌then◌else◌, List, [], ◌∷◌, ◌++◌, length, codes, Option, Some, None, option_map, true, false}
use Rattle.std.specs.Option.{option_or}
use Rattle.std.specs.Ordering.{nat_cmp, is_le}
use Rattle.std.specs.Cmp.Lexicographic.{slice_cmp}
use Rattle.std.specs.List.{list_all, list_any, filter, find, flat_map, position}
use Rattle.std.specs.Str.{bytes_eq}
use Rattle.serde_json.specs.Data.{Data}
use Rattle.serde_json.specs.Find.{get}
use Rattle.res_path.specs.Names.{is_name}
use Rattle.res_path.specs.Paths.{Names, path_text, overlap, is_prefix}
use Rattle.proj_desc.specs.declared.input.Input.{Input}
use Rattle.proj_desc.specs.declared.input.Input.TheVariants.{Own, Other}
use Rattle.proj_desc.specs.declared.command.Command.{Command}
use Rattle.proj_desc.specs.declared.desc.Desc.{Desc}
use Rattle.proj_desc.specs.declared.member.Member.{Member}
use Rattle.proj_desc.specs.declared.member.Member.TheVariants.{Builder, Commands, Inputs, Output, References}
use Rattle.proj_desc.specs.declared.member.Level.{Level}
use Rattle.proj_desc.specs.declared.member.Level.TheVariants as level
use Rattle.proj_desc.specs.declared.cause.DescCause.{DescCause}
use Rattle.proj_desc.specs.declared.cause.DescCause.TheVariants as cause
use Rattle.proj_desc.specs.declared.cause.DescError.{DescError}
use Rattle.proj_desc.specs.declared.cause.DescError.TheVariants.{Bad, Memory}
use Rattle.proj_desc.specs.FirstCause.{when, first_cause}
use Rattle.proj_desc.specs.Values.{value_of, is_text, is_list, is_object, is_list_of_texts, is_such, keys, items_at}
use Rattle.proj_desc.specs.Described.{desc_of}

-- ---- the value's shape

-- the values of the commands
abbrev pub command_values : Data → List Data
command_values = items_at (codes "commands")

-- the value, or a command, is no object
abbrev pub is_no_object : Data → Bool
is_no_object d = not (is_object d && list_all is_object (command_values d))

-- the members that a description and a command may have
abbrev pub is_member : Level → List ℕ → Bool
is_member level.Description k = bytes_eq k (codes "commands") || bytes_eq k (codes "references")
is_member level.Command k = bytes_eq k (codes "builder") || bytes_eq k (codes "inputs") || bytes_eq k (codes "output")

-- the names of its other members
abbrev pub others : Level → Data → List (List ℕ)
others l d = filter (λ k. not (is_member l k)) (keys d)

-- the names of all members of another name, of the value and of the commands
abbrev pub strangers : Data → List (List ℕ)
strangers d = others level.Description d ++ flat_map (others level.Command) (command_values d)

-- none of the names is below this one, by their bytes
abbrev pub is_least : List (List ℕ) → List ℕ → Bool
is_least names name = list_all (λ other. is_le (slice_cmp nat_cmp name other)) names

-- the least of some names
abbrev pub least : List (List ℕ) → Option (List ℕ)
least names = find (is_least names) names

-- the value has a member of this name, and its value passes
abbrev pub has : (Data → Bool) → List ℕ → Data → Bool
has test name d = is_such test (get name d)

-- the value has a member of this name, and its value doesn't pass
abbrev pub has_wrong : (Data → Bool) → List ℕ → Data → Bool
has_wrong test name d = is_such (λ v. not (test v)) (get name d)

-- each command has such a member
abbrev pub all_have : (Data → Bool) → List ℕ → Data → Bool
all_have test name d = list_all (has test name) (command_values d)

-- the first member, by its name, that has another type somewhere, or that a command lacks
abbrev pub wrong_member : Data → Option Member
wrong_member d = first_cause (
    when (not (all_have is_text (codes "builder") d)) Builder
    ∷ when (has_wrong is_list (codes "commands") d) Commands
    ∷ when (not (all_have is_list_of_texts (codes "inputs") d)) Inputs
    ∷ when (not (all_have is_text (codes "output") d)) Output
    ∷ when (has_wrong is_list_of_texts (codes "references") d) References
    ∷ [])

-- the causes of the value's shape
abbrev pub shape_cause : Data → Option DescCause
shape_cause d = first_cause (
    when (is_no_object d) cause.NotObject
    ∷ option_map cause.Member (least (strangers d))
    ∷ option_map cause.Wrong (wrong_member d)
    ∷ [])

-- ---- what is described

abbrev pub has_many_inputs : Command → Bool
has_many_inputs c = nat_lt 64 (length c.inputs)

-- more than 256 references, 64 commands, or 64 inputs of a command
abbrev pub is_many : Desc → Bool
is_many d = nat_lt 256 (length d.references) || nat_lt 64 (length d.commands) || list_any has_many_inputs d.commands

-- a reference or a builder is no name
abbrev pub has_bad_name : Desc → Bool
has_bad_name d = not (list_all is_name d.references && list_all (λ c. is_name c.builder) d.commands)

-- names that are a path: at most 64, and at most 4,096 bytes of text
abbrev pub is_path : Names → Bool
is_path path = list_all is_name path && nat_le (length path) 64 && nat_le (length (path_text path)) 4096

-- at least one name, and a path where the project's name stands before them
abbrev pub is_inside : List ℕ → Names → Bool
is_inside project path = nat_lt 0 (length path) && is_path (project ∷ path)

abbrev pub is_placed : List ℕ → Input → Bool
is_placed project (Own path) = is_inside project path
is_placed project (Other path) = nat_lt 0 (length path) && is_path path

-- all paths of the command are such paths
abbrev pub has_places : List ℕ → Command → Bool
has_places project c = list_all (is_placed project) c.inputs && is_inside project c.output

-- the first name that comes again
abbrev pub first_double : List (List ℕ) → Option (List ℕ)
first_double [] = None
first_double (name ∷ names) = if list_any (bytes_eq name) names then Some name else first_double names

-- the path lies in none of these projects
abbrev pub lies_in_none : List (List ℕ) → Names → Bool
lies_in_none projects [] = true
lies_in_none projects (name ∷ path) = not (list_any (bytes_eq name) projects)

-- the input lies in another project that isn't among these
abbrev pub is_foreign : List (List ℕ) → Input → Bool
is_foreign projects (Own path) = false
is_foreign projects (Other path) = lies_in_none projects path

-- the input is the project's own and overlaps the path
abbrev pub meets : Names → Input → Bool
meets path (Own own) = overlap own path
meets path (Other other) = false

-- the input is one elsewhere, and lies at or below the path
abbrev pub lies_below : Names → Input → Bool
lies_below path (Own own) = false
lies_below path (Other other) = is_prefix path other

-- the first command, and then the first one after it, whose outputs overlap; the first of these has the place `at`
abbrev pub outputs_from : ℕ → List Command → Option DescCause
outputs_from at [] = None
outputs_from at (c ∷ cs) = option_or
    (option_map (λ j. cause.Outputs at (at + 1 + j)) (position (λ later. overlap c.output later.output) cs))
    (outputs_from (at + 1) cs)

-- the first command, and then the first one from it on, whose output overlaps an own input of the former
abbrev pub inputs_from : ℕ → List Command → Option DescCause
inputs_from at [] = None
inputs_from at (c ∷ cs) = option_or
    (option_map (λ j. cause.Inputs at (at + j)) (position (λ later. list_any (meets later.output) c.inputs) (c ∷ cs)))
    (inputs_from (at + 1) cs)

-- the causes of the numbers, names and paths
abbrev pub word_cause : List ℕ → Desc → Option DescCause
word_cause project d = first_cause (
    when (is_many d) cause.Many
    ∷ when (has_bad_name d) cause.BadName
    ∷ when (not (list_all (has_places project) d.commands)) cause.BadPath
    ∷ [])

-- the causes of what refers to another, and of what overlaps
abbrev pub link_cause : List ℕ → Desc → Option DescCause
link_cause project d = first_cause (
    when (list_any (bytes_eq project) d.references) cause.SelfReference
    ∷ option_map cause.Double (first_double d.references)
    ∷ option_map cause.Foreign (position (λ c. list_any (is_foreign d.references) c.inputs) d.commands)
    ∷ outputs_from 0 d.commands
    ∷ inputs_from 0 d.commands
    ∷ [])

-- why this is no description of the project, whatever it was read from; none where it is one
abbrev pub rule_cause : List ℕ → Desc → Option DescCause
rule_cause project d = option_or (word_cause project d) (link_cause project d)

-- ---- one command

abbrev pub command_word_cause : List ℕ → Command → Option DescCause
command_word_cause project c = first_cause (
    when (has_many_inputs c) cause.Many
    ∷ when (not (is_name c.builder)) cause.BadName
    ∷ when (not (has_places project c)) cause.BadPath
    ∷ [])

abbrev pub command_link_cause : Names → Command → Option DescCause
command_link_cause project c = first_cause (
    when (list_any (lies_below project) c.inputs) (cause.Foreign 0)
    ∷ when (list_any (meets c.output) c.inputs) (cause.Inputs 0 0)
    ∷ [])

-- why no description of the project has this command, whatever it has besides, the first cause that applies; none where it is
-- a command of the project
abbrev pub command_cause : List ℕ → Command → Option DescCause
command_cause project c = option_or (command_word_cause project c) (command_link_cause (project ∷ []) c)

-- ---- all

abbrev pub value_cause : List ℕ → Data → Option DescCause
value_cause project d = option_or (shape_cause d) (rule_cause project (desc_of d))

abbrev pub read_cause : List ℕ → Option Data → Option DescCause
read_cause project None = Some cause.NotJson
read_cause project (Some d) = value_cause project d

-- why the text is no description of the project, the first cause that applies; none where it is one
abbrev pub desc_cause : List ℕ → List ℕ → Option DescCause
desc_cause project text = read_cause project (value_of text)

-- want of memory, or the cause that applies
abbrev pub Tells : Option DescCause → DescError → Type 0
Tells applies (Bad c) = applies ≡ Some c
Tells applies Memory = Unit {0}
