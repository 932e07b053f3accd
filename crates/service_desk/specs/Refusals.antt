-- Why what concerns the services is refused.
use Rattle.std.specs.Prelude.{ℕ, Bool, not, ◌&&◌, nat_le, List, [], ◌∷◌, ◌++◌, length, Option, Some, None, slice_get, unwrap_or}
use Rattle.std.specs.Option.{option_map}
use Rattle.std.specs.List.{list_any}
use Rattle.std.specs.Str.{bytes_eq}
use Rattle.std.specs.FinMap.{contains_key}
use Rattle.res_path.specs.Paths.{Names}
use Rattle.sched_rules.specs.Atoms.{atom_contains}
use Rattle.sched_rules.specs.Rules.{rule_contains}
use Rattle.sched_rules.specs.declared.ws_atom.WsAtom.{WsAtom}
use Rattle.sched_rules.specs.declared.ws_atom.WsAtom.TheVariants as atoms
use Rattle.rule_table.specs.Tables.{outer_rule}
use Rattle.rule_table.specs.declared.held.Held.{Held}
use Rattle.pass_table.specs.Passes.{Passes, serves}
use Rattle.ws_elem.specs.Trees.{Tree}
use Rattle.proj_desc.specs.declared.command.Command.{Command}
use Rattle.proj_desc.specs.FirstCause.{when}
use Rattle.op_kind.specs.declared.refusal.OpRefusal.TheVariants.{NotFound, ProjectClosed}
use Rattle.op_kind.specs.Places.{is_shut}
use Rattle.core_event.specs.declared.reply.Refusal.{Refusal}
use Rattle.core_event.specs.declared.reply.Refusal.TheVariants.{NotContained, NotServices, NoBuilder, NoCommand, Operation, ServicesOut}
use Rattle.build_plan.specs.Descriptions.{desc_at}
use Rattle.service_desk.specs.declared.desk.Desk.{Desk}
use Rattle.service_desk.specs.Desks.{is_building}

-- the rule of the root
abbrev pub root_rule : List WsAtom
root_rule = atoms.Path [] ∷ []

abbrev pub unless_contained : List WsAtom → Option Refusal
unless_contained outer = when (not (rule_contains atom_contains outer root_rule)) (NotContained outer)

-- the topmost rule of the pass that isn't null, or the null one where it has none such, doesn't contain the root
abbrev pub unrooted : List (Held WsAtom) → ℕ → Option Refusal
unrooted held pass = unless_contained (unwrap_or (outer_rule pass held) [])

-- a pass has the services
abbrev pub services_out : Passes WsAtom → Option Refusal
services_out passes = option_map ServicesOut passes.services

-- this pass hasn't them, or not for this
abbrev pub not_serving : Passes WsAtom → Bool → ℕ → Option Refusal
not_serving passes fits pass = when (not (serves passes pass && fits)) (NotServices passes.services)

-- no project of this name is there, or it is closed
abbrev pub project_causes : Tree → List ℕ → List (Option Refusal)
project_causes t project =
    when (not (contains_key t (project ∷ []))) (Operation (NotFound (project ∷ [])))
    ∷ when (is_shut t (project ∷ [])) (Operation (ProjectClosed (project ∷ [])))
    ∷ []

-- so it is of the one project of a build, if it is of one
abbrev pub scope_causes : Tree → Option (List ℕ) → List (Option Refusal)
scope_causes t None = []
scope_causes t (Some project) = project_causes t project

-- what the description of the project lists
abbrev pub commands_of : Tree → List ℕ → List Command
commands_of t project = unwrap_or (option_map (λ d. d.commands) (desc_at t project)) []

-- there is no builder for the command
abbrev pub no_builder : Names → Option Command → Option Refusal
no_builder builders None = None
no_builder builders (Some c) = when (not (list_any (bytes_eq c.builder) builders)) (NoBuilder c.builder)

-- the project has no command of this number, or there is no builder for it
abbrev pub command_causes : Tree → Names → List ℕ → ℕ → List (Option Refusal)
command_causes t builders project index =
    let commands = commands_of t project in
    when (nat_le (length commands) index) (NoCommand (length commands)) ∷ no_builder builders (slice_get commands index) ∷ []

-- why the command of this number of the project is neither built nor cleaned
abbrev pub site_causes : Passes WsAtom → Tree → Desk → ℕ → List ℕ → ℕ → List (Option Refusal)
site_causes passes t d pass project index =
    not_serving passes (is_building d.serving) pass ∷ unrooted passes.rules pass ∷ project_causes t project ++ command_causes t d.builders project index
