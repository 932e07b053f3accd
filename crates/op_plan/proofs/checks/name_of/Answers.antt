use Rattle.std.proofs.Common.{◌≡◌, ◌∙◌}
use Rattle.std.specs.Prelude.{Some, None}
use Rattle.op_kind.specs.Places.{project_name}
use Rattle.op_plan.proofs.Named.{last_is, is_named}
use Rattle.op_plan.proofs.checks.name_of.Goals as goal

pub unreachable-requires : goal.unreachable-requires
unreachable-requires c =
    let no : None ≡ Some (project_name c.args.path.now) = c.in-None.ensures ∙ last_is c.args.path.now c.in_ok-project.project c.requires c.in_ok-project.ensures in cc

pub no_memory-requires : goal.no_memory-requires
no_memory-requires c =
    c.in-Err.ensures.only (is_named c.args.path.now c.in_ok-project.project c.in-Some.text.now c.requires c.in_ok-project.ensures c.in-Some.ensures c.as_str-text.ensures.form)
