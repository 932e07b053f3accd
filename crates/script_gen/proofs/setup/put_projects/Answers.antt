use Rattle.std.proofs.Common.{◌∙◌, sym, ap, ◌++◌, ◌*◌, arith}
use Rattle.std.proofs.lemmas.List.{append-nil}
use Rattle.script_gen.specs.Draws.{behind}
use Rattle.script_gen.specs.Generated.{project_commands}
use Rattle.script_gen.proofs.Made.{behind_none, behind_next, some_more}
use Rattle.script_gen.proofs.Parts.{all_projects}
use Rattle.script_gen.proofs.setup.put_projects.Goals as goal

pub loop-project-init : goal.loop-project-init
loop-project-init c = (sym (append-nil c.args.commands.now), sym (behind_none c.args.draws.now))

pub loop-project-preserved : goal.loop-project-preserved
loop-project-preserved c =
    let s = c.args.draws.now in
    let n = c.loop-project.project in
    let is = c.loop-project.invariant in (
      c.in_ok-put_project.ensures.commands ∙ ap (λ x. c.loop-project.commands ++ project_commands x n) is.1 ∙ some_more (λ p. project_commands (behind s (100 * p)) p) n c.args.commands.now c.loop-project.commands is.0,
      c.in_ok-put_project.ensures.draws ∙ behind_next 100 s n c.loop-project.draws is.1,
    )

pub returns-clause-commands : goal.returns-clause-commands
returns-clause-commands c =
    all_projects c.args.draws.now c.loop-project.project c.args.commands.now c.loop-project.commands (omega (arith, c.loop-project-test.false, c.loop-project.auto.project-end)) c.loop-project.invariant.0
