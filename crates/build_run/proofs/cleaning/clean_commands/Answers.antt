use Rattle.std.proofs.Common.{◌+◌, arith, ap}
use Rattle.build_run.proofs.Sweeping.{next_item, commands_more, commands_halt, commands_swept, on_err}
use Rattle.build_run.proofs.cleaning.clean_commands.Goals as goal

pub clean_command-requires-clause-described : goal.clean_command-requires-clause-described
clean_command-requires-clause-described g c =
    let i = c.loop-command in
    next_item (g.H.Host.book c.args.host.now) _ c.args.project.now c.args.commands.now i.command-index i.index c.command-item.result c.requires.described i.invariant.0 i.invariant.1 c.loop-command-test.true c.command-item.is

pub returns-in_err-clean_command-clause-halted : goal.returns-in_err-clean_command-clause-halted
returns-in_err-clean_command-clause-halted g c =
    let i = c.loop-command in
    on_err c.from_residual.result (commands_halt (g.H.Host.book c.args.host.now) _ _ c.args.project.now c.args.commands.now i.command-index c.command-item.result i.invariant.0
    c.loop-command-test.true c.command-item.is c.in_err-clean_command.ensures.same)

pub returns-in_err-clean_command-clause-stays : goal.returns-in_err-clean_command-clause-stays
returns-in_err-clean_command-clause-stays g c = g.H.Host.stays_on _ _ _ c.loop-command.invariant.2 c.clean_command.ensures.stays

pub loop-command-preserved : goal.loop-command-preserved
loop-command-preserved g c =
    let i = c.loop-command in (
      commands_more (g.H.Host.book c.args.host.now) _ _ c.args.project.now c.args.commands.now i.command-index i.index c.command-item.result i.invariant.0 i.invariant.1
          c.loop-command-test.true c.command-item.is c.in_ok-clean_command.ensures.swept,
      ap (λ n. n + 1) i.invariant.1,
      g.H.Host.stays_on _ _ _ i.invariant.2 c.clean_command.ensures.stays,
    )

pub returns-clause-swept : goal.returns-clause-swept
returns-clause-swept g c =
    let i = c.loop-command in
    commands_swept (g.H.Host.book c.args.host.now) _ c.args.project.now c.args.commands.now i.command-index i.invariant.0 (let e = c.loop-command-test.false in omega arith)
