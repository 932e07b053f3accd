use Rattle.std.proofs.Common.{◌+◌, arith, ap}
use Rattle.std.proofs.lemmas.Result.{err_from_is_err_and}
use Rattle.build_run.proofs.Loops.{next_item, commands_more, commands_halt, commands_came}
use Rattle.build_run.proofs.building.build_commands.Goals as goal

pub build_command-requires-clause-described : goal.build_command-requires-clause-described
build_command-requires-clause-described g c =
    let i = c.loop-command in
    next_item g.H.Told.Meanings.meaning (g.H.Host.book c.args.host.now) _ c.args.kind c.args.project.now c.args.commands.now i.command-index i.index i.touched c.command-item.result c.requires.described
    i.invariant.0 i.invariant.1 c.loop-command-test.true c.command-item.is

pub returns-in_err-touched-clause-halted : goal.returns-in_err-touched-clause-halted
returns-in_err-touched-clause-halted g c =
    let p = err_from_is_err_and c.from_residual.result c.from_residual.ensures.1 in
    let i = c.loop-command in
    rw (p.1, p.2) (commands_halt g.H.Told.Meanings.meaning (g.H.Host.book c.args.host.now) _ _ c.args.kind c.args.project.now c.args.commands.now i.command-index i.index i.touched c.command-item.result _
    i.invariant.0 i.invariant.1 c.loop-command-test.true c.command-item.is c.in_err-touched.ensures.halted)

pub returns-in_err-touched-clause-stays : goal.returns-in_err-touched-clause-stays
returns-in_err-touched-clause-stays g c = g.H.Host.stays_on _ _ _ c.loop-command.invariant.2 c.build_command.ensures.stays

pub loop-command-preserved : goal.loop-command-preserved
loop-command-preserved g c =
    let i = c.loop-command in (
      commands_more g.H.Told.Meanings.meaning (g.H.Host.book c.args.host.now) _ _ c.args.kind c.args.project.now c.args.commands.now i.command-index i.index i.touched c.in_ok-touched.field-0 c.command-item.result
          i.invariant.0 i.invariant.1 c.loop-command-test.true c.command-item.is c.in_ok-touched.ensures.built,
      ap (λ n. n + 1) i.invariant.1,
      g.H.Host.stays_on _ _ _ i.invariant.2 c.build_command.ensures.stays,
    )

pub returns-clause-came : goal.returns-clause-came
returns-clause-came g c =
    let i = c.loop-command in
    commands_came g.H.Told.Meanings.meaning (g.H.Host.book c.args.host.now) _ c.args.kind c.args.project.now c.args.commands.now i.command-index i.touched i.invariant.0 (let e = c.loop-command-test.false in omega arith)
