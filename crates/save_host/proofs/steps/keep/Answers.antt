use Rattle.std.proofs.Common.{false}
use Rattle.save_host.proofs.Stepping.{keeps_ok}
use Rattle.save_host.proofs.steps.keep.Goals as goal

pub returns-clause-kept : goal.returns-clause-kept
returns-clause-kept c =
    let e = c.perform.ensures in
    let s = c.settle.ensures in
    keeps_ok c.perform.result c.args.core.now c.perform.new.self c.args.pass false c.args.states s.sound s.placed c.requires.under_way e.opened e.state e.history
