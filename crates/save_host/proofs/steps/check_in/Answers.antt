use Rattle.save_history.proofs.Stages.{checks_in, ends}
use Rattle.save_host.proofs.steps.check_in.Goals as goal

pub unreachable-requires : goal.unreachable-requires
unreachable-requires c =
    let s = c.settle.ensures in
    let u = c.requires.under_way in
    let no = c.in-Err.ensures.checks_in (checks_in c.args.core.now c.perform.new.self c.args.pass u.0 s.sound s.placed u.1 c.in-Err.ensures.opened c.args.answer u.2) in
    cc

pub returns : goal.returns
returns c =
    let e = c.in-Ok.ensures in
    let s = c.settle.ensures in
    let u = c.requires.under_way in
    ends c.args.core.now c.perform.new.self c.args.pass u.0 s.sound s.placed u.1 e.opened c.args.answer u.2 e.state e.history
