use Rattle.build_host.proofs.Keeping.{goes_either, stepped_ok}
use Rattle.build_host.proofs.steps.did.Goals as goal

pub returns-clause-steps : goal.returns-clause-steps
returns-clause-steps g c = stepped_ok c.perform.result c.args.event c.args.core.now c.perform.new.self c.settle.ensures.sound c.settle.ensures.placed c.perform.ensures.opened c.requires.building c.requires.alone
    c.perform.ensures.state c.perform.ensures.history

pub returns-clause-goes : goal.returns-clause-goes
returns-clause-goes g c = goes_either c.perform.result c.args.event c.args.core.now c.perform.new.self c.settle.ensures.sound c.settle.ensures.placed c.perform.ensures.opened c.requires.building c.requires.alone
    c.perform.ensures.state c.perform.ensures.history c.perform.ensures.err
