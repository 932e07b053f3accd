use Rattle.build_host.proofs.Results.{closed_on}
use Rattle.build_host.proofs.opening.close.Goals as goal

pub returns-clause-closed : goal.returns-clause-closed
returns-clause-closed g c = closed_on c.did-2.result c.args.core.now c.did.new.core c.did-2.new.core c.in_ok-rule.rule c.in_ok-rule.ensures c.in_ok-did.ensures.steps c.did-2.ensures.steps
