use Rattle.save_host.proofs.Writing.{untried}
use Rattle.ws_shared.proofs.saving.write.Goals as goal

pub returns-in-None-clause-tried : goal.returns-in-None-clause-tried
returns-in-None-clause-tried g c = let d = g.D.Disk in λ x asked kept. untried d.moment d.left_since d.may_leave d.faults x c.args.keeper.now kept
