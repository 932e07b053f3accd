use Rattle.save_store.proofs.OneDamage.{look_spoilt}
use Rattle.save_store.proofs.store.Store.check.Goals as goal

pub returns-clause-spoilt : goal.returns-clause-spoilt
returns-clause-spoilt g c = look_spoilt (g.D.Disk.seen c.args.disk.now) c.look.result c.look.ensures.found c.look.ensures.damaged
