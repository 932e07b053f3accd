use Rattle.disk_area.proofs.Areas.{told_pieces}
use Rattle.disk_area.proofs.whole.read_area.Goals as goal

pub returns-clause-pieces : goal.returns-clause-pieces
returns-clause-pieces g c = told_pieces c.args.area (g.D.Disk.seen c.args.disk.now) c.whole.result c.whole.ensures.told
