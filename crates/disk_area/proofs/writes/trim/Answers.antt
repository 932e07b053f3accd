use Rattle.std.proofs.lemmas.Result.{on_ok_weaker}
use Rattle.disk_area.proofs.Bytes.{trimmed_came}
use Rattle.disk_area.proofs.writes.trim.Goals as goal

pub returns-clause-trimmed : goal.returns-clause-trimmed
returns-clause-trimmed g c =
    on_ok_weaker c.sync.result (λ durable i left. trimmed_came c.args.area c.args.len _ _ _ i (c.in_ok-cut.ensures.cut) (durable i left) (c.cut.ensures.crash i (c.sync.ensures.crash i left))) c.sync.ensures.durable
