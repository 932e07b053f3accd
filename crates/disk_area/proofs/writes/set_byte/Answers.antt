use Rattle.std.proofs.lemmas.Result.{on_ok_weaker}
use Rattle.disk_area.proofs.Bytes.{set_came}
use Rattle.disk_area.proofs.writes.set_byte.Goals as goal

pub returns-clause-set : goal.returns-clause-set
returns-clause-set g c =
    on_ok_weaker c.sync.result (λ durable i left. set_came c.args.area c.args.at c.args.value _ _ _ i c.requires (c.in_ok-write_at.ensures.written) (durable i left) (c.write_at.ensures.crash i (c.sync.ensures.crash i left))) c.sync.ensures.durable
