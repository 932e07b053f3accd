use Rattle.std.proofs.Common.{◌∙◌}
use Rattle.ws_outside.specs.Disk.{held}
use Rattle.disk_area.proofs.Readings.{not_memory, no_fault, both_told, head_tells}
use Rattle.disk_area.proofs.read.head.Goals as goal

pub returns-clause-head : goal.returns-clause-head
returns-clause-head g c =
    both_told (g.D.Disk.seen c.args.disk.now) (g.D.Disk.seen c.size.new.disk) c.size.ensures.seen c.in_ok-len.ensures.told c.in_ok-count.ensures.told
    (λ both size front. head_tells c.args.area c.in_ok-len.len c.in_ok-count.count c.fetch.new.buf (held c.args.area both) _ _ size front c.parse_head.ensures c.placed.ensures.tells)

pub returns-clause-no_memory : goal.returns-clause-no_memory
returns-clause-no_memory g c = not_memory c.placed.result c.placed.ensures.of_bytes

pub returns-clause-cause : goal.returns-clause-cause
returns-clause-cause g c = no_fault _ _ c.placed.result c.placed.ensures.of_bytes (c.in_ok-count.ensures.cause ∙ c.in_ok-len.ensures.cause)
