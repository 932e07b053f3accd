use Rattle.save_store.proofs.Counting.{look_told}
use Rattle.save_store.proofs.look.look.Goals as goal

pub returns-clause-found : goal.returns-clause-found
returns-clause-found g c =
    let held = c.in_ok-holdings.holdings in
    look_told (g.D.Disk.seen c.args.disk.now) (record { left = c.counts-left.result; right = c.counts-right.result; chosen = c.chosen-chosen.result; elements = c.in_ok-elements.elements })
    (held.left.head, held.right.head) held.left.area held.right.area c.in_ok-holdings.ensures.heads c.in_ok-holdings.ensures.left c.in_ok-holdings.ensures.right c.chosen-chosen.ensures c.counts-left.ensures c.counts-right.ensures c.in_ok-elements.ensures.ok
