use Rattle.ws_outside.proofs.Replays.{either, came_same, came_synced}
use Rattle.ws_outside.proofs.mem_disk.MemDiskDisk.sync.Goals as goal

pub returns-clause-crash : goal.returns-clause-crash
returns-clause-crash c =
    let old = c.args.self.now in
    either c.step.result c.step.ensures.stepped c.step.ensures.failed
    (λ s i left. came_synced c.args.area old.first old.calls i (s.crash i left))
    (λ s i left. came_same c.args.area _ i (s.crash i left))
