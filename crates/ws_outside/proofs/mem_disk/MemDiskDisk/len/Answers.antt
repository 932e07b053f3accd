use Rattle.ws_outside.proofs.Replays.{came_same}
use Rattle.ws_outside.proofs.mem_disk.MemDiskDisk.len.Goals as goal

pub returns-in_err-step-clause-crash : goal.returns-in_err-step-clause-crash
returns-in_err-step-clause-crash c = λ i left. came_same c.args.area _ i (c.in_err-step.ensures.failed.crash i left)
