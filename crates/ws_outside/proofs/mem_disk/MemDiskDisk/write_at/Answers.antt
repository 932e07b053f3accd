use Rattle.std.proofs.Common.{◌≤◌, length, ap, arith}
use Rattle.ws_outside.proofs.Replays.{either, came_more}
use Rattle.ws_outside.proofs.mem_disk.MemDiskDisk.write_at.Goals as goal

pub returns-in-Err-clause-crash : goal.returns-in-Err-clause-crash
returns-in-Err-clause-crash c =
    let step = c.step-in-Err in
    let piece = c.args.piece.now in
    let fewer : length c.empty-bytes.result ≤ length piece = omega (arith, ap length c.empty-bytes.ensures) in
    either step.result step.ensures.stepped step.ensures.failed
    (λ s i left. came_more c.args.area c.args.at (length c.empty-bytes.result) (length piece) _ i fewer (s.crash i left))
    (λ s i left. came_more c.args.area c.args.at (length c.empty-bytes.result) (length piece) _ i fewer (s.crash i left))
